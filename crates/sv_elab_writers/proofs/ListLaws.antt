-- How paths are put behind others.
use Rattle.std.proofs.Common.{◌≡◌, List, [], ◌++◌, sym, ap, ◌∙◌, append_assoc, append-nil}
use Rattle.sv_names.specs.Types.{Path}

-- nothing is put behind
pub joined_none : (ps : List Path) → ps ≡ ps ++ []
joined_none ps = sym (append-nil ps)

-- what is put behind in a turn is what the rest begins with
pub turn_joined : (ps qs xs ys : List Path) → qs ≡ ps ++ xs → qs ++ ys ≡ ps ++ (xs ++ ys)
turn_joined ps qs xs ys a = ap (λ l. l ++ ys) a ∙ append_assoc ps xs ys

-- the last turn has put all behind
pub all_joined : (ps qs xs : List Path) → qs ++ [] ≡ ps ++ xs → qs ≡ ps ++ xs
all_joined ps qs xs is = sym (append-nil qs) ∙ is

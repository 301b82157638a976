-- Rules for each of a list, one after the other.
use Rattle.std.proofs.Common.{◌≡◌, ◌<◌, List, length, refl, ap, sym, ◌∙◌}
use Rattle.std.specs.Prelude.{get_or}
use Rattle.std.specs.List.{between}
use Rattle.std.proofs.lemmas.Slice.{first_rest}
use Rattle.sv_names.specs.declared.checked.Checked.{Checked}
use Rattle.sv_names.specs.declared.checked.Checked.TheVariants.{Good, Broken}
use Rattle.sv_names.specs.Checked.{◌where_also◌, all}
use Rattle.sv_names.proofs.Joined.{next_guarded}

-- nothing is broken before
pub none_before : (c : Checked (Unit {0})) → (Good tt where_also c) ≡ c
none_before (Good u) = refl
none_before (Broken f) = refl

-- nothing comes behind
pub none_behind : (c : Checked (Unit {0})) → (c where_also Good tt) ≡ c
none_behind (Good u) = refl
none_behind (Broken f) = refl

-- a turn tells the rule of the first of the rest
pub turn_guard : {A : Type 0} (f : A → Checked (Unit {0})) (xs : List A) (d : A) (guards r next : Checked (Unit {0})) → 0 < length xs
    → next ≡ (guards where_also r) → r ≡ f (get_or xs 0 d) → (next where_also all f (between 1 (length xs) xs)) ≡ (guards where_also all f xs)
turn_guard f xs d guards r next some made is =
    let rest = all f (between 1 (length xs) xs) in
    ap (λ g. g where_also rest) made ∙ next_guarded guards r rest ∙ ap (λ y. guards where_also (y where_also rest)) is
    ∙ ap (λ ys. guards where_also all f ys) (sym (first_rest xs d some))

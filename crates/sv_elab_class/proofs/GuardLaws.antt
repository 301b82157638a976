-- Rules for each of a list, one after the other.
use Rattle.std.proofs.Common.{◌≡◌, List, [], ◌∷◌, refl, ap, ◌∙◌}
use Rattle.sv_names.specs.declared.checked.Checked.{Checked}
use Rattle.sv_names.specs.declared.checked.Checked.TheVariants.{Good, Broken}
use Rattle.sv_names.specs.Checked.{◌where_also◌, all}
use Rattle.sv_names.proofs.Joined.{next_guarded}

-- nothing is broken before
pub none_before : (c : Checked (Unit {0})) → (Good tt where_also c) ≡ c
none_before (Good u) = refl
none_before (Broken f) = refl

-- nothing comes behind
pub none_behind : (c : Checked (Unit {0})) → (c where_also Good tt) ≡ c
none_behind (Good u) = refl
none_behind (Broken f) = refl

-- a turn tells the rule of one
pub turn_guard : {A : Type 0} (f : A → Checked (Unit {0})) (x : A) (xs : List A) (guards r next : Checked (Unit {0}))
    → next ≡ (guards where_also r) → r ≡ f x → (next where_also all f xs) ≡ (guards where_also all f (x ∷ xs))
turn_guard f x xs guards r next made is =
    ap (λ g. g where_also all f xs) made ∙ next_guarded guards r (all f xs) ∙ ap (λ y. guards where_also (y where_also all f xs)) is

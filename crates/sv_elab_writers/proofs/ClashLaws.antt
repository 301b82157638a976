-- Rules for each of a list, one after another.
use Rattle.std.proofs.Common.{◌≡◌, ℕ, ◌+◌, ◌<◌, List, ◌∷◌, length, get_or, drop, map, refl, ap, sym, ◌∙◌}
use Rattle.std.proofs.lemmas.List.{drop_more}
use Rattle.sv_names.specs.declared.checked.Checked.{Checked}
use Rattle.sv_names.specs.declared.checked.Checked.TheVariants.{Good, Broken}
use Rattle.sv_names.specs.Checked.{all, ◌where_also◌}
use Rattle.sv_names.proofs.Joined.{next_guarded}

-- nothing is broken before
pub none_before : (c : Checked (Unit {0})) → (Good tt where_also c) ≡ c
none_before (Good u) = refl
none_before (Broken f) = refl

-- nothing comes behind
pub none_behind : (c : Checked (Unit {0})) → (c where_also Good tt) ≡ c
none_behind (Good u) = refl
none_behind (Broken f) = refl

-- one more of a list
pub one_more : {X A : Type 0} (f : A → Checked (Unit {0})) (v : X → A) (xs : List X) (i : ℕ) (x : X) (guards next : Checked (Unit {0}))
    → i < length xs → get_or xs i x ≡ x → next ≡ (guards where_also f (v x))
    → (next where_also all f (map v (drop (i + 1) xs))) ≡ (guards where_also all f (map v (drop i xs)))
one_more f v xs i x guards next within is made =
    ap (λ c. c where_also all f (map v (drop (i + 1) xs))) made
    ∙ next_guarded guards (f (v x)) (all f (map v (drop (i + 1) xs)))
    ∙ ap (λ l. guards where_also all f (map v l)) (sym (drop_more xs i x within ∙ ap (λ y. y ∷ drop (i + 1) xs) is))

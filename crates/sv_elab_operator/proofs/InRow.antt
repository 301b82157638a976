-- Concatenations, from the right.
use Rattle.std.proofs.Common.{◌≡◌, List, [], ◌∷◌, ◌++◌, refl, ap, sym, ◌∙◌, subst}
use Rattle.sv_value.specs.declared.place.Place.{Place}
use Rattle.sv_names.specs.declared.checked.Checked.{Checked}
use Rattle.sv_names.specs.declared.checked.Checked.TheVariants.{Good}
use Rattle.sv_names.specs.declared.refusal.Refusal.{Refusal}
use Rattle.sv_names.specs.declared.typed.Typed.{Typed}
use Rattle.sv_names.specs.Checked.{◌▷◌}
use Rattle.sv_names.specs.Given.{Fails}
use Rattle.sv_names.specs.Operators.{Placed, joined, join_of}
use Rattle.sv_elab_operator.specs.Concatenations.{join_two, joined_before, row_joined, whole_of, parts_stand}
use Rattle.sv_elab_operator.proofs.Judged.{fails_then}

-- ---- the last part

-- the last of the parts goes before all others
pub last_before : (ps : List Placed) (p : Placed) (r : Typed) → joined_before (ps ++ p ∷ []) r ≡ joined_before ps (join_two p.1 r)
last_before [] p r = refl
last_before (q ∷ ps) p r = ap (join_two q.1) (last_before ps p r)

-- parts behind a first one
joined_last : (q : Placed) (ps : List Placed) (p : Placed) → joined q.1 (ps ++ p ∷ []) ≡ join_two q.1 (joined_before ps p.1)
joined_last q [] p = refl
joined_last q (s ∷ ps) p = ap (join_two q.1) (joined_last s ps p)

-- all parts, by the last one and those before it
row_is : (ps : List Placed) (p : Placed) → whole_of (ps ++ p ∷ []) ≡ row_joined ps p.1
row_is [] p = refl
row_is (q ∷ []) p = refl
row_is (q ∷ s ∷ ps) p = joined_last q (s ∷ ps) p

pub whole_is : (qs ps : List Placed) (p : Placed) → qs ≡ ps ++ p ∷ [] → row_joined ps p.1 ≡ whole_of qs
whole_is qs ps p h = sym (ap whole_of h ∙ row_is ps p)

-- ---- the judgement before the value

-- a concatenation is judged, and then made
join_is : (at : Place) (ps : List Placed) → parts_stand at ps ▷ (λ _. Good (whole_of ps)) ≡ join_of at ps
join_is at [] = refl
join_is at (p ∷ ps) = refl

pub judged_first : (e : Refusal) (at : Place) (ps : List Placed) → Fails e (parts_stand at ps) → Fails e (join_of at ps)
judged_first e at ps h = subst (λ (c : Checked Typed). Fails e c) (join_is at ps) (fails_then e (parts_stand at ps) (λ _. Good (whole_of ps)) h)

pub judged_whole : (at : Place) (ps : List Placed) → parts_stand at ps ≡ Good tt → join_of at ps ≡ Good (whole_of ps)
judged_whole at ps h = sym (join_is at ps) ∙ ap (λ (c : Checked (Unit {0})). c ▷ (λ _. Good (whole_of ps))) h

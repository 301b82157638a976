-- What is judged before it is made.
use Rattle.std.proofs.Common.{◌≡◌, ℕ, ◌+◌, Bool, true, false, not, ℤ, pos, refl, ap, sym, ◌∙◌, subst, ◌<◌, ◌≤◌, arith}
use Rattle.std.specs.Prelude.{nat_lt, ◌-ℤ◌, ◌+ℤ◌, nat_abs, Result, if◌then◌else◌}
use Rattle.std.proofs.lemmas.Bool.Decides.{nat_tests}
use Rattle.sv_value.specs.declared.place.Place.{Place}
use Rattle.sv_value.specs.Vector.{widest}
use Rattle.sv_flat.specs.declared.object.Bounds.{Bounds}
use Rattle.sv_tree.specs.declared.word.PartWord.{PartWord}
use Rattle.sv_names.specs.declared.checked.Checked.{Checked}
use Rattle.sv_names.specs.declared.checked.Checked.TheVariants.{Good, Broken}
use Rattle.sv_names.specs.declared.refusal.Refusal.{Refusal}
use Rattle.sv_names.specs.declared.refusal.Refusal.TheVariants.{Rule, Memory}
use Rattle.sv_names.specs.declared.typed.Typed.{Typed}
use Rattle.sv_names.specs.Checked.{both, ◌▷◌, broken_at, rule, ◌where_also◌}
use Rattle.sv_names.specs.Given.{Fails, Gives}
use Rattle.sv_names.specs.Types.{is_array}
use Rattle.sv_names.specs.Values.{not_too_wide}
use Rattle.sv_names.specs.Selects.{is_descending, selected, selected_at, fixed_part, number_typed, part_of, part_select_of}
use Rattle.sv_elab_select.specs.Parts.{offset_from, ends_stand}

-- what fails before a value fails the value
pub fails_then : {A B : Type 0} (e : Refusal) (c : Checked A) (go : A → Checked B) → Fails e c → Fails e (c ▷ go)
fails_then (Rule n at) c go h = ap (λ x. x ▷ go) h
fails_then Memory c go h = tt

-- ---- a rule beside a value

-- what fails a rule fails the value that it guards
pub also_first : {A : Type 0} (e : Refusal) (x : A) (r : Checked (Unit {0})) → Fails e r → Fails e (Good x where_also r)
also_first (Rule n at) x r h = ap (λ (s : Checked (Unit {0})). Good x where_also s) h
also_first Memory x r h = tt

-- a value that keeps the rule
pub also_whole : {A : Type 0} (x : A) (r : Checked (Unit {0})) → r ≡ Good tt → (Good x where_also r) ≡ Good x
also_whole x r h = ap (λ (s : Checked (Unit {0})). Good x where_also s) h

-- a value beside two rules
two_rules : {A : Type 0} (x : A) (r s : Checked (Unit {0})) → Good x where_also r where_also s ≡ (r where_also s) ▷ (λ _. Good x)
two_rules x (Good u) (Good v) = refl
two_rules x (Good u) (Broken g) = refl
two_rules x (Broken f) (Good v) = refl
two_rules x (Broken f) (Broken g) = refl

-- what is judged, and then made
pub first_fails : {A : Type 0} (e : Refusal) (x : A) (r : Checked (Unit {0})) (c : Checked A) → c ≡ r ▷ (λ _. Good x) → Fails e r → Fails e c
first_fails (Rule n at) x r c is h = is ∙ ap (λ (s : Checked (Unit {0})). s ▷ (λ _. Good x)) h
first_fails Memory x r c is h = tt

pub then_made : {A : Type 0} (x : A) (r : Checked (Unit {0})) (c : Checked A) → c ≡ r ▷ (λ _. Good x) → r ≡ Good tt → c ≡ Good x
then_made x r c is h = is ∙ ap (λ (s : Checked (Unit {0})). s ▷ (λ _. Good x)) h

-- ---- widths

not_broken : (b : Bool) (n : ℕ) (at : Place) → rule n at b ≡ Good tt → b ≡ false
not_broken true n at h = cc
not_broken false n at h = refl

-- what is judged is no wider than a vector
narrow : (at : Place) (w : ℕ) → not_too_wide at w ≡ Good tt → w ≤ widest
narrow at w h = let e : nat_lt widest w ≡ false = not_broken (nat_lt widest w) 13 at h in grind (arith, nat_tests)

both_kept : (r s : Checked (Unit {0})) → (r where_also s) ≡ Good tt → s ≡ Good tt
both_kept (Good u) (Good v) h = refl
both_kept (Good u) (Broken g) h = cc
both_kept (Broken f) (Good v) h = refl
both_kept (Broken f) (Broken g) h = cc

pub ends_near : (at pe : Place) (b : Bounds) (l r : ℤ) → ends_stand at pe b l r ≡ Good tt → nat_abs (l -ℤ r) < widest
ends_near at pe b l r h =
    let near : nat_abs (l -ℤ r) + 1 ≤ widest = narrow pe (nat_abs (l -ℤ r) + 1) (both_kept _ _ h) in omega (arith, near)

-- ---- selects

by_side : (d : Bool) (w : ℕ) (x y : ℤ) (at : Place) (a i : Typed)
    → (if d then selected_at w x false at a i else selected_at w y true at a i) ≡ selected_at w (if d then x else y) (not d) at a i
by_side true w x y at a i = refl
by_side false w x y at a i = refl

-- the bits from an offset on
pub selected_is : (w : ℕ) (back : ℤ) (at : Place) (b : Bounds) (a i : Typed)
    → selected_at w (offset_from b back) (not (is_descending b)) at a i ≡ selected w back at b a i
selected_is w back at b a i = sym (by_side (is_descending b) w (pos 0 -ℤ (b.right +ℤ back)) (b.right +ℤ back) at a i)

module _ (at pe pl : Place) (b : Bounds) (a : Typed) where
  fixed_is : (l r : ℤ) → fixed_part at pe pl b a l r ≡ ends_stand at pe b l r ▷ (λ _. Good (selected (nat_abs (l -ℤ r) + 1) (pos 0) pl b a (number_typed pl r)))
  fixed_is l r = two_rules _ _ _

  pub ends_first : (l r x y : ℤ) → x ≡ l → y ≡ r → (e : Refusal) → Fails e (ends_stand at pe b x y) → Fails e (fixed_part at pe pl b a l r)
  ends_first l r x y is_l is_r e h =
      subst (λ (m : ℤ). Fails e (fixed_part at pe pl b a l m)) is_r
      (subst (λ (k : ℤ). Fails e (fixed_part at pe pl b a k y)) is_l (first_fails e _ _ _ (fixed_is x y) h))

  pub ends_whole : (l r x y : ℤ) → x ≡ l → y ≡ r → (given : Result Typed Refusal) → ends_stand at pe b x y ≡ Good tt
      → Gives given (Good (selected (nat_abs (x -ℤ y) + 1) (pos 0) pl b a (number_typed pl y))) → Gives given (fixed_part at pe pl b a l r)
  ends_whole l r x y is_l is_r given h g =
      subst (λ (m : ℤ). Gives given (fixed_part at pe pl b a l m)) is_r
      (subst (λ (k : ℤ). Gives given (fixed_part at pe pl b a k y)) is_l
      (subst (λ (c : Checked Typed). Gives given c) (sym (then_made _ _ _ (fixed_is x y) h)) g))

-- parts of what is no array
pub vector_part : (w : PartWord) (at pe pl pr : Place) (a : Typed) (l r : Checked Typed) → is_array a.ty ≡ false
    → part_of w at pe pl pr a l r ≡ part_select_of w at pe pl pr a l r
vector_part w at pe pl pr a l r e =
    let none : Checked Typed = both (broken_at 14 at) (both l r) ▷ (λ p. Good p.0) in
    sym (ap (λ (b : Bool). if b then none else part_of w at pe pl pr a l r) e)

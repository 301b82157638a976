-- Skews, one after the other; what they break does not depend on those before.
use Rattle.std.proofs.Common.{arith, ◌≡◌, ◌∙◌, ℕ, ◌-◌, ◌*◌, ◌^◌, Bool, true, false, List, [], ◌∷◌, Option, Some, None, if◌then◌else◌, nat_lt, refl, ap, sym, subst}
use Rattle.std.specs.Prelude.{ℤ, pos, negsuc, nat_abs, ◌<ℤ◌, ◌≤ℤ◌}
use Rattle.std.proofs.lemmas.Bool.Decides.{nat_tests}
use Rattle.sv_value.specs.declared.place.Place.{Place}
use Rattle.sv_flat.specs.declared.design.Scale.{Scale}
use Rattle.sv_flat.specs.Config as config
use Rattle.sv_tree.specs.declared.word.Direction.{Direction}
use Rattle.sv_tree.specs.declared.expr.Expr.{Expr, Number, Time, Text, Null, Dollar, Group', Post', System, SuperNew, Join', Repeat', Cast', Unary', Binary', Choose'}
use Rattle.sv_tree.specs.View.{expr}
use Rattle.sv_tree.specs.Units as tree
use Rattle.sv_tree.specs.Units.{Sided, ClockingItem}
use Rattle.sv_names.specs.declared.checked.Checked.{Checked}
use Rattle.sv_names.specs.declared.checked.Checked.TheVariants.{Good}
use Rattle.sv_names.specs.declared.refusal.Refusal.{Refusal}
use Rattle.sv_names.specs.Assignments.{amount_expr}
use Rattle.sv_names.specs.Checked.{◌▷◌, ◌where_also◌, broken_at, only}
use Rattle.sv_names.specs.Clockings.{Skews, unit_ticks, skew_count, units_in, skew_amount, skew_of, with_skew, with_skews, defaults}
use Rattle.sv_names.specs.Given.{Fails, first_of}
use Rattle.sv_names.specs.Named.{Around}
use Rattle.sv_elab_clocking.specs.Skews.{limited, after_item}
use Rattle.sv_elab_clocking.proofs.BesideLaws.{also_same, also_stands, also_fails, only_fails, fails_through, given_same, over_same}

-- ---- units

zero_less : (a b : ℕ) → nat_lt a b ≡ true → 0 ≡ a - b
zero_less a b h = grind (arith, nat_tests)

units_by : (a b : ℕ) (t : Bool) → nat_lt a b ≡ t → (if t then 1 else 10 ^ (a - b)) ≡ 10 ^ (a - b)
units_by a b true e = ap (λ n. 10 ^ n) (zero_less a b e)
units_by a b false e = refl

-- a unit has as many ticks as in a run
pub units_are : (s : Scale) → unit_ticks s ≡ config.unit_ticks s
units_are s = units_by s.unit s.precision (nat_lt s.unit s.precision) refl

module _ (s : Scale) (at place : Place) where
  -- a negative number of units
  pub negative_count : (n : ℤ) → n <ℤ pos 0 → (skew_count s place n ▷ limited at) ≡ broken_at 12 place
  negative_count (pos n) low = grind (arith, nat_tests)
  negative_count (negsuc n) low = refl

  -- any other one
  pub natural_count : (n : ℤ) (k : ℕ) → pos 0 ≤ℤ n → k ≡ nat_abs n → (skew_count s place n ▷ limited at) ≡ limited at (k * unit_ticks s)
  natural_count (pos n) k low is = ap (λ (m : ℕ). limited at (m * unit_ticks s)) (sym is)
  natural_count (negsuc n) k low is = grind (arith, nat_tests)

-- what is no time literal counts units
pub other_amount : (ar : Around) (e : Expr) → ((at : Place) (text : List ℕ) → e ≡ Time at text → ⊥)
    → units_in ar (amount_expr (expr e)) ≡ skew_amount ar (expr e)
other_amount ar (Time at text) other = absurd (other at text refl)
other_amount ar (Number at text) other = refl
other_amount ar (Text at text) other = refl
other_amount ar (Null at) other = refl
other_amount ar (Dollar at) other = refl
other_amount ar (Group' at p e) other = refl
other_amount ar (Post' root shape row) other = refl
other_amount ar (System name a) other = refl
other_amount ar (SuperNew at new a) other = refl
other_amount ar (Join' at shape row) other = refl
other_amount ar (Repeat' at p e inner shape row) other = refl
other_amount ar (Cast' to p e) other = refl
other_amount ar (Unary' at op p e) other = refl
other_amount ar (Binary' op at p a q b) other = refl
other_amount ar (Choose' p c q a r b) other = refl

-- ---- what skews break

one_same : (ar : Around) (j k : Skews) (s : Sided) → only (with_skew ar j s) ≡ only (with_skew ar k s)
one_same ar j k s = by s.direction s.skew
  where
    by : (d : Direction) (o : Option tree.Skew)
        → only (with_skew ar j (record { direction = d; skew = o })) ≡ only (with_skew ar k (record { direction = d; skew = o }))
    by d None = refl
    by d (Some w) = given_same _ _ (skew_of ar w)

-- what skews break does not depend on those before
pub same_faults : (ar : Around) (j k : Skews) (ss : List Sided) → only (with_skews ar j ss) ≡ only (with_skews ar k ss)
same_faults ar j k [] = refl
same_faults ar j k (s ∷ ss) =
    over_same (λ i. with_skews ar i ss) (λ a b. same_faults ar a b ss) (with_skew ar j s) (with_skew ar k s) (one_same ar j k s)
    (only (with_skews ar j ss)) (only (with_skews ar k ss)) (same_faults ar j k ss)

module _ (ar : Around) (k : Skews) (s : Sided) (ss : List Sided) where
  -- the first skew breaks no rule
  pub first_good : (j : Skews) → with_skew ar k s ≡ Good j → with_skews ar k (s ∷ ss) ≡ with_skews ar j ss
  first_good j e =
      ap (λ (c : Checked Skews). (c ▷ (λ i. with_skews ar i ss)) where_also only (with_skews ar k ss)) e
      ∙ also_same (with_skews ar j ss) (only (with_skews ar k ss)) (same_faults ar k j ss)

  -- it breaks a rule, and none behind it does
  pub first_broken : (e : Refusal) (j : Skews) → Fails e (with_skew ar k s) → with_skews ar k ss ≡ Good j → Fails e (with_skews ar k (s ∷ ss))
  first_broken e j fails good =
      also_stands (with_skew ar k s ▷ (λ i. with_skews ar i ss)) (only (with_skews ar k ss)) e (ap only good)
      (fails_through (with_skew ar k s) (λ i. with_skews ar i ss) e fails)

  -- so does one behind it
  pub both_broken : (e f : Refusal) → Fails e (with_skew ar k s) → Fails f (with_skews ar k ss) → Fails (first_of e f) (with_skews ar k (s ∷ ss))
  both_broken e f fails behind =
      also_fails (with_skew ar k s ▷ (λ i. with_skews ar i ss)) (only (with_skews ar k ss)) e f
      (fails_through (with_skew ar k s) (λ i. with_skews ar i ss) e fails) (only_fails (with_skews ar k ss) f behind)

-- ---- items

module _ (ar : Around) (k : Skews) where
  item_first : (i : ClockingItem) (is : List ClockingItem) → defaults ar k (i ∷ is) ≡ (after_item ar k i ▷ (λ j. defaults ar j is))
  item_first (tree.Default ss) is = refl
  item_first (tree.Signals ds ns) is = refl

  -- the skews behind the first item
  pub item_good : (i : ClockingItem) (is : List ClockingItem) (j : Skews) → after_item ar k i ≡ Good j → defaults ar k (i ∷ is) ≡ defaults ar j is
  item_good i is j e = item_first i is ∙ ap (λ (c : Checked Skews). c ▷ (λ m. defaults ar m is)) e

  -- the first item breaks a rule
  pub item_broken : (i : ClockingItem) (is : List ClockingItem) (e : Refusal) → Fails e (after_item ar k i) → Fails e (defaults ar k (i ∷ is))
  item_broken i is e fails = subst (λ (c : Checked Skews). Fails e c) (sym (item_first i is)) (fails_through (after_item ar k i) (λ j. defaults ar j is) e fails)

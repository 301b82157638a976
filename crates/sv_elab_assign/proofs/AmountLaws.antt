-- Delays.
use Rattle.std.proofs.Common.{◌≡◌, ℕ, ◌+◌, ◌-◌, ◌*◌, ◌/◌, ◌^◌, false, true, List, None, refl, ap, ◌∙◌, arith}
use Rattle.sv_value.specs.declared.place.Place.{Place}
use Rattle.sv_value.specs.Vector.{vector, symbols_of}
use Rattle.sv_flat.specs.declared.design.Scale.{Scale}
use Rattle.sv_flat.specs.Expr as flat
use Rattle.sv_tree.specs.Expr as tree
use Rattle.sv_names.specs.declared.checked.Checked.{Checked}
use Rattle.sv_names.specs.declared.checked.Checked.TheVariants.{Good, Broken}
use Rattle.sv_names.specs.Assignments.{amount_of}
use Rattle.sv_names.specs.Checked.{given}
use Rattle.sv_names.specs.Hoisted.{pure}
use Rattle.sv_names.specs.Named.{Around}
use Rattle.sv_names.specs.Operators.{ticks_in, rounded, time_typed}
use Rattle.sv_elab_assign.specs.Amounts.{tick_scale, ticks_of}

-- half a tick is no tick
no_half : (n : ℕ) → (2 * n + 1) / 2 ≡ n
no_half n = omega arith

-- ticks are rounded to themselves
whole_ticks : (p n : ℕ) → rounded n (10 ^ (p - p)) ≡ n
whole_ticks p n = let none : p - p ≡ 0 = omega arith in ap (λ (k : ℕ). rounded n (10 ^ k)) none ∙ no_half n

-- so many ticks
counted : (s : Scale) (at : Place) (c : Checked ℕ)
    → given ticks_of (given (time_typed (tick_scale s) at) c)
    ≡ given (λ n. record { amount = pure (flat.Literal (vector false (symbols_of 64 n 0)) None); in_ticks = true }) c
counted s at (Good n) =
    ap (λ (m : ℕ). Good (record { amount = pure (flat.Literal (vector false (symbols_of 64 m 0)) None); in_ticks = true }))
    (whole_ticks s.precision n)
counted s at (Broken f) = refl

-- a time literal that stands alone
pub ticks_are : (ar : Around) (at : Place) (text : List ℕ)
    → given ticks_of (given (time_typed (tick_scale ar.scale) at) (ticks_in (tick_scale ar.scale) at text)) ≡ amount_of ar (tree.Time at text)
ticks_are ar at text = counted ar.scale at (ticks_in ar.scale at text)

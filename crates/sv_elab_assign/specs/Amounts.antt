-- Delays, as the code has them (IEEE 1800-2017, 3.14.1 and 9.4).
use Rattle.std.specs.Prelude.{true, false, Option, Some, None}
use Rattle.sv_value.specs.declared.place.Place.{Place}
use Rattle.sv_flat.specs.declared.design.Scale.{Scale}
use Rattle.sv_names.specs.declared.checked.Checked.{Checked}
use Rattle.sv_names.specs.declared.typed.Typed.{Typed}
use Rattle.sv_names.specs.Assignments.{Amount}
use Rattle.sv_names.specs.Calls.{wait_stands}
use Rattle.sv_names.specs.Checked.{◌▷◌, given, ◌where_also◌}
use Rattle.sv_names.specs.declared.checked.Checked.TheVariants.{Good}
use Rattle.sv_names.specs.Named.{Around}
use Rattle.sv_names.specs.Values.{alone, number_operand}
use Rattle.sv_elab_assign.specs.declared.amount.Amount as amount

-- a delay
abbrev pub amount_in : amount.Amount → Amount
amount_in a = record { amount = a.amount; in_ticks = a.in_ticks }

-- a delay that may be left out
abbrev pub amount_if : Option amount.Amount → Option Amount
amount_if None = None
amount_if (Some a) = Some (amount_in a)

-- ticks as units
abbrev pub tick_scale : Scale → Scale
tick_scale s = record { unit = s.precision; precision = s.precision }

-- so many ticks
abbrev pub ticks_of : Typed → Amount
ticks_of t = record { amount = t.code; in_ticks = true }

-- so many units
abbrev pub units_of : Typed → Amount
units_of t = record { amount = alone t; in_ticks = false }

-- E15, E42: an expression that counts units
abbrev pub number_amount : Place → Checked Typed → Checked Amount
number_amount at x = given units_of (x ▷ number_operand at)

-- a delay, where one may stand
abbrev pub standing : Amount → Checked (Unit {0}) → Checked (Option Amount)
standing a stands = Good (Some a) where_also stands

-- E27: a delay behind the `=`
abbrev pub delay_given : Around → Place → Checked Amount → Checked (Option Amount)
delay_given ar at a = given Some a where_also wait_stands ar at

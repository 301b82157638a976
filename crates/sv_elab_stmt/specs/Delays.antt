-- Delays in updates of a clocking block (IEEE 1800-2017, 14.11).
use Rattle.sv_value.specs.declared.number.ClockId.{ClockId}
use Rattle.sv_flat.specs.declared.stmt.Form.{Form}
use Rattle.sv_flat.specs.declared.stmt.Form.TheVariants as form
use Rattle.sv_names.specs.declared.hoisted.Hoisted.{Hoisted}
use Rattle.sv_names.specs.Assignments.{Amount}
use Rattle.sv_names.specs.Hoisted.{mapped}

-- so many updates of a clocking block
abbrev pub cycles_form : ClockId → Amount → Hoisted Form
cycles_form c a = mapped (form.Cycles c) a.amount

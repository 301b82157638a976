-- Choices by the classes that can be named (IEEE 1800-2017, 11.4.11).
use Rattle.std.specs.Prelude.{List}
use Rattle.sv_value.specs.declared.place.Place.{Place}
use Rattle.sv_names.specs.declared.around.ClassInfo.{ClassInfo}
use Rattle.sv_names.specs.declared.checked.Checked.{Checked}
use Rattle.sv_names.specs.declared.typed.Typed.{Typed}
use Rattle.sv_names.specs.Checked.{◌▷◌, both, given}
use Rattle.sv_names.specs.Operators.{branch_type, choose_typed}
use Rattle.sv_names.specs.Values.{number_operand, one_item}

-- a choice of two branches
abbrev pub branches_by : List ClassInfo → Place → Place → Place → Typed → Typed → Typed → Checked Typed
branches_by ks at pa pb c a b = given (choose_typed at c a b) (branch_type ks pa pb c.ty a.ty b.ty)

-- `?:` with its operands
abbrev pub choose_by : List ClassInfo → Place → Place → Place → Checked Typed → Checked Typed → Checked Typed → Checked Typed
choose_by ks pc pa pb c a b =
    both (c ▷ number_operand pc) (both (a ▷ one_item) (b ▷ one_item)) ▷ (λ p. branches_by ks pc pa pb p.0 p.1.0 p.1.1)

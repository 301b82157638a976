-- Time scales, in parts (IEEE 1800-2017, 3.14.2).
use Rattle.std.specs.Prelude.{List, nat_lt}
use Rattle.sv_tree.specs.declared.token.Timescale.{Timescale}
use Rattle.sv_names.specs.declared.checked.Checked.{Checked}
use Rattle.sv_names.specs.Checked.{rule, all}

-- E54: a precision is larger than its unit
abbrev pub precisions_stand : List Timescale → Checked (Unit {0})
precisions_stand ts = all (λ t. rule 54 t.at (nat_lt t.unit t.precision)) ts

-- Numbers of units, as the code has them (IEEE 1800-2017, 9.4.1).
use Rattle.sv_tree.specs.Expr as tree
use Rattle.sv_tree.specs.Expr.{place_of}
use Rattle.sv_names.specs.declared.checked.Checked.{Checked}
use Rattle.sv_names.specs.Assignments.{Amount}
use Rattle.sv_names.specs.Expressions.{expr}
use Rattle.sv_names.specs.Named.{Around}
use Rattle.sv_elab_assign.specs.Amounts.{number_amount}

-- an expression that counts units
abbrev pub units : Around → tree.Expr → Checked Amount
units ar e = number_amount (place_of e) (expr ar e)

-- The literals that stand for constant expressions (IEEE 1800-2017, 11.2.1).
use Rattle.std.specs.Prelude.{None, Ok, Err}
use Rattle.sv_flat.specs.Expr as flat
use Rattle.sv_flat.specs.Eval.{Valued, vector_in, text_in}

-- a number with a value is a literal of it
abbrev pub number_literal : Valued → flat.Expr → flat.Expr
number_literal (Ok v) e = flat.Literal (vector_in v) None
number_literal (Err k) e = e

-- a string with a value is a literal of it
abbrev pub text_literal : Valued → flat.Expr → flat.Expr
text_literal (Ok v) e = flat.Text (text_in v)
text_literal (Err k) e = e

-- Contexts of expressions, as the code keeps them (IEEE 1800-2017, 11.6 and 11.8).
use Rattle.std.specs.Prelude.{ℕ, ◌≤◌, ◌-◌, ◌^◌, Bool, ◌&&◌, max, min, if◌then◌else◌}
use Rattle.sv_value.specs.declared.operator.BinOp.{BinOp}
use Rattle.sv_value.specs.declared.operator.UnOp.{UnOp}
use Rattle.sv_value.specs.Operators.{unary_of, binary_of}
use Rattle.sv_value.specs.Vector.{Vector, widest}
use Rattle.sv_flat.specs.declared.context.Context.{Context}
use Rattle.sv_flat.specs.declared.context.Operands.{Operands}
use Rattle.sv_flat.specs.declared.context.Operands.TheVariants as operands
use Rattle.sv_flat.specs.Expr.{Expr}
use Rattle.sv_flat.specs.Eval.{in_context, width_of, is_signed, binary_width, binary_sign}

-- so many bits have a vector
abbrev pub IsWidth : ℕ → Type 0
IsWidth w = (1 ≤ w) × (w ≤ widest)

-- a width as a word of 32 bits keeps it: the greatest one stands for all above it
abbrev pub kept_width : ℕ → ℕ
kept_width w = min w (2 ^ 32 - 1)

-- what an expression has by itself
abbrev pub own_context : Expr → Context
own_context e = record { width = kept_width (width_of e); signed = is_signed e }

-- the context of two operands that are compared or chosen from
abbrev pub wider : Context → Context → Context
wider a b = record { width = max a.width b.width; signed = a.signed && b.signed }

-- what an operation has by itself, from what its operands have
abbrev pub context_of_operation : Operands → Context → Context → Context
context_of_operation o a b = record { width = binary_width o a.width b.width; signed = binary_sign o a.signed b.signed }

-- ---- the contexts of operands, and what an operator gives in a context

-- a vector in a context
abbrev pub within : Context → Vector → Vector
within c x = in_context c.width c.signed x

-- the context of the operand of an operator
abbrev pub operand_context : (is_in_context : Bool) → (whole own : Context) → Context
operand_context b whole own = if b then whole else own

-- what an operator with one operand gives in a context
abbrev pub unary_within : (is_in_context : Bool) → UnOp → Context → Vector → Vector
unary_within b op whole x = if b then unary_of op x else within whole (unary_of op x)

-- the context of the left operand, from that of the whole and those of both by themselves
abbrev pub left_context : Operands → (whole a b : Context) → Context
left_context operands.InContext whole a b = whole
left_context operands.ByAmount whole a b = whole
left_context operands.Compared whole a b = wider a b
left_context operands.ByTruth whole a b = a

-- the context of the right operand
abbrev pub right_context : Operands → (whole a b : Context) → Context
right_context operands.InContext whole a b = whole
right_context operands.ByAmount whole a b = b
right_context operands.Compared whole a b = wider a b
right_context operands.ByTruth whole a b = b

-- what an operator with two operands gives in a context
abbrev pub binary_within : Operands → BinOp → Context → Vector → Vector → Vector
binary_within operands.InContext op whole x y = binary_of op x y
binary_within operands.ByAmount op whole x y = binary_of op x y
binary_within operands.Compared op whole x y = within whole (binary_of op x y)
binary_within operands.ByTruth op whole x y = within whole (binary_of op x y)

-- The subject of a `case` and its labels, as the code compares them (IEEE 1800-2017, 12.5).
use Rattle.std.specs.Prelude.{List, [], ◌++◌, Some, None, map}
use Rattle.sv_flat.specs.declared.context.Context.{Context}
use Rattle.sv_flat.specs.Expr as flat
use Rattle.sv_names.specs.declared.hoisted.Hoisted.{Hoisted}
use Rattle.sv_names.specs.declared.typed.Typed.{Typed}
use Rattle.sv_names.specs.Cases.{Placed, Labels, widest, all_signed, compared_as, labelled}
use Rattle.sv_names.specs.Hoisted.{mapped, paired, in_row}
use Rattle.sv_names.specs.Values.{folded}

-- the context of labels and of what stands before them
abbrev pub with_labels : Context → List Placed → Context
with_labels c ps = record { width = widest c.width ps; signed = all_signed c.signed ps }

-- the labels of an item; of the default none
abbrev pub row_of : Labels → List Placed
row_of None = []
row_of (Some ps) = ps

-- a number in the width and sign of the whole
abbrev pub widened : Context → Typed → Hoisted flat.Expr
widened c t = folded t.is_constant t.ty (mapped (flat.Widen c.width c.signed) t.code)

-- the labels of an item, compared so
abbrev pub compared : Context → List Placed → List (Hoisted flat.Expr)
compared c ps = map (λ p. compared_as c.width c.signed p.1) ps

-- those of all items
abbrev pub all_compared : Context → List Labels → Hoisted (List (List flat.Expr))
all_compared c ls = in_row (labelled (compared_as c.width c.signed) ls)

-- one row behind another
abbrev pub both_rows : {A : Type 0} → Hoisted (List A) → Hoisted (List A) → Hoisted (List A)
both_rows a b = paired (λ xs ys. xs ++ ys) a b

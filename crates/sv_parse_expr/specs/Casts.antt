-- Casts whose type stands before what was read.
use Rattle.std.specs.Prelude.{Ok}
use Rattle.sv_grammar.specs.Language.{Out}
use Rattle.sv_grammar.specs.Reading.{◌>>=◌}
use Rattle.sv_tree.specs.declared.expr.CastType.{CastType}
use Rattle.sv_tree.specs.Expr as tree
use Rattle.sv_tree.specs.ExprGrammar.{with_cast}

-- what was read, with another type at the cast in its front
abbrev pub recast : CastType → Out tree.Expr → Out tree.Expr
recast c o = o >>= λ x. Ok (with_cast c x.0, x.1)

-- What is left to be read after an operand was (IEEE 1800-2017, Table 11-2).
use Rattle.std.specs.Prelude.{ℕ, suc, true, List, [], ◌∷◌, Ok, ◌&&◌}
use Rattle.sv_grammar.specs.Tokens.{Tok}
use Rattle.sv_grammar.specs.Language.{Out}
use Rattle.sv_grammar.specs.Reading.{◌>>=◌, either}
use Rattle.sv_grammar.specs.Code.{chain_from, reach}
use Rattle.sv_tree.specs.declared.kind.Kind.TheVariants as k
use Rattle.sv_tree.specs.declared.word.Precedence.{Precedence}
use Rattle.sv_tree.specs.Codes.{code}
use Rattle.sv_tree.specs.Depth.{depth}
use Rattle.sv_tree.specs.Expr as tree
use Rattle.sv_tree.specs.Forms.{Production, Value}
use Rattle.sv_tree.specs.ExprGrammar.{link, joined, branches, choose}
use Rattle.sv_tree.specs.Grammar.{heads, need, table, reads}

-- the rest of a chain of the operators of a precedence, after a
abbrev pub links : Precedence → ℕ → tree.Expr → List Tok → Out tree.Expr
links p d a ts = chain_from Production Value heads need table depth (joined p) (link p) d a ts

-- what is read of the operators of precedences, the weakest first, after a
unfoldable pub climbed : List Precedence → ℕ → tree.Expr → List Tok → Out tree.Expr
climbed [] d a ts = Ok (a, ts)
climbed (p ∷ ps) d a ts = climbed ps d a ts >>= λ b. links p d b.0 b.1

-- what may follow a condition
unfoldable pub choices : ℕ → tree.Expr → List Tok → Out tree.Expr
choices d c ts = either (code k.Question ∷ []) (reach (suc (depth c)) d && reach 1 d) (λ r. reads d branches r >>= λ y. Ok (choose c y.0, y.1)) [] true (λ r. Ok (c, r)) ts

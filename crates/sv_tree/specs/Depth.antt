-- The depth of an expression: the operators and the pairs of brackets on a path; and the greatest depth of a tree (own).
use Rattle.std.specs.Prelude.{ℕ, suc}
use Rattle.sv_grammar.specs.Code.{larger}
use Rattle.sv_tree.specs.Expr as tree

-- the greatest depth of a tree
abbrev pub most_depth : ℕ
most_depth = 200

abbrev mutual
  pub depth : tree.Expr → ℕ
  depth (tree.Number at text) = 0
  depth (tree.Time at text) = 0
  depth (tree.Text at text) = 0
  depth (tree.Null at) = 0
  depth (tree.Dollar at) = 0
  depth (tree.Group at e) = suc (depth e)
  depth (tree.Post r s) = suffixes_depth s
  depth (tree.System n a) = actuals_depth a
  depth (tree.SuperNew at new a) = actuals_depth a
  depth (tree.Join at es) = suc (exprs_depth es)
  depth (tree.Repeat at n inner es) = suc (larger (depth n) (suc (exprs_depth es)))
  depth (tree.Cast c e) = suc (depth e)
  depth (tree.Unary at op e) = suc (depth e)
  depth (tree.Binary op at a b) = suc (larger (depth a) (depth b))
  depth (tree.Choose c a b) = suc (larger (depth c) (larger (depth a) (depth b)))

  pub actuals_depth : tree.Actuals → ℕ
  actuals_depth tree.Unwritten = 0
  actuals_depth (tree.Written es) = suc (exprs_depth es)

  pub exprs_depth : tree.Exprs → ℕ
  exprs_depth tree.NoExpr = 0
  exprs_depth (tree.AndExpr e es) = larger (depth e) (exprs_depth es)

  pub suffixes_depth : tree.Suffixes → ℕ
  suffixes_depth tree.NoSuffix = 0
  suffixes_depth (tree.Member n s) = suffixes_depth s
  suffixes_depth (tree.Call at es s) = larger (suc (exprs_depth es)) (suffixes_depth s)
  suffixes_depth (tree.Select at e s) = larger (suc (depth e)) (suffixes_depth s)
  suffixes_depth (tree.Part at w a b s) = larger (suc (larger (depth a) (depth b))) (suffixes_depth s)

-- What the trees of the program stand for: the same trees without pointers.
use Rattle.std.specs.Prelude.{◌≡◌, List, [], ◌∷◌, refl}
use Rattle.std.proofs.Common.{ap}
use Rattle.sv_tree.specs.declared.expr.Expr.{Expr, Number, Time, Text, Null, Dollar, Group', Post', System, SuperNew, Join', Repeat', Cast', Unary', Binary', Choose', Row_of-Suffix, end_of-Suffix, more_of-Suffix, items-the_row-Suffix}
use Rattle.sv_tree.specs.declared.expr.Actuals.{Actuals, Unwritten, Written'}
use Rattle.sv_tree.specs.declared.expr.Suffix.{Suffix, Member, Call', Select', Part', Row_of-Expr, end_of-Expr, more_of-Expr, items-the_row-Expr}
use Rattle.sv_tree.specs.Expr as tree

abbrev mutual
  pub expr : Expr → tree.Expr
  expr (Number at text) = tree.Number at text
  expr (Time at text) = tree.Time at text
  expr (Text at text) = tree.Text at text
  expr (Null at) = tree.Null at
  expr (Dollar at) = tree.Dollar at
  expr (Group' at p e) = tree.Group at (expr e)
  expr (Post' root shape row) = tree.Post root (suffixes row)
  expr (System name a) = tree.System name (actuals a)
  expr (SuperNew at new a) = tree.SuperNew at new (actuals a)
  expr (Join' at shape row) = tree.Join at (exprs row)
  expr (Repeat' at p e inner shape row) = tree.Repeat at (expr e) inner (exprs row)
  expr (Cast' to p e) = tree.Cast to (expr e)
  expr (Unary' at op p e) = tree.Unary at op (expr e)
  expr (Binary' op at p a q b) = tree.Binary op at (expr a) (expr b)
  expr (Choose' p c q a r b) = tree.Choose (expr c) (expr a) (expr b)

  pub actuals : Actuals → tree.Actuals
  actuals Unwritten = tree.Unwritten
  actuals (Written' shape row) = tree.Written (exprs row)

  pub suffix : Suffix → tree.Suffixes → tree.Suffixes
  suffix (Member name) rest = tree.Member name rest
  suffix (Call' at shape row) rest = tree.Call at (exprs row) rest
  suffix (Select' at p e) rest = tree.Select at (expr e) rest
  suffix (Part' at word p a q b) rest = tree.Part at word (expr a) (expr b) rest

  pub exprs : {m : _} → Row_of-Expr m → tree.Exprs
  exprs end_of-Expr = tree.NoExpr
  exprs (more_of-Expr e rest) = tree.AndExpr (expr e) (exprs rest)

  pub suffixes : {m : _} → Row_of-Suffix m → tree.Suffixes
  suffixes end_of-Suffix = tree.NoSuffix
  suffixes (more_of-Suffix s rest) = suffix s (suffixes rest)

-- the lists that the vectors in a tree stand for
abbrev pub suffix_list : List Suffix → tree.Suffixes
suffix_list [] = tree.NoSuffix
suffix_list (s ∷ ss) = suffix s (suffix_list ss)

-- expressions
abbrev pub expr_list : List Expr → tree.Exprs
expr_list [] = tree.NoExpr
expr_list (e ∷ es) = tree.AndExpr (expr e) (expr_list es)

-- a row of suffixes is the list of its items
pub suffixes_are : (m : _) (row : Row_of-Suffix m) → suffixes row ≡ suffix_list (items-the_row-Suffix m row)
suffixes_are m end_of-Suffix = refl
suffixes_are m (more_of-Suffix {n = n} s rest) = ap (λ ss. suffix s ss) (suffixes_are n rest)

-- a row of expressions is the list of its items
pub exprs_are : (m : _) (row : Row_of-Expr m) → exprs row ≡ expr_list (items-the_row-Expr m row)
exprs_are m end_of-Expr = refl
exprs_are m (more_of-Expr {n = n} e rest) = ap (λ es. tree.AndExpr (expr e) es) (exprs_are n rest)

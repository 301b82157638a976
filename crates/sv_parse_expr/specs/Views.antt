-- What the values of the readers stand for.
use Rattle.std.specs.Prelude.{◌≡◌, ℕ, ◌≤◌, List, Vec, map}
use Rattle.std.specs.Global.{Global}
use Rattle.sv_grammar.specs.Code.{larger}
use Rattle.sv_tree.specs.declared.expr.Root.{Root}
use Rattle.sv_tree.specs.declared.expr.Expr.{Expr}
use Rattle.sv_tree.specs.declared.expr.Actuals.{Actuals}
use Rattle.sv_tree.specs.declared.expr.Suffix.{Suffix}
use Rattle.sv_tree.specs.Depth.{actuals_depth, depth, exprs_depth, suffixes_depth}
use Rattle.sv_tree.specs.Expr as tree
use Rattle.sv_tree.specs.Forms as forms
use Rattle.sv_tree.specs.View.{actuals, expr, expr_list, suffix, suffix_list}
use Rattle.sv_parse_expr.specs.declared.measured.Measured.{Measured}
use Rattle.sv_parse_expr.specs.declared.measured.Bracketed.{Bracketed}
use Rattle.sv_parse_expr.specs.declared.posts.Post.{Post}

-- a name with what follows it
abbrev pub post : Post → Root × tree.Suffixes
post p = (p.root, suffix_list p.suffixes.items)

-- a tree, without its depth
abbrev pub measured : {X Y : Type 0} → (X → Y) → Measured X → Y
measured view m = view m.tree

-- expressions
abbrev pub exprs : Vec Expr Global → List tree.Expr
exprs v = map expr v.items

-- what follows a name
abbrev pub all_suffixes : Vec Suffix Global → tree.Suffixes
all_suffixes v = suffix_list v.items

-- expressions in brackets
abbrev pub bracketed : Bracketed → forms.Bracketed
bracketed b = record { at = b.at; list = expr_list b.list.items }

-- ---- the depths that are told are those of the trees, and fit

-- an expression
abbrev pub Fitting : ℕ → Measured Expr → Type 0
Fitting d m = (m.depth ≡ depth (expr m.tree)) × (m.depth ≤ d)

-- expressions
abbrev pub FittingExprs : ℕ → Measured (Vec Expr Global) → Type 0
FittingExprs d m = (m.depth ≡ exprs_depth (expr_list m.tree.items)) × (m.depth ≤ d)

-- expressions in brackets, where the brackets do not count
abbrev pub FittingBracketed : ℕ → Measured Bracketed → Type 0
FittingBracketed d m = (m.depth ≡ exprs_depth (expr_list m.tree.list.items)) × (m.depth ≤ d)

-- arguments that may be left out
abbrev pub FittingActuals : ℕ → Measured Actuals → Type 0
FittingActuals d m = (m.depth ≡ actuals_depth (actuals m.tree)) × (m.depth ≤ d)

-- one that follows a name
abbrev pub FittingSuffix : ℕ → Measured Suffix → Type 0
FittingSuffix d m = ((rest : tree.Suffixes) → suffixes_depth (suffix m.tree rest) ≡ larger m.depth (suffixes_depth rest)) × (m.depth ≤ d)

-- all that follow a name
abbrev pub FittingSuffixes : ℕ → Measured (Vec Suffix Global) → Type 0
FittingSuffixes d m = (m.depth ≡ suffixes_depth (suffix_list m.tree.items)) × (m.depth ≤ d)

-- What statements write, call and declare, in the parts in which the code goes through them (IEEE 1800-2017, 9, 10.4 and 12).
use Rattle.std.specs.Prelude.{List, [], ◌∷◌, ◌++◌, None, map, flat_map}
use Rattle.sv_value.specs.declared.place.Place.{Place}
use Rattle.sv_tree.specs.declared.statement.EventPart.{EventPart}
use Rattle.sv_tree.specs.declared.word.Name.{Name}
use Rattle.sv_tree.specs.Expr as tree
use Rattle.sv_tree.specs.Stmt as tree_stmt
use Rattle.sv_tree.specs.StmtView as view
use Rattle.sv_names.specs.declared.checked.Checked.TheVariants.{Good}
use Rattle.sv_names.specs.declared.named.Named.{Named}
use Rattle.sv_names.specs.declared.named.ResultVariable.{ResultVariable}
use Rattle.sv_names.specs.declared.named.ResultVariable.TheVariants as result_variable
use Rattle.sv_names.specs.declared.scope.Scope.{Scope}
use Rattle.sv_names.specs.declared.typed.How.TheVariants.{Statement as By_statement, Nonblocking}
use Rattle.sv_names.specs.Blocks.{inner_scope, inside}
use Rattle.sv_names.specs.Checked.{given}
use Rattle.sv_names.specs.Expressions.{target}
use Rattle.sv_names.specs.Named.{Around}
use Rattle.sv_names.specs.Statements.{for_entries, foreach_entries, walked_array, automatic_loop}
use Rattle.sv_names.specs.Subroutines.{constructor_path}
use Rattle.sv_names.specs.Targets.{type_of_target}
use Rattle.sv_names.specs.Types.{Path}
use Rattle.sv_names.specs.Writers.{Touch, Calls, Declares, declares, declarator_touches, decls_touches, delay_touches, expr_touches, exprs_touches, in_scope, init_touches, lval_touches, optional_touches, step_touches, stmt_touches, stmts_touches}

-- ---- what is declared

-- the result variable of a function
abbrev pub result_declares : Place → ResultVariable → List Touch
result_declares at (result_variable.Object p t) = Declares at 1 0 ∷ []
result_declares at (result_variable.Local u p t) = []

-- a name that breaks no rule
abbrev pub named_declares : Place → Named → List Touch
named_declares at n = declares at (Good n)

-- the variables of one declaration
abbrev pub declarators_touches : Around → tree_stmt.Decl → List Touch
declarators_touches ar d = flat_map (declarator_touches ar) d.names

-- ---- parts of statements

-- a call of the constructor of a class
abbrev pub constructed : Path → List Touch
constructed p = Calls (constructor_path p) ∷ []

-- a part of an event control
abbrev pub event_part_touches : Around → tree_stmt.EventPart → List Touch
event_part_touches ar p = expr_touches ar p.expr ++ optional_touches ar p.condition

-- its parts
abbrev pub event_parts_touches : Around → List EventPart → List Touch
event_parts_touches ar ps = flat_map (event_part_touches ar) (map view.event_part ps)

-- what is given to a target
abbrev pub given_touches : Around → tree.Lval → tree_stmt.Init → List Touch
given_touches ar l i = init_touches ar (given type_of_target (target By_statement ar l)) i

-- a blocking assignment
abbrev pub blocking_touches : Around → tree_stmt.BlockingAssignment → List Touch
blocking_touches ar a =
    lval_touches By_statement ar a.target ++ delay_touches ar a.delay ++ given_touches ar a.target a.value

-- a nonblocking assignment
abbrev pub nonblocking_touches : Around → tree_stmt.NonblockingAssignment → List Touch
nonblocking_touches ar a = lval_touches Nonblocking ar a.target ++ delay_touches ar a.delay ++ expr_touches ar a.value

-- a value for a target
abbrev pub assigned_touches : Around → tree.Lval → tree.Expr → List Touch
assigned_touches ar l e = lval_touches By_statement ar l ++ expr_touches ar e

-- an assignment with an operator
abbrev pub operated_touches : Around → tree_stmt.OperatorAssignment → List Touch
operated_touches ar a = assigned_touches ar a.target a.value

-- ---- statements

-- the first item of a `case`
abbrev pub item_touches : Around → tree_stmt.CaseItems → List Touch
item_touches ar tree_stmt.NoCaseItem = []
item_touches ar (tree_stmt.Labels es x rest) = exprs_touches ar es ++ stmt_touches ar x
item_touches ar (tree_stmt.Default x rest) = stmt_touches ar x

-- a block in its scope
abbrev pub block_touches : Around → List tree_stmt.Decl → tree_stmt.Stmts → List Touch
block_touches j ds xs = in_scope j (λ i. decls_touches i ds ++ stmts_touches i xs)

-- the turns of a `for`
abbrev pub turn_touches : Around → tree.Expr → tree_stmt.ForStep → tree_stmt.Stmt → List Touch
turn_touches ar e l x = expr_touches ar e ++ step_touches ar l ++ stmt_touches ar x

-- a `for` in its scope
abbrev pub for_inside : Around → tree.Expr → tree.Expr → tree_stmt.ForStep → tree_stmt.Stmt → List Touch
for_inside j v e l x = in_scope j (λ i. expr_touches i v ++ turn_touches i e l x)

-- a `for`
abbrev pub for_touches : Around → tree_stmt.ForInit → tree.Expr → tree_stmt.ForStep → tree_stmt.Stmt → List Touch
for_touches ar (tree_stmt.Declare w n v) e l x =
    for_inside (inside (inner_scope (automatic_loop ar) None (for_entries w n x)) ar) v e l x
for_touches ar (tree_stmt.ForInit.Assign t v) e l x = assigned_touches ar t v ++ turn_touches ar e l x

-- the scope of a `foreach`
abbrev pub foreach_scope : Around → Name → Name → tree_stmt.Stmt → Scope
foreach_scope ar a i x = inner_scope ar None (foreach_entries (walked_array ar a) i x)

-- a `foreach` in its scope
abbrev pub foreach_touches : Around → tree_stmt.Stmt → List Touch
foreach_touches j x = in_scope j (λ i. stmt_touches i x)

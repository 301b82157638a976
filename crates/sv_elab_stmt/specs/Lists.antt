-- Lists of statements, and statements in their scopes, as the code goes through them (IEEE 1800-2017, 9.3, 12.5 and 12.7).
use Rattle.std.specs.Prelude.{List, [], Option}
use Rattle.sv_value.specs.declared.place.Place.{Place}
use Rattle.sv_value.specs.declared.number.RoutineId.{RoutineId}
use Rattle.sv_flat.specs.declared.object.Declared.{Declared}
use Rattle.sv_flat.specs.declared.stmt.Form.{Form}
use Rattle.sv_tree.specs.declared.word.JoinWord.{JoinWord}
use Rattle.sv_tree.specs.declared.word.Name.{Name}
use Rattle.sv_tree.specs.Expr as tree
use Rattle.sv_tree.specs.Stmt as tree_stmt
use Rattle.sv_tree.specs.Stmt.{Decl, ForStep}
use Rattle.sv_names.specs.declared.checked.Checked.{Checked}
use Rattle.sv_names.specs.declared.checked.Checked.TheVariants.{Good}
use Rattle.sv_names.specs.declared.hoisted.Hoisted.{Hoisted}
use Rattle.sv_names.specs.declared.scope.Scope.{Scope}
use Rattle.sv_names.specs.declared.typed.Typed.{Typed}
use Rattle.sv_names.specs.Blocks.{scopes_made, after_scopes, inner_scope, inside, in_sequence, decls_code}
use Rattle.sv_names.specs.Checked.{both, given, put_before}
use Rattle.sv_names.specs.Code.{Numbered, Code, empty, locals_of}
use Rattle.sv_names.specs.Named.{Around}
use Rattle.sv_names.specs.Statements as statements
use Rattle.sv_names.specs.Statements.{stmt, stmts, children, condition, in_loop, in_fork, step_code, block_entries, foreach_code}
use Rattle.sv_elab_flow.specs.Fors.{for_of, for_inside}

-- ---- lists

-- statements, each behind the scopes of those before
abbrev pub codes : Around → tree_stmt.Stmts → Checked (List Code)
codes ar tree_stmt.NoStmt = Good []
codes ar (tree_stmt.AndStmt x xs) = put_before (stmt ar x) (codes (after_scopes (scopes_made x) ar) xs)

-- the statement of an item of a `case`
abbrev pub item_code : Around → tree_stmt.CaseItems → Checked Code
item_code ar tree_stmt.NoCaseItem = Good empty
item_code ar (tree_stmt.Labels es x rest) = stmt ar x
item_code ar (tree_stmt.Default x rest) = stmt ar x

-- ---- blocks and forks

-- a block in its scope
abbrev pub block_in : Around → Place → Option Name → List Decl → tree_stmt.Stmts → Checked Code
block_in ar at n ds xs =
    statements.block_in ar at (inner_scope ar n (block_entries ar ds xs)) (block_entries ar ds xs) ds (λ i. stmts i xs)

-- its initializers and statements
abbrev pub block_body : Around → List Decl → tree_stmt.Stmts → Checked Code
block_body i ds xs = in_sequence (decls_code i ds) (stmts i xs)

-- a fork in its scope
abbrev pub fork_in : Around → Place → Option Name → List Decl → tree_stmt.Stmts → JoinWord → Checked Code
fork_in ar at n ds xs j =
    statements.fork_in ar at (inner_scope ar n (block_entries ar ds xs)) (block_entries ar ds xs) ds j (λ i. children i at xs)

-- its initializers and children
abbrev pub fork_body : Around → Place → List Decl → tree_stmt.Stmts → Checked (Code × Numbered (List RoutineId))
fork_body i at ds xs = both (decls_code i ds) (children (in_fork i) at xs)

-- ---- loops with a scope

-- a `for` behind its first assignment
abbrev pub for_from : Around → Place → List Declared → Checked (Hoisted Form) → tree.Expr → ForStep → tree_stmt.Stmt → Checked Code
for_from i at ls x e l s = given (for_of at ls) (both (both x (condition i e)) (both (stmt (in_loop i) s) (step_code i at l)))

-- a `for` in its scope
abbrev pub for_in : Around → Place → Scope → Name → tree.Expr → tree.Expr → ForStep → tree_stmt.Stmt → Checked Code
for_in ar at z n v e l s = for_inside (inside z ar) at (locals_of ar.numbers z) n v e l (λ i. stmt i s)

-- a `foreach` in its scope
abbrev pub foreach_in : Around → Place → Scope → Checked Typed → tree_stmt.Stmt → Checked Code
foreach_in ar at z t s = given (λ p. foreach_code ar at z p.0 p.1) (both t (stmt (in_loop (inside z ar)) s))

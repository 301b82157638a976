-- Statements that hold lists, as they are written.
use Rattle.std.proofs.Common.{rules, ◌≡◌, Vec, Global, Option, map}
use Rattle.sv_tree.specs.declared.word.Name.{Name}
use Rattle.sv_tree.specs.declared.word.CaseWord.{CaseWord}
use Rattle.sv_tree.specs.declared.word.JoinWord.{JoinWord}
use Rattle.sv_tree.specs.declared.expr.Expr.{Expr}
use Rattle.sv_tree.specs.declared.statement.Decl.{Decl}
use Rattle.sv_tree.specs.declared.statement.Stmt.{Stmt}
use Rattle.sv_tree.specs.declared.statement.CaseItem.{CaseItem}
use Rattle.sv_tree.specs.declared.statement.Body.{Block, Fork, Case, the_lemmas}
use Rattle.sv_tree.specs.StmtView.{body, decl, stmt_list, case_item_list, stmts_are, case_items_are}
use Rattle.sv_tree.specs.View.{expr}
use Rattle.sv_tree.specs.Stmt as tree

-- a `case` with the list of its items
pub case_is : (w : CaseWord) (e : Expr) (v : Vec CaseItem Global) → body (Case w e v) ≡ tree.Case w (expr e) (case_item_list v.items)
case_is w e v = search (rules, the_lemmas, case_items_are)

-- a block with the lists of its declarations and statements
pub block_is : (n : Option Name) (ds : Vec Decl Global) (v : Vec Stmt Global) (e : Option Name)
    → body (Block n ds v e) ≡ tree.Block n (map decl ds.items) (stmt_list v.items) e
block_is n ds v e = search (rules, the_lemmas, stmts_are)

-- a fork with the lists of its declarations and children
pub fork_is : (n : Option Name) (ds : Vec Decl Global) (v : Vec Stmt Global) (j : JoinWord) (e : Option Name)
    → body (Fork n ds v j e) ≡ tree.Fork n (map decl ds.items) (stmt_list v.items) j e
fork_is n ds v j e = search (rules, the_lemmas, stmts_are)

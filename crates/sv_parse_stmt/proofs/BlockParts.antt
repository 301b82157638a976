-- The declarations and the statements among the items of a block.
use Rattle.std.proofs.Common.{◌≡◌, List, [], ◌∷◌, map, refl, ap}
use Rattle.sv_tree.specs.declared.statement.Decl.{Decl}
use Rattle.sv_tree.specs.declared.statement.Stmt.{Stmt}
use Rattle.sv_tree.specs.Stmt as stmts
use Rattle.sv_tree.specs.StmtView.{stmt, stmt_list, decl}
use Rattle.sv_tree.specs.StmtGrammar.{Made, decls_of, stmts_of}
use Rattle.sv_parse_stmt.specs.Fronts.{after_decls}

made_decls : (ss : List Stmt) → decls_of (map Made (map stmt ss)) ≡ []
made_decls [] = refl
made_decls (s ∷ ss) = made_decls ss

made_stmts : (ss : List Stmt) → stmts_of (map Made (map stmt ss)) ≡ stmt_list ss
made_stmts [] = refl
made_stmts (s ∷ ss) = ap (λ x. stmts.AndStmt (stmt s) x) (made_stmts ss)

pub decls_of_items : (ds : List Decl) (ss : List Stmt) → decls_of (after_decls ds (map stmt ss)) ≡ map decl ds
decls_of_items [] ss = made_decls ss
decls_of_items (d ∷ ds) ss = ap (λ (x : List stmts.Decl). decl d ∷ x) (decls_of_items ds ss)

pub stmts_of_items : (ds : List Decl) (ss : List Stmt) → stmts_of (after_decls ds (map stmt ss)) ≡ stmt_list ss
stmts_of_items [] ss = made_stmts ss
stmts_of_items (d ∷ ds) ss = stmts_of_items ds ss

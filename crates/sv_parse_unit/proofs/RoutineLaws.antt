-- Subroutines: how their parts begin and go on.
use Rattle.std.proofs.Common.{◌≡◌, ℕ, true, false, List, [], ◌∷◌, ◌++◌, map, Ok, refl, ap}
use Rattle.sv_grammar.specs.Tokens.{Tok, next, mem}
use Rattle.sv_grammar.specs.Code.{least}
use Rattle.sv_grammar.specs.Code.Code.{Map}
use Rattle.sv_tree.specs.declared.kind.Kind.TheVariants as k
use Rattle.sv_tree.specs.declared.statement.Decl.{Decl}
use Rattle.sv_tree.specs.declared.statement.Stmt.{Stmt}
use Rattle.sv_tree.specs.Codes.{code}
use Rattle.sv_tree.specs.Types as types
use Rattle.sv_tree.specs.Stmt as stmts
use Rattle.sv_tree.specs.StmtView.{decl, stmt, stmt_list}
use Rattle.sv_tree.specs.Units as units
use Rattle.sv_tree.specs.Forms.{Production, Value, ◌▸◌, name, tok}
use Rattle.sv_tree.specs.TypeGrammar.{typed_name}
use Rattle.sv_tree.specs.StmtGrammar.{Declared, Made, decls_of, stmts_of}
use Rattle.sv_tree.specs.UnitGrammar.{arguments, maybe_arguments, new_name, called, function_head, task_head, head, routine_name}
use Rattle.sv_tree.specs.Grammar.{heads, need, reads}
use Rattle.sv_tree.proofs.KnownTypes as known_types
use Rattle.sv_tree.proofs.KnownItems as known

pub arguments_written : (d : ℕ) (ts : List Tok) → mem (next ts).code (code k.LeftParenthesis ∷ []) ≡ true → reads d maybe_arguments ts ≡ reads d arguments ts
arguments_written d ts h = rw (known.unit_arguments_known.info_is, h, known.unit_arguments_known.low_is) refl

pub arguments_unwritten : (d : ℕ) (ts : List Tok) → mem (next ts).code (code k.LeftParenthesis ∷ []) ≡ false → reads d maybe_arguments ts ≡ Ok ([], ts)
arguments_unwritten d ts h = rw (known.unit_arguments_known.info_is, h) refl

-- ---- heads

pub called_new : (d : ℕ) (ts : List Tok) → mem (next ts).code (code k.New ∷ []) ≡ true → reads d called ts ≡ reads d (Map (λ t. (units.Returns.Value types.Unwritten, new_name t)) (tok k.New)) ts
unfolding called
called_new d ts h = rw h refl

pub called_void : (d : ℕ) (ts : List Tok) → mem (next ts).code (code k.New ∷ []) ≡ false → mem (next ts).code (code k.Void ∷ []) ≡ true → reads d called ts ≡ reads d (Map (λ n. (units.Void, n)) (k.Void ▸ name)) ts
unfolding called
called_void d ts h g = rw (h, g) refl

pub called_typed : (d : ℕ) (ts : List Tok) → mem (next ts).code (code k.New ∷ []) ≡ false → mem (next ts).code (code k.Void ∷ []) ≡ false → reads d called ts ≡ reads d (Map (λ p. (units.Returns.Value p.0, p.1)) typed_name) ts
unfolding called
called_typed d ts h g = rw (h, g, known_types.typed_name_known.low_is) refl

pub head_function : (d : ℕ) (ts : List Tok) → mem (next ts).code (code k.Function ∷ []) ≡ true → reads d head ts ≡ reads d function_head ts
unfolding head
head_function d ts h = rw (known.function_head_known.info_is, h, known.function_head_known.low_is) refl

pub head_task : (d : ℕ) (ts : List Tok) → mem (next ts).code (code k.Function ∷ []) ≡ false → reads d head ts ≡ reads d task_head ts
unfolding head
head_task d ts h = rw (known.function_head_known.info_is, h, known.task_head_known.low_is) refl

pub routine_name_low : least Production Value heads need routine_name ≡ 0
routine_name_low = known.routine_name_known.low_is

-- ---- declarations and statements

pub decls_are : (ds : List Decl) (ss : List Stmt) → decls_of (map Declared (map decl ds) ++ map Made (map stmt ss)) ≡ map decl ds
decls_are [] [] = refl
decls_are [] (s ∷ ss) = decls_are [] ss
decls_are (d ∷ ds) ss = ap (λ (xs : List stmts.Decl). decl d ∷ xs) (decls_are ds ss)

pub stmts_are : (ds : List Decl) (ss : List Stmt) → stmts_of (map Declared (map decl ds) ++ map Made (map stmt ss)) ≡ stmt_list ss
stmts_are [] [] = refl
stmts_are [] (s ∷ ss) = ap (λ (xs : stmts.Stmts). stmts.AndStmt (stmt s) xs) (stmts_are [] ss)
stmts_are (d ∷ ds) ss = stmts_are ds ss

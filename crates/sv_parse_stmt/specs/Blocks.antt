-- The items of a block, as the grammar sees them (IEEE 1800-2017, A.2.8 and A.6.3).
use Rattle.std.specs.Prelude.{◌≡◌, ℕ, Bool, false, List, map, Result, Ok, Err, Vec}
use Rattle.std.specs.Borrow.{Bor}
use Rattle.std.specs.Global.{Global}
use Rattle.sv_grammar.specs.Tokens.{Tok, next, mem}
use Rattle.sv_grammar.specs.Language.{Out}
use Rattle.sv_grammar.specs.Reading.{◌>>=◌}
use Rattle.sv_grammar.specs.Code.{items_from}
use Rattle.sv_grammar.specs.Code.Code.{Map, Rep}
use Rattle.sv_tree.specs.declared.token.Token.{Token}
use Rattle.sv_tree.specs.declared.statement.Decl.{Decl}
use Rattle.sv_tree.specs.Codes.{toks}
use Rattle.sv_tree.specs.Forms.{Production, Value, statement}
use Rattle.sv_tree.specs.StmtView as view
use Rattle.sv_tree.specs.StmtGrammar as grammar
use Rattle.sv_tree.specs.StmtGrammar.{BlockItem, Declared, Made}
use Rattle.sv_tree.specs.Grammar.{heads, need, table, reads}
use Rattle.sv_parse.specs.Outcome.{Fails}
use Rattle.sv_parse.specs.declared.tokens.ReadError.{ReadError}
use Rattle.sv_parse_stmt.specs.Begins.{is_decl, stmt_first}
use Rattle.sv_parse_stmt.specs.Fronts.{after_decls}
use Rattle.sv_parse_stmt.specs.declared.blocks.BlockItems.{BlockItems}

-- the declarations and then the statements of a block
abbrev pub items_of : BlockItems → List BlockItem
items_of b = after_decls b.decls.items (map view.stmt b.stmts.items)

-- any number of items, after those before; s: whether one of these is a statement
abbrev pub items_on : ℕ → Bool → List BlockItem → List Tok → Out (List BlockItem)
items_on d s prefix ts = items_from Production Value heads need table grammar.is_statement grammar.early (Map Made statement) d s prefix ts

-- what is answered about the declarations at the front of a block: the declarations, and the tokens after them
abbrev pub Decls : Type 0
Decls = Result (Vec Decl Global × Bor (List Token)) ReadError

-- all declarations were read, and the items go on after these; or reading them failed
abbrev pub Declares : ℕ → Decls → List Tok → Type 0
Declares d (Ok x) ts = (is_decl (toks x.1.now) ≡ false) × (items_on d false (map Declared (map view.decl x.0.items)) (toks x.1.now) ≡ reads d grammar.block_items ts)
Declares d (Err e) ts = Fails e (reads d grammar.block_items ts)

-- all declarations were read, and the items that are left are statements; or reading them failed
abbrev pub Opens : ℕ → Decls → List Tok → Type 0
Opens d (Ok x) ts = reads d grammar.block_items ts ≡ (reads d (Rep statement) (toks x.1.now) >>= λ ss. Ok (after_decls x.0.items ss.0, ss.1))
Opens d (Err e) ts = Fails e (reads d grammar.block_items ts)

-- no statement comes where the items of a block go on and nothing may stand inside; or one does and is too deep
abbrev pub Closes : {X : Type 0} → Result X ReadError → List Tok → Type 0
Closes (Ok x) ts = mem (next ts).code stmt_first ≡ false
Closes (Err e) ts = (prefix : List BlockItem) → Fails e (items_on 0 false prefix ts)

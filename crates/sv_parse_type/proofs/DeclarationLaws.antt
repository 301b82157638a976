-- Declarators and declarations: what each begins with.
use Rattle.std.proofs.Common.{◌≡◌, ℕ, true, false, List, [], ◌∷◌, Ok, Err, Some, refl, sym, ◌∙◌}
use Rattle.sv_grammar.specs.Tokens.{Tok, next, mem}
use Rattle.sv_grammar.specs.Language.{Out}
use Rattle.sv_grammar.specs.Reading.{◌>>=◌}
use Rattle.sv_grammar.specs.Code.{least, list_from}
use Rattle.sv_grammar.specs.Code.Code.{Alt}
use Rattle.sv_tree.specs.declared.kind.Kind.TheVariants as k
use Rattle.sv_tree.specs.declared.word.Life.{Life}
use Rattle.sv_tree.specs.declared.word.Life.TheVariants as life_word
use Rattle.sv_tree.specs.declared.word.Name.{Name}
use Rattle.sv_tree.specs.Codes.{code}
use Rattle.sv_tree.specs.Stmt as stmts
use Rattle.sv_tree.specs.Types as types
use Rattle.sv_tree.specs.Forms.{Production, Value, tok, name, comma, commas, optional, kinds_of, ◌▸◌, ◌◂◌}
use Rattle.sv_tree.specs.TypeGrammar.{type, declarator_rest, declarator, declarators, more_declarators, life_words, life, decl_of, typed, var_typed, life_decl, var_decl, plain_decl, word_decl, named_decl_rest}
use Rattle.sv_tree.specs.Grammar.{heads, need, reads}
use Rattle.sv_parse.specs.Parts.{from}
use Rattle.sv_parse.proofs.TypeParts.{declarator_known}
use Rattle.sv_parse_type.specs.Applied.{applied}
use Rattle.sv_parse_type.proofs.Shapes.{made, beside, row, is_one, after_made, alt_first, alt_second, then_is, pair_applied, triple_applied}
use Rattle.sv_parse_type.proofs.TypeLaws.{word_low, type_low}

-- ---- declarators

pub declarator_is : (d : ℕ) (ts : List Tok) → reads d declarator ts ≡ (reads d name ts >>= λ n. applied n.0 (reads d declarator_rest n.1))
unfolding declarator
declarator_is d ts = then_is name declarator_rest d ts

-- the first declarator of a list whose name was read before
pub more_declarators_are : (d : ℕ) (n : Name) (ts : List Tok) → applied n (reads d more_declarators ts) ≡ (applied n (reads d declarator_rest ts) >>= λ f. from (comma declarator) d (f.0 ∷ []) f.1)
unfolding more_declarators list_from
more_declarators_are d n ts = pair_applied (λ f ds (m : Name). f m ∷ ds) n declarator_rest (commas declarator) d ts ∙ sym (after_made (λ (f : Name → stmts.Declarator). f n) (reads d declarator_rest ts) (λ f. made (λ ds. f.0 ∷ ds) (reads d (commas declarator) f.1)))

-- ---- declarations

decl_with : (d : ℕ) (ts : List Tok) (l : Life) → applied l (reads d var_typed ts) ≡ (reads d (optional (tok k.Var)) ts >>= λ v. reads d (typed l) v.1)
decl_with d ts l = triple_applied (λ v t ds (q : Life). decl_of q t ds) l (optional (tok k.Var)) type (declarators ◂ k.Semicolon) d ts

pub with_var : (d : ℕ) (l : Life) (ts : List Tok) → mem (next ts).code (code k.Var ∷ []) ≡ true → applied l (reads d var_typed ts) ≡ (reads d (tok k.Var) ts >>= λ v. reads d (typed l) v.1)
with_var d l ts h = decl_with d ts l ∙ rw h (after_made Some (reads d (tok k.Var) ts) (λ v. reads d (typed l) v.1))

pub without_var : (d : ℕ) (l : Life) (ts : List Tok) → mem (next ts).code (code k.Var ∷ []) ≡ false → applied l (reads d var_typed ts) ≡ reads d (typed l) ts
without_var d l ts h = decl_with d ts l ∙ rw h refl

life_low : least Production Value heads need life_decl ≡ 0
unfolding life_decl declarators
life_low = rw (type_low, declarator_known.low) refl

var_low : least Production Value heads need var_decl ≡ 0
unfolding var_decl declarators
var_low = rw (type_low, declarator_known.low) refl

plain_low : least Production Value heads need plain_decl ≡ 0
unfolding plain_decl declarators
plain_low = rw (word_low, declarator_known.low) refl

rest_low : least Production Value heads need (Alt var_decl plain_decl) ≡ 0
rest_low = rw var_low refl

pub decl_life : (d : ℕ) (ts : List Tok) → mem (next ts).code (kinds_of life_words) ≡ true → reads d word_decl ts ≡ (reads d life ts >>= λ l. applied l.0 (reads d var_typed l.1))
unfolding word_decl life_decl
decl_life d ts h = alt_first life_decl (Alt var_decl plain_decl) (kinds_of life_words) d ts refl life_low h ∙ then_is life var_typed d ts

not_life : (d : ℕ) (ts : List Tok) → mem (next ts).code (kinds_of life_words) ≡ false → reads d word_decl ts ≡ reads d (Alt var_decl plain_decl) ts
unfolding word_decl life_decl
not_life d ts h = alt_second life_decl (Alt var_decl plain_decl) (kinds_of life_words) d ts refl rest_low h

pub decl_var : (d : ℕ) (ts : List Tok) → mem (next ts).code (code k.Var ∷ []) ≡ true → reads d word_decl ts ≡ reads d (k.Var ▸ typed life_word.Unwritten) ts
unfolding var_decl
decl_var d ts h = not_life d ts (rw (is_one (next ts).code (code k.Var) h) refl) ∙ alt_first var_decl plain_decl (code k.Var ∷ []) d ts refl var_low h

pub decl_plain : (d : ℕ) (ts : List Tok) → mem (next ts).code (kinds_of life_words) ≡ false → mem (next ts).code (code k.Var ∷ []) ≡ false → reads d word_decl ts ≡ reads d plain_decl ts
unfolding var_decl
decl_plain d ts h g = not_life d ts h ∙ alt_second var_decl plain_decl (code k.Var ∷ []) d ts refl plain_low g

pub ruleset words_of_declarations = (decl_life, decl_var, decl_plain)

-- a declaration whose type is the name before it
pub named_decl_is : (d : ℕ) (n : Name) (ts : List Tok) → applied n (reads d named_decl_rest ts) ≡ (reads d name ts >>= λ m. applied m.0 (reads d more_declarators m.1) >>= λ ds. reads d (tok k.Semicolon) ds.1 >>= λ s. Ok (decl_of life_word.Unwritten (types.Named n) ds.0, s.1))
unfolding named_decl_rest
named_decl_is d n ts =
    pair_applied (λ m f (q : Name). decl_of life_word.Unwritten (types.Named q) (f m)) n name (more_declarators ◂ k.Semicolon) d ts
    ∙ (λ i. reads d name ts >>= λ m. ended m.0 (reads d more_declarators m.1) i)
  where
    ended : (m : Name) (o : Out (Name → List stmts.Declarator)) → made (λ f. decl_of life_word.Unwritten (types.Named n) (f m)) (made (λ p. p.0) (row o (λ r. reads d (tok k.Semicolon) r))) ≡ (applied m o >>= λ ds. made (λ s. decl_of life_word.Unwritten (types.Named n) ds.0) (reads d (tok k.Semicolon) ds.1))
    ended m (Ok f) = closed_with f.0 (reads d (tok k.Semicolon) f.1)
      where
        closed_with : (f : Name → List stmts.Declarator) (o : Out Tok) → made (λ g. decl_of life_word.Unwritten (types.Named n) (g m)) (made (λ p. p.0) (beside f o)) ≡ made (λ s. decl_of life_word.Unwritten (types.Named n) (f m)) o
        closed_with f (Ok x) = refl
        closed_with f (Err e) = refl
    ended m (Err e) = refl

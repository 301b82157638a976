-- Dimensions: what stands in their brackets, by what it begins with.
use Rattle.std.proofs.Common.{◌≡◌, ℕ, ◌+◌, Bool, true, false, cond, List, [], ◌∷◌, ◌++◌, Ok, Err, Option, None, Some, refl, sym, ap, subst, ◌∙◌, inl, inr}
use Rattle.sv_value.specs.declared.place.Place.{Place}
use Rattle.sv_grammar.specs.Tokens.{Tok, next, mem}
use Rattle.sv_grammar.specs.Language.{Miss, TooDeep, Out}
use Rattle.sv_grammar.specs.Reading.{◌>>=◌}
use Rattle.sv_grammar.specs.Code.{info, least, reach, subset}
use Rattle.sv_grammar.specs.Code.Code.{One, Done, Map, Alt}
use Rattle.sv_grammar.proofs.Lists.{mem-append}
use Rattle.sv_grammar.proofs.Budgets.{within}
use Rattle.sv_tree.specs.declared.kind.Kind.TheVariants as k
use Rattle.sv_tree.specs.declared.expr.CastType.{CastType}
use Rattle.sv_tree.specs.declared.expr.CastType.TheVariants as cast_type
use Rattle.sv_tree.specs.declared.word.Precedence.{Precedence}
use Rattle.sv_tree.specs.declared.word.VectorWord.TheVariants as vector_word
use Rattle.sv_tree.specs.declared.word.AtomWord.TheVariants as atom_word
use Rattle.sv_tree.specs.Codes.{code}
use Rattle.sv_tree.specs.Expr as tree
use Rattle.sv_tree.specs.Types as types
use Rattle.sv_tree.specs.Stmt as stmts
use Rattle.sv_tree.specs.Forms.{Production, Value, C, tok, pair, chosen, kinds_of, codes_of, ◌◂◌}
use Rattle.sv_tree.specs.ExprGrammar.{expr, expr_over, levels, precedences, unary, prefixed, prim, plain_prim, number, time, text, null_, dollar, group, named, this, this_post, super_call, system_call, braces, closed, cast, plain_expr, plain_unary, cast_rest, cast_word, word_cast, vector_words, atom_words, with_cast, unary_words}
use Rattle.sv_tree.specs.TypeGrammar.{enum, vector_type, atom_type, mailbox_type, word_type, dimension_inside, dimension, word_dimension, upper, dimension_of, vector_of, vector_rest, atom_of, sign, mailbox_of, mailbox_rest, nothing_more}
use Rattle.sv_tree.specs.Grammar.{heads, need, reads, expr_first}
use Rattle.sv_parse.specs.Outcome.{Fails}
use Rattle.sv_parse.specs.declared.tokens.ReadError.{ReadError}
use Rattle.sv_parse.proofs.ExprParts.{expr_known}
use Rattle.sv_parse.proofs.TypeParts.{range_known}
use Rattle.sv_parse_expr.specs.Casts.{recast}
use Rattle.sv_parse_expr.specs.First.{cast_first}
use Rattle.sv_parse_type.specs.Applied.{applied}
use Rattle.sv_parse_type.proofs.Shapes.{made, beside, row, fails_after, is_one, has_one, alt_is, alt_low, alt_first, alt_second, applied_made, pair_is}
use Rattle.sv_parse_type.proofs.TypeLaws.{enum_low, word_vector, word_atom, word_text, word_event, word_semaphore, word_mailbox, word_enum}

pub dimension_is : (d : ℕ) (ts : List Tok) → reads d dimension ts ≡ (reads d (tok k.LeftBracket) ts >>= λ t. applied t.0.at (reads d dimension_inside t.1) >>= λ x. reads d (tok k.RightBracket) x.1 >>= λ e. Ok (x.0, e.1))
unfolding dimension
dimension_is d ts = pair_is (λ t (f : Place → stmts.Dimension). f t.at) (tok k.LeftBracket) (dimension_inside ◂ k.RightBracket) d ts ∙ (λ i. reads d (tok k.LeftBracket) ts >>= λ t. ended t.0 (reads d dimension_inside t.1) i)
  where
    closed_with : (t : Tok) (f : Place → stmts.Dimension) (o : Out Tok) → made (λ (g : Place → stmts.Dimension). g t.at) (made (λ p. p.0) (beside f o)) ≡ made (λ e. f t.at) o
    closed_with t f (Ok x) = refl
    closed_with t f (Err m) = refl

    ended : (t : Tok) (o : Out (Place → stmts.Dimension)) → made (λ (f : Place → stmts.Dimension). f t.at) (made (λ p. p.0) (row o (λ r. reads d (tok k.RightBracket) r))) ≡ (applied t.at o >>= λ x. made (λ e. x.0) (reads d (tok k.RightBracket) x.1))
    ended t (Ok f) = closed_with t f.0 (reads d (tok k.RightBracket) f.1)
    ended t (Err m) = refl

-- ---- the second expression

upper_low : least Production Value heads need upper ≡ 0
upper_low = rw expr_known.low refl

pub upper_some : (d : ℕ) (ts : List Tok) → mem (next ts).code (code k.Colon ∷ []) ≡ true → reads d upper ts ≡ (reads d (tok k.Colon) ts >>= λ t. reads d expr t.1 >>= λ e. Ok (Some e.0, e.1))
upper_some d ts h = rw (expr_known.low, h) (go (reads d (tok k.Colon) ts))
  where
    ended : (t : Tok) (o : Out tree.Expr) → made Some (made (λ p. p.1) (beside t o)) ≡ made Some o
    ended t (Ok x) = refl
    ended t (Err m) = refl

    go : (o : Out Tok) → made Some (made (λ p. p.1) (row o (λ r. reads d expr r))) ≡ (o >>= λ t. made Some (reads d expr t.1))
    go (Ok t) = ended t.0 (reads d expr t.1)
    go (Err m) = refl

pub upper_none : (d : ℕ) (ts : List Tok) → mem (next ts).code (code k.Colon ∷ []) ≡ false → reads d upper ts ≡ Ok (None, ts)
upper_none d ts h = rw (expr_known.low, h) refl

-- a dimension whose first expression is e
abbrev pub bounded : ℕ → Place → Out tree.Expr → Out stmts.Dimension
bounded d at o = o >>= λ e. made (λ x. dimension_of e.0 x at) (reads d upper e.1)

-- a dimension that is a type
abbrev pub keyed : Place → Out types.WrittenType → Out stmts.Dimension
keyed at o = made (λ u. stmts.Key at u) o

-- ---- a type word: the rest of a cast, or of a type

cast_rest_low : least Production Value heads need cast_rest ≡ 1
unfolding cast_rest expr_over levels cast closed
cast_rest_low = refl

cast_rest_begins : (info Production Value heads need cast_rest).first ≡ code k.Apostrophe ∷ []
unfolding cast_rest expr_over levels cast
cast_rest_begins = refl

cast_rest_some : (info Production Value heads need cast_rest).null ≡ false
unfolding cast_rest expr_over levels cast
cast_rest_some = refl

-- what follows the type word c
abbrev pub after_word : ℕ → Place → CastType → List Tok → Out types.WrittenType → Out stmts.Dimension
after_word d at c ts u = cond (mem (next ts).code (code k.Apostrophe ∷ [])) (cond (reach 1 d) (bounded d at (recast c (reads d cast_rest ts))) (Err (TooDeep ts))) (keyed at u)

module _ {R : Type 0} (to : Tok → CastType) (make : Tok → R → types.WrittenType) (rest : C R) (low : least Production Value heads need rest ≡ 0) where
  abbrev sized : tree.Expr → Option tree.Expr → Tok → Place → stmts.Dimension
  sized e o t at = dimension_of (with_cast (to t) e) o at

  abbrev typed : R → Tok → Place → stmts.Dimension
  typed r t at = stmts.Key at (make t r)

  pub word_dimension_low : (ks : List ℕ) → least Production Value heads need (word_dimension to make (One ks) rest) ≡ 0
  word_dimension_low ks = rw (cast_rest_low, expr_known.low, low) refl

  rests : (d : ℕ) (r : List Tok) → reads d (Alt (pair (λ e o t at. dimension_of (with_cast (to t) e) o at) cast_rest upper) (Map (λ r t at. stmts.Key at (make t r)) rest)) r ≡ cond (mem (next r).code (code k.Apostrophe ∷ [])) (cond (reach 1 d) (reads d (pair sized cast_rest upper) r) (Err (TooDeep r))) (reads d (Map typed rest) r)
  rests d r = alt_is (pair sized cast_rest upper) (Map typed rest) (code k.Apostrophe ∷ []) 1 d r (rw (cast_rest_some, cast_rest_begins) refl) (rw (cast_rest_low, expr_known.low) refl) low

  word_dimension_is : (w : C Tok) (d : ℕ) (at : Place) (ts : List Tok) (t : Tok) (r : List Tok) → reads d w ts ≡ Ok (t, r) → applied at (reads d (word_dimension to make w rest) ts) ≡ after_word d at (to t) r (reads d (pair make w rest) ts)
  word_dimension_is w d at ts t r e = rw (e, rests d r) (go (mem (next r).code (code k.Apostrophe ∷ [])) (reach 1 d) (reads d cast_rest r) (reads d rest r))
    where
      cast_to : (x : tree.Expr) (o : Out (Option tree.Expr)) → applied at (made (λ p. p.1 p.0) (beside t (made (λ p. sized p.0 p.1) (beside x o)))) ≡ made (λ y. dimension_of (with_cast (to t) x) y at) o
      cast_to x (Ok y) = refl
      cast_to x (Err m) = refl

      go : (b on : Bool) (o : Out tree.Expr) (p : Out R) → applied at (made (λ q. q.1 q.0) (beside t (cond b (cond on (made (λ p. sized p.0 p.1) (row o (λ s. reads d upper s))) (Err (TooDeep r))) (made typed p)))) ≡ cond b (cond on (bounded d at (recast (to t) o)) (Err (TooDeep r))) (keyed at (made (λ q. make q.0 q.1) (beside t p)))
      go true true (Ok x) p = cast_to x.0 (reads d upper x.1)
      go true true (Err m) p = refl
      go true false o p = refl
      go false on o (Ok x) = refl
      go false on o (Err m) = refl

  -- the same of a type word that was read
  pub word_case : (ks : List ℕ) (d : ℕ) (at : Place) (t : Tok) (r : List Tok) → mem t.code ks ≡ true → reads d dimension_inside (t ∷ r) ≡ reads d (word_dimension to make (One ks) rest) (t ∷ r) → reads d word_type (t ∷ r) ≡ reads d (pair make (One ks) rest) (t ∷ r)
      → applied at (reads d dimension_inside (t ∷ r)) ≡ after_word d at (to t) r (reads d word_type (t ∷ r))
  word_case ks d at t r h dim ty = ap (applied at) dim ∙ word_dimension_is (One ks) d at (t ∷ r) t r (rw h refl) ∙ ap (after_word d at (to t) r) (sym ty)

-- ---- the type words in turn

abbrev to_vector : Tok → CastType
to_vector t = cast_type.Vector t.at (chosen vector_word.Reg vector_words t.code)

abbrev to_atom : Tok → CastType
to_atom t = cast_type.Atom t.at (chosen atom_word.Time atom_words t.code)

abbrev text_of : Tok → Unit {0} → types.WrittenType
text_of t r = types.Text t.at

abbrev event_of : Tok → Unit {0} → types.WrittenType
event_of t r = types.Event t.at

abbrev semaphore_of : Tok → Unit {0} → types.WrittenType
semaphore_of t r = types.Semaphore t.at

abbrev vector_dimension : C (Place → stmts.Dimension)
vector_dimension = word_dimension to_vector vector_of (One (kinds_of vector_words)) vector_rest

abbrev atom_dimension : C (Place → stmts.Dimension)
atom_dimension = word_dimension to_atom atom_of (One (kinds_of atom_words)) sign

abbrev text_dimension : C (Place → stmts.Dimension)
text_dimension = word_dimension (λ t. cast_type.Text t.at) text_of (tok k.String) nothing_more

abbrev event_dimension : C (Place → stmts.Dimension)
event_dimension = word_dimension (λ t. cast_type.Event t.at) event_of (tok k.Event) nothing_more

abbrev semaphore_dimension : C (Place → stmts.Dimension)
semaphore_dimension = word_dimension (λ t. cast_type.Semaphore t.at) semaphore_of (tok k.Semaphore) nothing_more

abbrev mailbox_dimension : C (Place → stmts.Dimension)
mailbox_dimension = word_dimension (λ t. cast_type.Mailbox t.at) mailbox_of (tok k.Mailbox) mailbox_rest

vector_rest_low : least Production Value heads need vector_rest ≡ 0
vector_rest_low = rw range_known.low refl

vector_low : least Production Value heads need vector_dimension ≡ 0
vector_low = word_dimension_low to_vector vector_of vector_rest vector_rest_low (kinds_of vector_words)

atom_low : least Production Value heads need atom_dimension ≡ 0
atom_low = word_dimension_low to_atom atom_of sign refl (kinds_of atom_words)

text_low : least Production Value heads need text_dimension ≡ 0
text_low = word_dimension_low (λ t. cast_type.Text t.at) text_of nothing_more refl (code k.String ∷ [])

event_low : least Production Value heads need event_dimension ≡ 0
event_low = word_dimension_low (λ t. cast_type.Event t.at) event_of nothing_more refl (code k.Event ∷ [])

semaphore_low : least Production Value heads need semaphore_dimension ≡ 0
semaphore_low = word_dimension_low (λ t. cast_type.Semaphore t.at) semaphore_of nothing_more refl (code k.Semaphore ∷ [])

mailbox_low : least Production Value heads need mailbox_dimension ≡ 0
mailbox_low = word_dimension_low (λ t. cast_type.Mailbox t.at) mailbox_of mailbox_rest refl (code k.Mailbox ∷ [])

-- what stands in the brackets, where no type word does
abbrev enumerated : C (Place → stmts.Dimension)
enumerated = Map (λ u at. stmts.Key at u) enum

abbrev plain : C (Place → stmts.Dimension)
plain = pair dimension_of plain_expr upper

abbrev after_mailbox : C (Place → stmts.Dimension)
after_mailbox = Alt enumerated (Alt plain (Done stmts.Empty))

abbrev after_semaphore : C (Place → stmts.Dimension)
after_semaphore = Alt mailbox_dimension after_mailbox

abbrev after_event : C (Place → stmts.Dimension)
after_event = Alt semaphore_dimension after_semaphore

abbrev after_text : C (Place → stmts.Dimension)
after_text = Alt event_dimension after_event

abbrev after_atom : C (Place → stmts.Dimension)
after_atom = Alt text_dimension after_text

abbrev after_vector : C (Place → stmts.Dimension)
after_vector = Alt atom_dimension after_atom

in_vector : (d : ℕ) (ts : List Tok) → mem (next ts).code (kinds_of vector_words) ≡ true → reads d dimension_inside ts ≡ reads d vector_dimension ts
unfolding dimension_inside
in_vector d ts h = alt_first vector_dimension after_vector (kinds_of vector_words) d ts refl vector_low h

no_vector : (d : ℕ) (ts : List Tok) → mem (next ts).code (kinds_of vector_words) ≡ false → reads d dimension_inside ts ≡ reads d after_vector ts
unfolding dimension_inside
no_vector d ts h = alt_second vector_dimension after_vector (kinds_of vector_words) d ts refl (alt_low atom_dimension after_atom atom_low) h

in_atom : (d : ℕ) (ts : List Tok) → mem (next ts).code (kinds_of vector_words) ≡ false → mem (next ts).code (kinds_of atom_words) ≡ true → reads d dimension_inside ts ≡ reads d atom_dimension ts
in_atom d ts g h = no_vector d ts g ∙ alt_first atom_dimension after_atom (kinds_of atom_words) d ts refl atom_low h

no_atom : (d : ℕ) (ts : List Tok) → mem (next ts).code (kinds_of vector_words) ≡ false → mem (next ts).code (kinds_of atom_words) ≡ false → reads d dimension_inside ts ≡ reads d after_atom ts
no_atom d ts g h = no_vector d ts g ∙ alt_second atom_dimension after_atom (kinds_of atom_words) d ts refl (alt_low text_dimension after_text text_low) h

in_text : (d : ℕ) (ts : List Tok) → (next ts).code ≡ code k.String → reads d dimension_inside ts ≡ reads d text_dimension ts
in_text d ts is = no_atom d ts (rw is refl) (rw is refl) ∙ alt_first text_dimension after_text (code k.String ∷ []) d ts refl text_low (rw is refl)

no_text : (d : ℕ) (ts : List Tok) → mem (next ts).code (kinds_of vector_words) ≡ false → mem (next ts).code (kinds_of atom_words) ≡ false → mem (next ts).code (code k.String ∷ []) ≡ false → reads d dimension_inside ts ≡ reads d after_text ts
no_text d ts f g h = no_atom d ts f g ∙ alt_second text_dimension after_text (code k.String ∷ []) d ts refl (alt_low event_dimension after_event event_low) h

in_event : (d : ℕ) (ts : List Tok) → (next ts).code ≡ code k.Event → reads d dimension_inside ts ≡ reads d event_dimension ts
in_event d ts is = no_text d ts (rw is refl) (rw is refl) (rw is refl) ∙ alt_first event_dimension after_event (code k.Event ∷ []) d ts refl event_low (rw is refl)

no_event : (d : ℕ) (ts : List Tok) → mem (next ts).code (kinds_of vector_words) ≡ false → mem (next ts).code (kinds_of atom_words) ≡ false → mem (next ts).code (code k.String ∷ []) ≡ false → mem (next ts).code (code k.Event ∷ []) ≡ false → reads d dimension_inside ts ≡ reads d after_event ts
no_event d ts e f g h = no_text d ts e f g ∙ alt_second event_dimension after_event (code k.Event ∷ []) d ts refl (alt_low semaphore_dimension after_semaphore semaphore_low) h

in_semaphore : (d : ℕ) (ts : List Tok) → (next ts).code ≡ code k.Semaphore → reads d dimension_inside ts ≡ reads d semaphore_dimension ts
in_semaphore d ts is = no_event d ts (rw is refl) (rw is refl) (rw is refl) (rw is refl) ∙ alt_first semaphore_dimension after_semaphore (code k.Semaphore ∷ []) d ts refl semaphore_low (rw is refl)

no_semaphore : (d : ℕ) (ts : List Tok) → mem (next ts).code (kinds_of vector_words) ≡ false → mem (next ts).code (kinds_of atom_words) ≡ false → mem (next ts).code (code k.String ∷ []) ≡ false → mem (next ts).code (code k.Event ∷ []) ≡ false → mem (next ts).code (code k.Semaphore ∷ []) ≡ false → reads d dimension_inside ts ≡ reads d after_semaphore ts
no_semaphore d ts b e f g h = no_event d ts b e f g ∙ alt_second semaphore_dimension after_semaphore (code k.Semaphore ∷ []) d ts refl (alt_low mailbox_dimension after_mailbox mailbox_low) h

in_mailbox : (d : ℕ) (ts : List Tok) → (next ts).code ≡ code k.Mailbox → reads d dimension_inside ts ≡ reads d mailbox_dimension ts
in_mailbox d ts is = no_semaphore d ts (rw is refl) (rw is refl) (rw is refl) (rw is refl) (rw is refl) ∙ alt_first mailbox_dimension after_mailbox (code k.Mailbox ∷ []) d ts refl mailbox_low (rw is refl)

-- no type word is next
abbrev NoWord : ℕ → Type 0
NoWord n = (mem n (kinds_of vector_words) ≡ false) × (mem n (kinds_of atom_words) ≡ false) × (mem n (code k.String ∷ []) ≡ false) × (mem n (code k.Event ∷ []) ≡ false) × (mem n (code k.Semaphore ∷ []) ≡ false) × (mem n (code k.Mailbox ∷ []) ≡ false)

past_words : (d : ℕ) (ts : List Tok) → NoWord (next ts).code → reads d dimension_inside ts ≡ reads d after_mailbox ts
past_words d ts h = no_semaphore d ts h.0 h.1 h.2 h.3 h.4 ∙ alt_second mailbox_dimension after_mailbox (code k.Mailbox ∷ []) d ts refl (alt_low enumerated (Alt plain (Done stmts.Empty)) enum_low) h.5

-- ---- a type word that is read as the type of a cast

-- the type word that a kind is
data Which (n : ℕ) : Type 0 where
  a_vector : mem n (kinds_of vector_words) ≡ true → Which n
  an_atom : mem n (kinds_of vector_words) ≡ false → mem n (kinds_of atom_words) ≡ true → Which n
  a_text : n ≡ code k.String → Which n
  an_event : n ≡ code k.Event → Which n
  a_semaphore : n ≡ code k.Semaphore → Which n
  a_mailbox : n ≡ code k.Mailbox → Which n

last_words : (n : ℕ) → mem n (codes_of (k.String ∷ k.Event ∷ k.Semaphore ∷ k.Mailbox ∷ [])) ≡ true → Which n
last_words n h = elim (mem-append n (code k.String ∷ []) (codes_of (k.Event ∷ k.Semaphore ∷ k.Mailbox ∷ [])) h) [
  | inl a ↦ a_text (is_one n (code k.String) a)
  | inr g ↦ elim (mem-append n (code k.Event ∷ []) (codes_of (k.Semaphore ∷ k.Mailbox ∷ [])) g) [
    | inl a ↦ an_event (is_one n (code k.Event) a)
    | inr i ↦ elim (mem-append n (code k.Semaphore ∷ []) (codes_of (k.Mailbox ∷ [])) i) [
      | inl a ↦ a_semaphore (is_one n (code k.Semaphore) a)
      | inr a ↦ a_mailbox (is_one n (code k.Mailbox) a)
    ]
  ]
]

which : (n : ℕ) → mem n cast_first ≡ true → Which n
which n h = go (mem n (kinds_of vector_words)) refl
  where
    go : (b : Bool) → mem n (kinds_of vector_words) ≡ b → Which n
    go true e = a_vector e
    go false e = elim (mem-append n (kinds_of vector_words) (kinds_of atom_words ++ codes_of (k.String ∷ k.Event ∷ k.Semaphore ∷ k.Mailbox ∷ [])) h) [
      | inl a ↦ a_vector a
      | inr g ↦ elim (mem-append n (kinds_of atom_words) (codes_of (k.String ∷ k.Event ∷ k.Semaphore ∷ k.Mailbox ∷ [])) g) [
        | inl a ↦ an_atom e a
        | inr i ↦ last_words n i
      ]
    ]

type_vector : (d : ℕ) (ts : List Tok) → mem (next ts).code (kinds_of vector_words) ≡ true → reads d word_type ts ≡ reads d (pair vector_of (One (kinds_of vector_words)) vector_rest) ts
unfolding vector_type
type_vector d ts h = word_vector d ts h

type_atom : (d : ℕ) (ts : List Tok) → mem (next ts).code (kinds_of vector_words) ≡ false → mem (next ts).code (kinds_of atom_words) ≡ true → reads d word_type ts ≡ reads d (pair atom_of (One (kinds_of atom_words)) sign) ts
unfolding atom_type
type_atom d ts h g = word_atom d ts h g

type_text : (d : ℕ) (t : Tok) (r : List Tok) → t.code ≡ code k.String → reads d word_type (t ∷ r) ≡ reads d (pair text_of (tok k.String) nothing_more) (t ∷ r)
type_text d t r h = word_text d (t ∷ r) (rw h refl) ∙ rw h refl

type_event : (d : ℕ) (t : Tok) (r : List Tok) → t.code ≡ code k.Event → reads d word_type (t ∷ r) ≡ reads d (pair event_of (tok k.Event) nothing_more) (t ∷ r)
type_event d t r h = word_event d (t ∷ r) (rw h refl) ∙ rw h refl

type_semaphore : (d : ℕ) (t : Tok) (r : List Tok) → t.code ≡ code k.Semaphore → reads d word_type (t ∷ r) ≡ reads d (pair semaphore_of (tok k.Semaphore) nothing_more) (t ∷ r)
type_semaphore d t r h = word_semaphore d (t ∷ r) (rw h refl) ∙ rw h refl

type_mailbox : (d : ℕ) (ts : List Tok) → (next ts).code ≡ code k.Mailbox → reads d word_type ts ≡ reads d (pair mailbox_of (tok k.Mailbox) mailbox_rest) ts
unfolding mailbox_type
type_mailbox d ts h = word_mailbox d ts (rw h refl)

as_vector : (t : Tok) (r : List Tok) → mem t.code (kinds_of vector_words) ≡ true → reads 0 cast_word (t ∷ r) ≡ Ok (to_vector t, r)
as_vector t r h = rw h refl

as_atom : (t : Tok) (r : List Tok) → mem t.code (kinds_of vector_words) ≡ false → mem t.code (kinds_of atom_words) ≡ true → reads 0 cast_word (t ∷ r) ≡ Ok (to_atom t, r)
as_atom t r h g = rw (h, g) refl

-- what stands in the brackets, after the type word c
abbrev Worded : ℕ → Place → List Tok → CastType × List Tok → Type 0
Worded d at ts c = applied at (reads d dimension_inside ts) ≡ after_word d at c.0 c.1 (reads d word_type ts)

read_as : (o : Out CastType) (x c : CastType × List Tok) → o ≡ Ok x → o ≡ Ok c → x ≡ c
read_as o x c e g = cc

worded : (d : ℕ) (at : Place) (t : Tok) (r : List Tok) (c : CastType × List Tok) → Which t.code → reads 0 cast_word (t ∷ r) ≡ Ok c → Worded d at (t ∷ r) c
worded d at t r c (a_vector h) e = subst (Worded d at (t ∷ r)) (read_as (reads 0 cast_word (t ∷ r)) (to_vector t, r) c (as_vector t r h) e)
    (word_case to_vector vector_of vector_rest vector_rest_low (kinds_of vector_words) d at t r h (in_vector d (t ∷ r) h) (type_vector d (t ∷ r) h))
worded d at t r c (an_atom h g) e = subst (Worded d at (t ∷ r)) (read_as (reads 0 cast_word (t ∷ r)) (to_atom t, r) c (as_atom t r h g) e)
    (word_case to_atom atom_of sign refl (kinds_of atom_words) d at t r g (in_atom d (t ∷ r) h g) (type_atom d (t ∷ r) h g))
worded d at t r c (a_text h) e = subst (Worded d at (t ∷ r)) (read_as (reads 0 cast_word (t ∷ r)) (cast_type.Text t.at, r) c (rw h refl) e)
    (word_case (λ q. cast_type.Text q.at) text_of nothing_more refl (code k.String ∷ []) d at t r (rw h refl) (in_text d (t ∷ r) h) (type_text d t r h))
worded d at t r c (an_event h) e = subst (Worded d at (t ∷ r)) (read_as (reads 0 cast_word (t ∷ r)) (cast_type.Event t.at, r) c (rw h refl) e)
    (word_case (λ q. cast_type.Event q.at) event_of nothing_more refl (code k.Event ∷ []) d at t r (rw h refl) (in_event d (t ∷ r) h) (type_event d t r h))
worded d at t r c (a_semaphore h) e = subst (Worded d at (t ∷ r)) (read_as (reads 0 cast_word (t ∷ r)) (cast_type.Semaphore t.at, r) c (rw h refl) e)
    (word_case (λ q. cast_type.Semaphore q.at) semaphore_of nothing_more refl (code k.Semaphore ∷ []) d at t r (rw h refl) (in_semaphore d (t ∷ r) h) (type_semaphore d t r h))
worded d at t r c (a_mailbox h) e = subst (Worded d at (t ∷ r)) (read_as (reads 0 cast_word (t ∷ r)) (cast_type.Mailbox t.at, r) c (rw h refl) e)
    (word_case (λ q. cast_type.Mailbox q.at) mailbox_of mailbox_rest refl (code k.Mailbox ∷ []) d at t r (rw h refl) (in_mailbox d (t ∷ r) h) (type_mailbox d (t ∷ r) h))

dimension_worded : (d : ℕ) (at : Place) (ts : List Tok) (c : CastType × List Tok) → mem (next ts).code cast_first ≡ true → reads 0 cast_word ts ≡ Ok c → Worded d at ts c
dimension_worded d at [] c h e = absurd cc
dimension_worded d at (t ∷ r) c h e = worded d at t r c (which t.code h) e

module _ (d : ℕ) (at : Place) (ts : List Tok) (c : CastType × List Tok) (word : mem (next ts).code cast_first ≡ true) (to : reads 0 cast_word ts ≡ Ok c) where
  -- a type
  dimension_key : mem (next c.1).code (code k.Apostrophe ∷ []) ≡ false → applied at (reads d dimension_inside ts) ≡ keyed at (reads d word_type ts)
  dimension_key g = rw (dimension_worded d at ts c word to, g) refl

  pub key_read : (u : types.WrittenType × List Tok) → mem (next c.1).code (code k.Apostrophe ∷ []) ≡ false → reads d word_type ts ≡ Ok u → applied at (reads d dimension_inside ts) ≡ Ok (stmts.Key at u.0, u.1)
  key_read u g h = rw (dimension_key g, h) refl

  pub key_fails : (e : ReadError) → mem (next c.1).code (code k.Apostrophe ∷ []) ≡ false → Fails e (reads d word_type ts) → Fails e (applied at (reads d dimension_inside ts))
  key_fails e g h = rw (dimension_key g) (fails_after e (reads d word_type ts) (λ u. Ok (stmts.Key at u.0, u.1)) h)

  -- a cast
  pub dimension_deep : mem (next c.1).code (code k.Apostrophe ∷ []) ≡ true → d ≡ 0 → applied at (reads d dimension_inside ts) ≡ Err (TooDeep c.1)
  dimension_deep g none = dimension_worded d at ts c word to ∙ rw (g, none) refl

  pub dimension_cast : (b : ℕ) → mem (next c.1).code (code k.Apostrophe ∷ []) ≡ true → b + 1 ≡ d → applied at (reads d dimension_inside ts) ≡ bounded d at (recast c.0 (reads d cast_rest c.1))
  dimension_cast b g some = rw (dimension_worded d at ts c word to, g, has_one b d some) refl

  pub cast_fails : (b : ℕ) (e : ReadError) → mem (next c.1).code (code k.Apostrophe ∷ []) ≡ true → b + 1 ≡ d → Fails e (recast c.0 (reads d cast_rest c.1)) → Fails e (applied at (reads d dimension_inside ts))
  cast_fails b e g some h = rw (dimension_cast b g some) (fails_after e (recast c.0 (reads d cast_rest c.1)) (λ x. made (λ o. dimension_of x.0 o at) (reads d upper x.1)) h)

unread : (t : Tok) (r : List Tok) (m : Miss) → Which t.code → reads 0 cast_word (t ∷ r) ≡ Err m → ⊥
unread t r m (a_vector h) e = let g = as_vector t r h in cc
unread t r m (an_atom h i) e = let g = as_atom t r h i in cc
unread t r m (a_text h) e = let g : reads 0 cast_word (t ∷ r) ≡ Ok (cast_type.Text t.at, r) = rw h refl in cc
unread t r m (an_event h) e = let g : reads 0 cast_word (t ∷ r) ≡ Ok (cast_type.Event t.at, r) = rw h refl in cc
unread t r m (a_semaphore h) e = let g : reads 0 cast_word (t ∷ r) ≡ Ok (cast_type.Semaphore t.at, r) = rw h refl in cc
unread t r m (a_mailbox h) e = let g : reads 0 cast_word (t ∷ r) ≡ Ok (cast_type.Mailbox t.at, r) = rw h refl in cc

pub dimension_unread : (d : ℕ) (at : Place) (ts : List Tok) (m : Miss) → mem (next ts).code cast_first ≡ true → reads 0 cast_word ts ≡ Err m → applied at (reads d dimension_inside ts) ≡ Err m
dimension_unread d at [] m h e = absurd cc
dimension_unread d at (t ∷ r) m h e = absurd (unread t r m (which t.code h) e)

-- ---- an enumeration, an expression, or nothing

pub dimension_enum : (d : ℕ) (at : Place) (ts : List Tok) → mem (next ts).code (code k.Enum ∷ []) ≡ true → applied at (reads d dimension_inside ts) ≡ keyed at (reads d word_type ts)
unfolding enum
dimension_enum d at ts h =
    let is = is_one (next ts).code (code k.Enum) h in
    let inside = past_words d ts (rw is (refl, refl, refl, refl, refl, refl)) ∙ alt_first enumerated (Alt plain (Done stmts.Empty)) (code k.Enum ∷ []) d ts refl enum_low h in
    rw (inside, word_enum d ts (rw is refl) (rw is refl) (rw is refl) (rw is refl) (rw is refl) (rw is refl)) (applied_made at (λ (u : types.WrittenType) (b : Place). stmts.Key b u) (reads d enum ts))

-- what is outside a set is outside its parts
outside : (n : ℕ) (xs ys : List ℕ) → subset xs ys ≡ true → mem n ys ≡ false → mem n xs ≡ false
outside n xs ys s h = go (mem n xs) refl
  where
    go : (b : Bool) → mem n xs ≡ b → b ≡ false
    go true e = let g = within n xs ys s e in absurd cc
    go false e = refl

either_one : (n : ℕ) (xs ys : List ℕ) → mem n (xs ++ ys) ≡ true → mem n ys ≡ false → mem n xs ≡ true
either_one n xs ys h g = elim (mem-append n xs ys h) [ inl a ↦ a | inr b ↦ absurd cc ]

-- what an operand without an operator before it begins with, but for type words
abbrev operand_first : List ℕ
operand_first = codes_of (k.Number ∷ k.TimeLiteral ∷ k.StringLiteral ∷ k.Null ∷ k.Dollar ∷ k.LeftParenthesis ∷ k.Name ∷ k.This ∷ k.Super ∷ k.SystemName ∷ k.LeftBrace ∷ [])

-- what an expression begins with, but for type words
abbrev plain_first : List ℕ
plain_first = kinds_of unary_words ++ operand_first

operand_begins : (info Production Value heads need plain_prim).first ≡ operand_first
unfolding plain_prim number time text null_ dollar group named this this_post super_call system_call braces
operand_begins = refl

operand_low : least Production Value heads need plain_prim ≡ 0
unfolding plain_prim number cast closed
operand_low = refl

prefixed_begins : (info Production Value heads need prefixed).first ≡ kinds_of unary_words
unfolding prefixed
prefixed_begins = refl

plain_part : (n : ℕ) → mem n plain_first ≡ true → mem n (kinds_of unary_words) ≡ false → mem n operand_first ≡ true
plain_part n h g = elim (mem-append n (kinds_of unary_words) operand_first h) [ inl a ↦ absurd cc | inr b ↦ b ]

-- an operand that begins with no type word
unary_is : (d : ℕ) (ts : List Tok) → mem (next ts).code plain_first ≡ true → reads d plain_unary ts ≡ reads d unary ts
unfolding unary prim plain_unary
unary_is d ts h = go (mem (next ts).code (kinds_of unary_words)) refl
  where
    go : (b : Bool) → mem (next ts).code (kinds_of unary_words) ≡ b → reads d plain_unary ts ≡ reads d unary ts
    go true e = with_operator e
      where
        with_operator : mem (next ts).code (kinds_of unary_words) ≡ true → reads d plain_unary ts ≡ reads d unary ts
        with_operator e = rw (prefixed_begins, e) refl
    go false e =
        alt_second prefixed plain_prim (kinds_of unary_words) d ts prefixed_begins operand_low e
        ∙ sym (alt_second prefixed prim (kinds_of unary_words) d ts prefixed_begins (alt_low plain_prim word_cast operand_low) e ∙ alt_first plain_prim word_cast operand_first d ts operand_begins operand_low (plain_part (next ts).code h e))

-- operators over operands that read alike
levels_alike : (a b : C tree.Expr) (ps : List Precedence) (d : ℕ) (ts : List Tok) → reads d a ts ≡ reads d b ts → reads d (levels a ps) ts ≡ reads d (levels b ps) ts
unfolding levels
levels_alike a b [] d ts e = e
levels_alike a b (p ∷ ps) d ts e = rw (levels_alike a b ps d ts e) refl

over_alike : (a b : C tree.Expr) (d : ℕ) (ts : List Tok) → reads d a ts ≡ reads d b ts → reads d (expr_over a) ts ≡ reads d (expr_over b) ts
unfolding expr_over
over_alike a b d ts e = rw (levels_alike a b precedences d ts e) refl

plain_is : (d : ℕ) (ts : List Tok) → mem (next ts).code plain_first ≡ true → reads d plain_expr ts ≡ reads d expr ts
unfolding expr plain_expr
plain_is d ts h = over_alike plain_unary unary d ts (unary_is d ts h)

plain_low : least Production Value heads need plain ≡ 0
unfolding plain_expr expr_over levels plain_unary prefixed
plain_low = rw (operand_low, expr_known.low) refl

plain_begins : (info Production Value heads need plain).first ≡ plain_first
unfolding plain_expr expr_over levels plain_unary prefixed plain_prim number time text null_ dollar group named this this_post super_call system_call braces
plain_begins = refl

made_of : (d : ℕ) (at : Place) (o : Out tree.Expr) → applied at (made (λ p. dimension_of p.0 p.1) (row o (λ r. reads d upper r))) ≡ bounded d at o
made_of d at (Ok x) = ended x.0 (reads d upper x.1)
  where
    ended : (e : tree.Expr) (o : Out (Option tree.Expr)) → applied at (made (λ p. dimension_of p.0 p.1) (beside e o)) ≡ made (λ y. dimension_of e y at) o
    ended e (Ok y) = refl
    ended e (Err m) = refl
made_of d at (Err m) = refl

no_word : (n : ℕ) → mem n cast_first ≡ false → NoWord n
no_word n h = (outside n (kinds_of vector_words) cast_first refl h, outside n (kinds_of atom_words) cast_first refl h, outside n (code k.String ∷ []) cast_first refl h, outside n (code k.Event ∷ []) cast_first refl h, outside n (code k.Semaphore ∷ []) cast_first refl h, outside n (code k.Mailbox ∷ []) cast_first refl h)

past_enum : (d : ℕ) (ts : List Tok) → mem (next ts).code cast_first ≡ false → mem (next ts).code (code k.Enum ∷ []) ≡ false → reads d dimension_inside ts ≡ reads d (Alt plain (Done stmts.Empty)) ts
unfolding enum
past_enum d ts h e = past_words d ts (no_word (next ts).code h) ∙ alt_second enumerated (Alt plain (Done stmts.Empty)) (code k.Enum ∷ []) d ts refl (alt_low plain (Done stmts.Empty) plain_low) e

begins_plain : (n : ℕ) → mem n cast_first ≡ false → mem n expr_first ≡ true → mem n plain_first ≡ true
begins_plain n h g = either_one n plain_first cast_first (within n expr_first (plain_first ++ cast_first) refl g) h

pub dimension_plain : (d : ℕ) (at : Place) (ts : List Tok) → mem (next ts).code cast_first ≡ false → mem (next ts).code (code k.Enum ∷ []) ≡ false → mem (next ts).code expr_first ≡ true → applied at (reads d dimension_inside ts) ≡ bounded d at (reads d expr ts)
dimension_plain d at ts h e g =
    let p = begins_plain (next ts).code h g in
    rw (past_enum d ts h e ∙ alt_first plain (Done stmts.Empty) plain_first d ts plain_begins plain_low p) (made_of d at (reads d plain_expr ts)) ∙ ap (bounded d at) (plain_is d ts p)

pub dimension_empty : (d : ℕ) (at : Place) (ts : List Tok) → mem (next ts).code cast_first ≡ false → mem (next ts).code (code k.Enum ∷ []) ≡ false → mem (next ts).code expr_first ≡ false → applied at (reads d dimension_inside ts) ≡ Ok (stmts.Empty at, ts)
dimension_empty d at ts h e g = rw (past_enum d ts h e ∙ alt_second plain (Done stmts.Empty) plain_first d ts plain_begins refl (outside (next ts).code plain_first expr_first refl g)) refl

pub ruleset without_type_word = (dimension_enum, dimension_plain, dimension_empty)

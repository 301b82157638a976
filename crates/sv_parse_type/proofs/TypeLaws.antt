-- What a type begins with.
use Rattle.std.proofs.Common.{◌≡◌, ℕ, ◌+◌, true, false, List, [], ◌∷◌, Ok, Some, refl, ◌∙◌}
use Rattle.sv_grammar.specs.Tokens.{Tok, next, mem}
use Rattle.sv_grammar.specs.Language.{Out}
use Rattle.sv_grammar.specs.Reading.{◌>>=◌, one_of}
use Rattle.sv_grammar.specs.Code.{info, least}
use Rattle.sv_grammar.specs.Code.Code.{Map, Alt, Inner}
use Rattle.sv_tree.specs.declared.kind.Kind.TheVariants as k
use Rattle.sv_tree.specs.Codes.{code}
use Rattle.sv_tree.specs.Types as types
use Rattle.sv_tree.specs.Forms.{Production, Value, C, A_type, kinds_of, tok, triple, name, list, optional, in_braces}
use Rattle.sv_tree.specs.ExprGrammar.{vector_words, atom_words}
use Rattle.sv_tree.specs.TypeGrammar.{enum_item, enum, enum_of, vector_type, atom_type, mailbox_type, word_type, named_type, type}
use Rattle.sv_tree.specs.Grammar.{heads, need, reads}
use Rattle.sv_parse.specs.Outcome.{Fails}
use Rattle.sv_parse.specs.declared.tokens.ReadError.{ReadError}
use Rattle.sv_parse.proofs.TypeParts.{range_known, enum_item_known}
use Rattle.sv_parse_type.proofs.Shapes.{made, beside, row, made_beside, made_row, after_made, fails_after, is_one, alt_first, alt_second, one_deeper, has_one}
use Rattle.sv_parse_type.specs.Begins.{type_first, word_type_first}

-- ---- the least depth of a type

pub vector_low : least Production Value heads need vector_type ≡ 0
unfolding vector_type
vector_low = rw range_known.low refl

pub enum_low : least Production Value heads need enum ≡ 0
unfolding enum
enum_low = rw enum_item_known.low refl

pub word_low : least Production Value heads need word_type ≡ 0
unfolding word_type
word_low = rw vector_low refl

pub type_low : least Production Value heads need type ≡ 0
unfolding type
type_low = rw word_low refl

-- ---- the word that a type begins with

-- the types after those of vectors, of atoms, and of each word
abbrev after_mailbox : C types.WrittenType
after_mailbox = enum

abbrev after_semaphore : C types.WrittenType
after_semaphore = Alt mailbox_type after_mailbox

abbrev after_event : C types.WrittenType
after_event = Alt (Map (λ t. types.Semaphore t.at) (tok k.Semaphore)) after_semaphore

abbrev after_text : C types.WrittenType
after_text = Alt (Map (λ t. types.Event t.at) (tok k.Event)) after_event

abbrev after_atom : C types.WrittenType
after_atom = Alt (Map (λ t. types.Text t.at) (tok k.String)) after_text

abbrev after_vector : C types.WrittenType
after_vector = Alt atom_type after_atom

pub word_vector : (d : ℕ) (ts : List Tok) → mem (next ts).code (kinds_of vector_words) ≡ true → reads d word_type ts ≡ reads d vector_type ts
unfolding word_type vector_type
word_vector d ts h = alt_first vector_type after_vector (kinds_of vector_words) d ts refl vector_low h

not_vector : (d : ℕ) (ts : List Tok) → mem (next ts).code (kinds_of vector_words) ≡ false → reads d word_type ts ≡ reads d after_vector ts
unfolding word_type vector_type atom_type
not_vector d ts h = alt_second vector_type after_vector (kinds_of vector_words) d ts refl refl h

pub word_atom : (d : ℕ) (ts : List Tok) → mem (next ts).code (kinds_of vector_words) ≡ false → mem (next ts).code (kinds_of atom_words) ≡ true → reads d word_type ts ≡ reads d atom_type ts
unfolding atom_type
word_atom d ts h g = not_vector d ts h ∙ alt_first atom_type after_atom (kinds_of atom_words) d ts refl refl g

not_atom : (d : ℕ) (ts : List Tok) → mem (next ts).code (kinds_of vector_words) ≡ false → mem (next ts).code (kinds_of atom_words) ≡ false → reads d word_type ts ≡ reads d after_atom ts
unfolding atom_type
not_atom d ts h g = not_vector d ts h ∙ alt_second atom_type after_atom (kinds_of atom_words) d ts refl refl g

pub word_text : (d : ℕ) (ts : List Tok) → mem (next ts).code (code k.String ∷ []) ≡ true → reads d word_type ts ≡ (reads d (tok k.String) ts >>= λ x. Ok (types.Text x.0.at, x.1))
word_text d ts h =
    let is = is_one (next ts).code (code k.String) h in
    not_atom d ts (rw is refl) (rw is refl) ∙ alt_first (Map (λ t. types.Text t.at) (tok k.String)) after_text (code k.String ∷ []) d ts refl refl h

not_text : (d : ℕ) (ts : List Tok) → mem (next ts).code (kinds_of vector_words) ≡ false → mem (next ts).code (kinds_of atom_words) ≡ false → mem (next ts).code (code k.String ∷ []) ≡ false → reads d word_type ts ≡ reads d after_text ts
not_text d ts vector atom h = not_atom d ts vector atom ∙ alt_second (Map (λ t. types.Text t.at) (tok k.String)) after_text (code k.String ∷ []) d ts refl refl h

pub word_event : (d : ℕ) (ts : List Tok) → mem (next ts).code (code k.Event ∷ []) ≡ true → reads d word_type ts ≡ (reads d (tok k.Event) ts >>= λ x. Ok (types.Event x.0.at, x.1))
word_event d ts h =
    let is = is_one (next ts).code (code k.Event) h in
    not_text d ts (rw is refl) (rw is refl) (rw is refl) ∙ alt_first (Map (λ t. types.Event t.at) (tok k.Event)) after_event (code k.Event ∷ []) d ts refl refl h

not_event : (d : ℕ) (ts : List Tok) → mem (next ts).code (kinds_of vector_words) ≡ false → mem (next ts).code (kinds_of atom_words) ≡ false → mem (next ts).code (code k.String ∷ []) ≡ false → mem (next ts).code (code k.Event ∷ []) ≡ false → reads d word_type ts ≡ reads d after_event ts
not_event d ts vector atom text h = not_text d ts vector atom text ∙ alt_second (Map (λ t. types.Event t.at) (tok k.Event)) after_event (code k.Event ∷ []) d ts refl refl h

pub word_semaphore : (d : ℕ) (ts : List Tok) → mem (next ts).code (code k.Semaphore ∷ []) ≡ true → reads d word_type ts ≡ (reads d (tok k.Semaphore) ts >>= λ x. Ok (types.Semaphore x.0.at, x.1))
word_semaphore d ts h =
    let is = is_one (next ts).code (code k.Semaphore) h in
    not_event d ts (rw is refl) (rw is refl) (rw is refl) (rw is refl) ∙ alt_first (Map (λ t. types.Semaphore t.at) (tok k.Semaphore)) after_semaphore (code k.Semaphore ∷ []) d ts refl refl h

not_semaphore : (d : ℕ) (ts : List Tok) → mem (next ts).code (kinds_of vector_words) ≡ false → mem (next ts).code (kinds_of atom_words) ≡ false → mem (next ts).code (code k.String ∷ []) ≡ false → mem (next ts).code (code k.Event ∷ []) ≡ false → mem (next ts).code (code k.Semaphore ∷ []) ≡ false → reads d word_type ts ≡ reads d after_semaphore ts
unfolding mailbox_type
not_semaphore d ts vector atom text event h = not_event d ts vector atom text event ∙ alt_second (Map (λ t. types.Semaphore t.at) (tok k.Semaphore)) after_semaphore (code k.Semaphore ∷ []) d ts refl refl h

pub word_mailbox : (d : ℕ) (ts : List Tok) → mem (next ts).code (code k.Mailbox ∷ []) ≡ true → reads d word_type ts ≡ reads d mailbox_type ts
unfolding mailbox_type
word_mailbox d ts h =
    let is = is_one (next ts).code (code k.Mailbox) h in
    not_semaphore d ts (rw is refl) (rw is refl) (rw is refl) (rw is refl) (rw is refl) ∙ alt_first mailbox_type after_mailbox (code k.Mailbox ∷ []) d ts refl refl h

pub word_enum : (d : ℕ) (ts : List Tok) → mem (next ts).code (kinds_of vector_words) ≡ false → mem (next ts).code (kinds_of atom_words) ≡ false → mem (next ts).code (code k.String ∷ []) ≡ false → mem (next ts).code (code k.Event ∷ []) ≡ false → mem (next ts).code (code k.Semaphore ∷ []) ≡ false → mem (next ts).code (code k.Mailbox ∷ []) ≡ false → reads d word_type ts ≡ reads d enum ts
unfolding mailbox_type
word_enum d ts vector atom text event semaphore h = not_semaphore d ts vector atom text event semaphore ∙ alt_second mailbox_type after_mailbox (code k.Mailbox ∷ []) d ts refl enum_low h

pub ruleset words_of_types = (word_vector, word_atom, word_text, word_event, word_semaphore, word_mailbox, word_enum)

-- ---- a word, or a name

words_begin : (info Production Value heads need word_type).first ≡ word_type_first
unfolding word_type vector_type atom_type mailbox_type enum
words_begin = refl

pub type_word : (d : ℕ) (ts : List Tok) → mem (next ts).code word_type_first ≡ true → reads d type ts ≡ reads d word_type ts
unfolding type
type_word d ts h = alt_first word_type named_type word_type_first d ts words_begin word_low h

pub type_named : (d : ℕ) (ts : List Tok) → mem (next ts).code word_type_first ≡ false → reads d type ts ≡ (reads d name ts >>= λ x. Ok (types.Named x.0, x.1))
unfolding type named_type
type_named d ts h = alt_second word_type named_type word_type_first d ts words_begin refl h

-- ---- types in types

pub type_deeper : (b d : ℕ) (ts : List Tok) → b + 1 ≡ d → reads d (Inner A_type) ts ≡ reads b type ts
type_deeper b d ts e = one_deeper b d A_type ts e

-- a mailbox with the type of its items
pub mailbox_item : (b d : ℕ) (ts r1 r2 r3 r4 r5 : List Tok) (t u v w : Tok) (item : types.WrittenType) → b + 1 ≡ d → one_of (code k.Mailbox ∷ []) ts ≡ Ok (t, r1) → mem (next r1).code (code k.Hash ∷ []) ≡ true → one_of (code k.Hash ∷ []) r1 ≡ Ok (u, r2) → one_of (code k.LeftParenthesis ∷ []) r2 ≡ Ok (v, r3)
    → reads b type r3 ≡ Ok (item, r4) → one_of (code k.RightParenthesis ∷ []) r4 ≡ Ok (w, r5) → reads d mailbox_type ts ≡ Ok (types.MailboxOf t.at item, r5)
unfolding mailbox_type
mailbox_item b d ts r1 r2 r3 r4 r5 t u v w item some word goes hash opens inner closes = rw (word, goes, has_one b d some, hash, opens, type_deeper b d r3 some, inner, closes) refl

-- ---- enumerations

pub enum_is : (d : ℕ) (ts : List Tok) → reads d enum ts ≡ reads d (triple enum_of (tok k.Enum) (optional (Inner A_type)) (in_braces (list enum_item))) ts
unfolding enum
enum_is d ts = refl

with_base : (t : Tok) (o : Out types.WrittenType) (f : List Tok → Out (List types.EnumItem))
    → made (λ p. enum_of p.0 p.1.0 p.1.1) (beside t (row (made Some o) f)) ≡ (o >>= λ b. made (λ is. enum_of t (Some b.0) is) (f b.1))
with_base t o f = made_beside (λ p. enum_of p.0 p.1.0 p.1.1) t (row (made Some o) f) ∙ made_row (λ q. enum_of t q.0 q.1) (made Some o) f ∙ after_made Some o (λ b. made (λ is. enum_of t b.0 is) (f b.1))

-- an enumeration with a type of its own
module _ (b d : ℕ) (ts : List Tok) (t : Tok) (r : List Tok) (some : b + 1 ≡ d) (word : one_of (code k.Enum ∷ []) ts ≡ Ok (t, r)) (goes : mem (next r).code type_first ≡ true) where
  pub enum_based : reads d enum ts ≡ (reads b type r >>= λ u. made (λ is. enum_of t (Some u.0) is) (reads d (in_braces (list enum_item)) u.1))
  unfolding enum
  enum_based = rw (word, goes, has_one b d some, one_deeper b d A_type r some) (with_base t (reads b type r) (λ q. reads d (in_braces (list enum_item)) q))

  pub base_fails : (e : ReadError) → Fails e (reads b type r) → Fails e (reads d enum ts)
  base_fails e h = rw enum_based (fails_after e (reads b type r) (λ u. made (λ is. enum_of t (Some u.0) is) (reads d (in_braces (list enum_item)) u.1)) h)

-- Types that need not be written, and names of types: what each begins with.
use Rattle.std.proofs.Common.{◌≡◌, ℕ, true, false, List, [], ◌∷◌, Some, refl}
use Rattle.sv_grammar.specs.Tokens.{Tok, next, mem}
use Rattle.sv_grammar.specs.Code.Code.{Seq, Map}
use Rattle.sv_tree.specs.declared.kind.Kind.TheVariants as k
use Rattle.sv_tree.specs.declared.word.Name.{Name}
use Rattle.sv_tree.specs.declared.word.Sign.TheVariants as sign_word
use Rattle.sv_tree.specs.Codes.{code}
use Rattle.sv_tree.specs.Types as types
use Rattle.sv_tree.specs.Units as units
use Rattle.sv_tree.specs.Forms.{◌▸◌, pair, name, optional, word, kinds_of}
use Rattle.sv_tree.specs.TypeGrammar.{range, type, word_type, sign_words, signed_of, unnamed_implied, named_name, typed_name}
use Rattle.sv_tree.specs.UnitGrammar.{typedef_of, typedef_rest}
use Rattle.sv_tree.specs.Grammar.{reads}
use Rattle.sv_tree.proofs.KnownTypes as known
use Rattle.sv_parse_type.specs.Begins.{word_type_first}
use Rattle.sv_parse_unit.specs.First.{implied_first}

pub implied_word : (d : ℕ) (ts : List Tok) → mem (next ts).code word_type_first ≡ true → reads d unnamed_implied ts ≡ reads d (Map types.Written word_type) ts
unfolding unnamed_implied
implied_word d ts h = rw (known.word_type_known.info_is, h, known.word_type_known.low_is) refl

pub implied_sign : (d : ℕ) (ts : List Tok) → mem (next ts).code word_type_first ≡ false → mem (next ts).code (kinds_of sign_words) ≡ true → reads d unnamed_implied ts ≡ reads d (pair signed_of (word sign_words) (optional range)) ts
unfolding unnamed_implied
implied_sign d ts h g = rw (known.word_type_known.info_is, h, g, known.range_known.low_is) refl

pub implied_range : (d : ℕ) (ts : List Tok) → mem (next ts).code word_type_first ≡ false → mem (next ts).code (kinds_of sign_words) ≡ false → reads d unnamed_implied ts ≡ reads d (Map (λ r. types.ImpliedType.Vector r.at sign_word.Unwritten (Some r)) range) ts
unfolding unnamed_implied
implied_range d ts h g = rw (known.word_type_known.info_is, h, g, known.range_known.low_is) refl

pub typed_some : (d : ℕ) (ts : List Tok) → mem (next ts).code implied_first ≡ true → reads d typed_name ts ≡ reads d (Seq unnamed_implied name) ts
unfolding typed_name
typed_some d ts h = rw (known.unnamed_implied_known.info_is, h, known.unnamed_implied_known.low_is) refl

pub typed_none : (d : ℕ) (ts : List Tok) → mem (next ts).code implied_first ≡ false → reads d typed_name ts ≡ reads d named_name ts
unfolding typed_name named_name
typed_none d ts h = rw (known.unnamed_implied_known.info_is, h) refl

pub typedef_class : {R : Type 0} (new : units.Typedef → R) (announce : Name → R) (d : ℕ) (ts : List Tok) → mem (next ts).code (code k.Class ∷ []) ≡ true → reads d (typedef_rest new announce) ts ≡ reads d (Map announce (k.Class ▸ name)) ts
unfolding typedef_rest
typedef_class new announce d ts h = rw h refl

pub typedef_type : {R : Type 0} (new : units.Typedef → R) (announce : Name → R) (d : ℕ) (ts : List Tok) → mem (next ts).code (code k.Class ∷ []) ≡ false → reads d (typedef_rest new announce) ts ≡ reads d (pair (λ t n. new (typedef_of t n)) type name) ts
unfolding typedef_rest
typedef_type new announce d ts h = rw (h, known.type_known.low_is) refl

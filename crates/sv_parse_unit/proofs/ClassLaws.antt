-- Classes: how their parts begin and go on.
use Rattle.std.proofs.Common.{◌≡◌, ℕ, suc, ◌+◌, Bool, true, false, cond, List, [], ◌∷◌, ◌++◌, Option, take, drop, Ok, Err, refl, sym, ap, ◌∙◌, append_assoc, arith}
use Rattle.std.specs.List.{prefix_len}
use Rattle.std.proofs.lemmas.List.{append-nil}
use Rattle.sv_grammar.specs.Tokens.{Tok, next, mem}
use Rattle.sv_grammar.specs.Language.{Out}
use Rattle.sv_grammar.specs.Reading.{◌>>=◌}
use Rattle.sv_grammar.specs.Code.{list_from}
use Rattle.sv_grammar.specs.Code.Code.{Map, Rep}
use Rattle.sv_tree.specs.declared.kind.Kind.TheVariants as k
use Rattle.sv_tree.specs.declared.token.Token.{Token}
use Rattle.sv_tree.specs.declared.word.Life.TheVariants as life_word
use Rattle.sv_tree.specs.Codes.{code, tok, toks}
use Rattle.sv_tree.specs.Classes as classes
use Rattle.sv_tree.specs.Forms as forms
use Rattle.sv_tree.specs.Forms.{◌▸◌, ◌◂◌, any_of, optional, then_}
use Rattle.sv_tree.specs.TypeGrammar.{type, declarators, decl_of, typed}
use Rattle.sv_tree.specs.UnitGrammar.{qualifier_words, qualifiers_of, automatic_decl, class_decl, member, pure_method, qualified, class_item, class_rest, virtual_class, plain_class, class, typedef, typedef_rest, routine}
use Rattle.sv_tree.specs.Grammar.{reads}
use Rattle.sv_tree.proofs.KnownTypes as known_types
use Rattle.sv_tree.proofs.KnownItems as known
use Rattle.sv_parse.specs.Parts.{from}
use Rattle.sv_parse.proofs.Loops.{IsLoop, loop_is, loop_stop, loop_more}
use Rattle.sv_parse_type.specs.Applied.{applied}
use Rattle.sv_parse_unit.specs.First.{class_decl_first, qualifier_first}
use Rattle.sv_parse_unit.proofs.AppliedLaws.{pair_is, triple_is, then_is, twice}

-- ---- declarations

automatic_first : (d : ℕ) (ts : List Tok) → mem (next ts).code (code k.Automatic ∷ []) ≡ true → reads d class_decl ts ≡ reads d automatic_decl ts
unfolding class_decl
automatic_first d ts h = rw (known.automatic_decl_known.info_is, h, known.automatic_decl_known.low_is) refl

automatic_is : (d : ℕ) (ts : List Tok) → reads d automatic_decl ts ≡ (reads d (k.Automatic ▸ optional (forms.tok k.Var)) ts >>= λ v. reads d (typed life_word.Automatic) v.1)
unfolding automatic_decl
automatic_is d ts = triple_is (λ v t ds. decl_of life_word.Automatic t ds) (k.Automatic ▸ optional (forms.tok k.Var)) type (declarators ◂ k.Semicolon) d ts ∙ go (reads d (k.Automatic ▸ optional (forms.tok k.Var)) ts)
  where
    go : (o : Out (Option Tok)) → (o >>= λ v. reads d type v.1 >>= λ t. reads d (declarators ◂ k.Semicolon) t.1 >>= λ ds. Ok (decl_of life_word.Automatic t.0 ds.0, ds.1)) ≡ (o >>= λ v. reads d (typed life_word.Automatic) v.1)
    go (Ok v) = sym (pair_is (decl_of life_word.Automatic) type (declarators ◂ k.Semicolon) d v.1)
    go (Err m) = refl

pub decl_automatic : (d : ℕ) (ts : List Tok) → mem (next ts).code (code k.Automatic ∷ []) ≡ true → reads d class_decl ts ≡ (reads d (k.Automatic ▸ optional (forms.tok k.Var)) ts >>= λ v. reads d (typed life_word.Automatic) v.1)
decl_automatic d ts h = automatic_first d ts h ∙ automatic_is d ts

pub decl_var : (d : ℕ) (ts : List Tok) → mem (next ts).code (code k.Automatic ∷ []) ≡ false → mem (next ts).code (code k.Var ∷ []) ≡ true → reads d class_decl ts ≡ reads d (k.Var ▸ typed life_word.Unwritten) ts
unfolding class_decl
decl_var d ts h g = rw (known.automatic_decl_known.info_is, h, g, known_types.type_known.low_is, known_types.declarators_known.low_is) refl

pub decl_typed : (d : ℕ) (ts : List Tok) → mem (next ts).code (code k.Automatic ∷ []) ≡ false → mem (next ts).code (code k.Var ∷ []) ≡ false → reads d class_decl ts ≡ reads d (typed life_word.Unwritten) ts
unfolding class_decl
decl_typed d ts h g = rw (known.automatic_decl_known.info_is, h, g, known_types.type_known.low_is, known_types.declarators_known.low_is) refl

-- ---- qualifiers

words_loop : IsLoop (any_of qualifier_words) qualifier_first 0
words_loop = record { passes = refl; begins = refl; needs = refl }

-- how many tokens in front are qualifiers
abbrev count : List Token → ℕ
count ts = prefix_len (λ t. mem (code t.kind) qualifier_first) ts

abbrev got : List Tok → List Tok → Out (List Tok)
got xs ts = Ok (xs, ts)

words_read : (d : ℕ) (prefix : List Tok) (ts : List Token) → from (any_of qualifier_words) d prefix (toks ts) ≡ Ok (prefix ++ toks (take (count ts) ts), toks (drop (count ts) ts))
words_read d prefix [] = loop_stop (any_of qualifier_words) qualifier_first 0 words_loop d prefix [] refl ∙ ap (λ (xs : List Tok). got xs []) (sym (append-nil prefix))
words_read d prefix (t ∷ ts) = go (words_read d (prefix ++ tok t ∷ []) ts) (mem (code t.kind) qualifier_first) refl
  where
    go : from (any_of qualifier_words) d (prefix ++ tok t ∷ []) (toks ts) ≡ Ok ((prefix ++ tok t ∷ []) ++ toks (take (count ts) ts), toks (drop (count ts) ts)) → (b : Bool) → mem (code t.kind) qualifier_first ≡ b → from (any_of qualifier_words) d prefix (toks (t ∷ ts)) ≡ Ok (prefix ++ toks (take (cond b (1 + count ts) 0) (t ∷ ts)), toks (drop (cond b (1 + count ts) 0) (t ∷ ts)))
    go on true e =
        let e1 : 1 + count ts ≡ suc (count ts) = omega arith in
        rw e1 (loop_more (any_of qualifier_words) qualifier_first 0 words_loop d prefix (toks (t ∷ ts)) (tok t, toks ts) e refl (rw e refl) ∙ (on ∙ ap (λ (xs : List Tok). got xs (toks (drop (count ts) ts))) (append_assoc prefix (tok t ∷ []) (toks (take (count ts) ts)))))
    go on false e = loop_stop (any_of qualifier_words) qualifier_first 0 words_loop d prefix (toks (t ∷ ts)) e ∙ ap (λ (xs : List Tok). got xs (toks (t ∷ ts))) (sym (append-nil prefix))

qualifiers_are : (d : ℕ) (ts : List Token) → reads d (Rep (any_of qualifier_words)) (toks ts) ≡ Ok (toks (take (count ts) ts), toks (drop (count ts) ts))
qualifiers_are d ts = loop_is (any_of qualifier_words) qualifier_first 0 words_loop d (toks ts) ∙ words_read d [] ts

-- qualifiers and what follows them
pub qualified_is : (d : ℕ) (ts : List Token) → reads d (then_ (Rep (any_of qualifier_words)) member) (toks ts) ≡ applied (toks (take (count ts) ts)) (reads d member (toks (drop (count ts) ts)))
qualified_is d ts = then_is (Rep (any_of qualifier_words)) member d (toks ts) ∙ rw (qualifiers_are d ts) refl

-- ---- items

pub member_decl : (d : ℕ) (ts : List Tok) → mem (next ts).code class_decl_first ≡ true → reads d member ts ≡ reads d (Map (λ x ts. classes.Property (record { qualifiers = qualifiers_of ts; decl = x })) class_decl) ts
unfolding member
member_decl d ts h = rw (known.class_decl_known.info_is, h, known.class_decl_known.low_is) refl

pub member_routine : (d : ℕ) (ts : List Tok) → mem (next ts).code class_decl_first ≡ false → reads d member ts ≡ reads d (Map (λ r ts. classes.Method (record { qualifiers = qualifiers_of ts; routine = r })) routine) ts
unfolding member
member_routine d ts h = rw (known.class_decl_known.info_is, h, known.routine_known.low_is) refl

pub item_pure : (d : ℕ) (ts : List Tok) → mem (next ts).code (code k.Pure ∷ []) ≡ true → reads d class_item ts ≡ reads d pure_method ts
unfolding class_item
item_pure d ts h = rw (known.pure_method_known.info_is, h, known.pure_method_known.low_is) refl

pub item_typedef : (d : ℕ) (ts : List Tok) → mem (next ts).code (code k.Pure ∷ []) ≡ false → mem (next ts).code (code k.Typedef ∷ []) ≡ true → reads d class_item ts ≡ reads d (typedef classes.Typedef classes.Announce) ts
unfolding class_item typedef typedef_rest
item_typedef d ts h g = rw (known.pure_method_known.info_is, h, g, known_types.type_known.low_is) refl

pub item_null : (d : ℕ) (ts : List Tok) → mem (next ts).code (code k.Pure ∷ []) ≡ false → mem (next ts).code (code k.Typedef ∷ []) ≡ false → mem (next ts).code (code k.Semicolon ∷ []) ≡ true → reads d class_item ts ≡ reads d (Map (λ t. classes.Null) (forms.tok k.Semicolon)) ts
unfolding class_item typedef typedef_rest
item_null d ts h g i = rw (known.pure_method_known.info_is, h, g, i) refl

item_qualified : (d : ℕ) (ts : List Tok) → mem (next ts).code (code k.Pure ∷ []) ≡ false → mem (next ts).code (code k.Typedef ∷ []) ≡ false → mem (next ts).code (code k.Semicolon ∷ []) ≡ false → mem (next ts).code qualifier_first ≡ true → reads d class_item ts ≡ reads d qualified ts
unfolding class_item typedef typedef_rest
item_qualified d ts h g i j = rw (known.pure_method_known.info_is, h, g, i, known.qualified_known.info_is, known.qualified_known.low_is, j) refl

item_plain : (d : ℕ) (ts : List Tok) → mem (next ts).code (code k.Pure ∷ []) ≡ false → mem (next ts).code (code k.Typedef ∷ []) ≡ false → mem (next ts).code (code k.Semicolon ∷ []) ≡ false → mem (next ts).code qualifier_first ≡ false → reads d class_item ts ≡ reads d (Map (λ (f : List Tok → classes.ClassItem). f []) member) ts
unfolding class_item typedef typedef_rest
item_plain d ts h g i j = rw (known.pure_method_known.info_is, h, g, i, known.qualified_known.info_is, known.qualified_known.low_is, j, known.member_known.low_is) refl

-- a member behind the words before it
abbrev any_member : forms.C classes.ClassItem
any_member = then_ (Rep (any_of qualifier_words)) member

words_more : (d : ℕ) (t : Tok) (ts : List Tok) → mem t.code qualifier_first ≡ true → reads d (Rep (any_of qualifier_words)) (t ∷ ts) ≡ (◌>>=◌ {B = List Tok} (reads d (Rep (any_of qualifier_words)) ts) (λ xs. Ok (t ∷ xs.0, xs.1)))
unfolding list_from
words_more d t ts h = loop_is (any_of qualifier_words) qualifier_first 0 words_loop d (t ∷ ts) ∙ loop_more (any_of qualifier_words) qualifier_first 0 words_loop d [] (t ∷ ts) (t, ts) h refl (rw h refl)

words_none : (d : ℕ) (ts : List Tok) → mem (next ts).code qualifier_first ≡ false → reads d (Rep (any_of qualifier_words)) ts ≡ Ok ([], ts)
words_none d ts h = loop_is (any_of qualifier_words) qualifier_first 0 words_loop d ts ∙ loop_stop (any_of qualifier_words) qualifier_first 0 words_loop d [] ts h

one_word : (d : ℕ) (t : Tok) (ts : List Tok) → mem t.code qualifier_first ≡ true → reads d (any_of qualifier_words) (t ∷ ts) ≡ Ok (t, ts)
one_word d t ts h = rw h refl

qualified_one : (d : ℕ) (t : Tok) (ts : List Tok) → mem t.code qualifier_first ≡ true → reads d qualified (t ∷ ts) ≡ (reads d (Rep (any_of qualifier_words)) ts >>= λ y. reads d member y.1 >>= λ z. Ok (z.0 (t ∷ y.0), z.1))
unfolding qualified
qualified_one d t ts h =
    triple_is (λ t ts (f : List Tok → classes.ClassItem). f (t ∷ ts)) (any_of qualifier_words) (Rep (any_of qualifier_words)) member d (t ∷ ts)
    ∙ ap (λ (o : Out Tok). o >>= λ x. reads d (Rep (any_of qualifier_words)) x.1 >>= λ y. reads d member y.1 >>= λ z. Ok (z.0 (x.0 ∷ y.0), z.1)) (one_word d t ts h)

member_one : (d : ℕ) (t : Tok) (ts : List Tok) → mem t.code qualifier_first ≡ true → reads d any_member (t ∷ ts) ≡ (◌>>=◌ {B = classes.ClassItem} (◌>>=◌ {B = List Tok} (reads d (Rep (any_of qualifier_words)) ts) (λ xs. Ok (t ∷ xs.0, xs.1))) (λ x. applied x.0 (reads d member x.1)))
member_one d t ts h =
    then_is (Rep (any_of qualifier_words)) member d (t ∷ ts)
    ∙ ap (λ (o : Out (List Tok)). ◌>>=◌ {B = classes.ClassItem} o (λ x. applied x.0 (reads d member x.1))) (words_more d t ts h)

qualified_member : (d : ℕ) (ts : List Tok) → mem (next ts).code qualifier_first ≡ true → reads d qualified ts ≡ reads d any_member ts
qualified_member d [] h = absurd cc
qualified_member d (t ∷ ts) h = qualified_one d t ts h ∙ (go (reads d (Rep (any_of qualifier_words)) ts) ∙ sym (member_one d t ts h))
  where
    go : (o : Out (List Tok)) → (o >>= λ y. reads d member y.1 >>= λ z. Ok (z.0 (t ∷ y.0), z.1)) ≡ (◌>>=◌ {B = classes.ClassItem} (◌>>=◌ {B = List Tok} o (λ xs. Ok (t ∷ xs.0, xs.1))) (λ x. applied x.0 (reads d member x.1)))
    go (Ok y) = refl
    go (Err m) = refl

plain_member : (d : ℕ) (ts : List Tok) → mem (next ts).code qualifier_first ≡ false → reads d (Map (λ (f : List Tok → classes.ClassItem). f []) member) ts ≡ reads d any_member ts
plain_member d ts h = sym (then_is (Rep (any_of qualifier_words)) member d ts ∙ rw (words_none d ts h) refl)

pub item_member : (d : ℕ) (ts : List Tok) → mem (next ts).code (code k.Pure ∷ []) ≡ false → mem (next ts).code (code k.Typedef ∷ []) ≡ false → mem (next ts).code (code k.Semicolon ∷ []) ≡ false → reads d class_item ts ≡ reads d any_member ts
item_member d ts h g i = go (mem (next ts).code qualifier_first) refl
  where
    go : (b : Bool) → mem (next ts).code qualifier_first ≡ b → reads d class_item ts ≡ reads d any_member ts
    go true j = item_qualified d ts h g i j ∙ qualified_member d ts j
    go false j = item_plain d ts h g i j ∙ plain_member d ts j

-- ---- classes

virtual_first : (d : ℕ) (ts : List Tok) → mem (next ts).code (code k.Virtual ∷ []) ≡ true → reads d class ts ≡ reads d virtual_class ts
unfolding class
virtual_first d ts h = rw (known.virtual_class_known.info_is, h, known.virtual_class_known.low_is) refl

plain_first : (d : ℕ) (ts : List Tok) → mem (next ts).code (code k.Virtual ∷ []) ≡ false → reads d class ts ≡ reads d plain_class ts
unfolding class
plain_first d ts h = rw (known.virtual_class_known.info_is, h, known.plain_class_known.low_is) refl

pub class_virtual : (d : ℕ) (ts : List Tok) → mem (next ts).code (code k.Virtual ∷ []) ≡ true → reads d class ts ≡ (reads d (forms.tok k.Virtual ◂ k.Class) ts >>= λ t. applied t.0 (applied true (reads d class_rest t.1)))
unfolding virtual_class
class_virtual d ts h = virtual_first d ts h ∙ (pair_is (λ t (f : Bool → Tok → classes.Class). f true t) (forms.tok k.Virtual ◂ k.Class) class_rest d ts ∙ go (reads d (forms.tok k.Virtual ◂ k.Class) ts))
  where
    go : (o : Out Tok) → (o >>= λ t. reads d class_rest t.1 >>= λ f. Ok (f.0 true t.0, f.1)) ≡ (o >>= λ t. applied t.0 (applied true (reads d class_rest t.1)))
    go (Ok t) = twice true t.0 (reads d class_rest t.1)
    go (Err m) = refl

pub class_plain : (d : ℕ) (ts : List Tok) → mem (next ts).code (code k.Virtual ∷ []) ≡ false → reads d class ts ≡ (reads d (forms.tok k.Class) ts >>= λ t. applied t.0 (applied false (reads d class_rest t.1)))
unfolding plain_class
class_plain d ts h = plain_first d ts h ∙ (pair_is (λ t (f : Bool → Tok → classes.Class). f false t) (forms.tok k.Class) class_rest d ts ∙ go (reads d (forms.tok k.Class) ts))
  where
    go : (o : Out Tok) → (o >>= λ t. reads d class_rest t.1 >>= λ f. Ok (f.0 false t.0, f.1)) ≡ (o >>= λ t. applied t.0 (applied false (reads d class_rest t.1)))
    go (Ok t) = twice false t.0 (reads d class_rest t.1)
    go (Err m) = refl

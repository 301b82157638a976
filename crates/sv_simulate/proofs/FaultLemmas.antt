-- Texts that are refused are refused for one reason, and have no design.
use Rattle.std.proofs.Common.{ℕ, ◌≡◌, ◌≢◌, ◌+◌, List, [], ◌∷◌, ◌++◌, Option, Some, None, Ok, Err, refl, sym, ap, subst, ◌∙◌, append_assoc, inl, inr}
use Rattle.sv_value.specs.declared.place.Place.{Place}
use Rattle.sv_grammar.specs.Tokens.{Tok, blank, next}
use Rattle.sv_grammar.specs.Language.{Lang, Reads, IsTooDeep, IsUnexpected, Open, Prefix, TooDeep, Unexpected, Out}
use Rattle.sv_grammar.specs.Code.{info, least, reach}
use Rattle.sv_grammar.proofs.Codes as codes
use Rattle.sv_grammar.proofs.Facts.{prefix_of}
use Rattle.sv_grammar.proofs.Lists.{Meet, same, longer, shorter, meet}
use Rattle.sv_grammar.proofs.Whole.{complete}
use Rattle.sv_tree.specs.declared.token.Token.{Token}
use Rattle.sv_tree.specs.declared.token.Refused.{Refused}
use Rattle.sv_tree.specs.Forms.{Production, Value}
use Rattle.sv_tree.specs.Grammar.{heads, need, table, texts_of}
use Rattle.sv_tree.specs.Lexing.{Lexes, lex_fault}
use Rattle.sv_tree.specs.Codes.{toks}
use Rattle.sv_tree.specs.Descriptions.{Description}
use Rattle.sv_tree.specs.UnitGrammar as grammar
use Rattle.sv_tree.proofs.Good.{good, file_fine}
use Rattle.sv_parse.specs.declared.fault.SyntaxKind.{SyntaxKind}
use Rattle.sv_parse.specs.declared.fault.SyntaxKind.TheVariants as kinds
use Rattle.sv_parse_unit.specs.Files.{IsFault}
use Rattle.sv_flat.specs.declared.design.Parts.{Parts}
use Rattle.sv_simulate.specs.declared.front.FrontFault.{FrontFault}
use Rattle.sv_simulate.specs.declared.front.FrontFault.TheVariants as front
use Rattle.sv_built.specs.Built.{IsBuilt}
use Rattle.sv_names.specs.declared.checked.Checked.{Checked}
use Rattle.sv_names.specs.declared.checked.Checked.TheVariants.{Good, Broken}
use Rattle.sv_names.specs.Design.{elaborated}
use Rattle.sv_simulate.specs.Source.{IsParsed, IsMisspelled, IsUnread, AreParsed, FirstUnread, IsSource, Explains, scales_of}
use Rattle.sv_tree.specs.Depth.{most_depth}
use Rattle.sv_simulate.proofs.SourceLemmas.{one_parse}

-- ---- the place where reading stops

open_prefix : {A : Type 0} (L : Lang A) (u f : List Tok) (h : Tok) (z : List Tok) → f ≡ u ++ h ∷ z → Open L f → Prefix L (u ++ h ∷ [])
open_prefix L u f h z e o = prefix_of L o.0 u h (z ++ o.1) blank (subst (λ (v : List Tok). L o.0 v blank) (ap (λ (v : List Tok). v ++ o.1) e ∙ append_assoc u (h ∷ z) o.1) (o.2 blank))

-- the tokens before can be gone on from, and with the next token not at this depth
record Stops {A : Type 0} (l : ℕ → Lang A) (d : ℕ) (ts rest : List Tok) : Type 0 where
  prefix : List Tok
  parts : ts ≡ prefix ++ rest
  viable : Open (l d) prefix
  shut : Prefix (l d) (prefix ++ next rest ∷ []) → ⊥

module _ {A : Type 0} (l : ℕ → Lang A) (d : ℕ) (ts : List Tok) where
  abbrev deep_stops : (rest : List Tok) → IsTooDeep l d ts rest → Stops l d ts rest
  deep_stops rest t = record { prefix = t.prefix; parts = t.parts; viable = t.viable; shut = t.shut }

  abbrev unexpected_stops : (rest : List Tok) → IsUnexpected l d ts rest → Stops l d ts rest
  unexpected_stops rest t = record { prefix = t.prefix; parts = t.parts; viable = t.viable; shut = t.stops d }

  one_prefix : (r s : List Tok) → (p : Stops l d ts r) → (q : Stops l d ts s) → (p.prefix ≡ q.prefix) × (r ≡ s)
  one_prefix r s p q = go (meet p.prefix r q.prefix s (sym p.parts ∙ q.parts))
    where
      go : Meet p.prefix r q.prefix s → (p.prefix ≡ q.prefix) × (r ≡ s)
      go (same e f) = (e, f)
      go (longer h z e f) = absurd (p.shut (subst (λ (k : Tok). Prefix (l d) (p.prefix ++ k ∷ [])) (sym (ap next f)) (open_prefix (l d) p.prefix q.prefix h z e q.viable)))
      go (shorter h z e f) = absurd (q.shut (subst (λ (k : Tok). Prefix (l d) (q.prefix ++ k ∷ [])) (sym (ap next f)) (open_prefix (l d) q.prefix p.prefix h z e p.viable)))

  -- what deeper texts go on with does not go on with none
  deep_or_unexpected : (r s : List Tok) → IsTooDeep l d ts r → IsUnexpected l d ts s → ⊥
  deep_or_unexpected r s p q =
      let both = one_prefix r s (deep_stops r p) (unexpected_stops s q) in
      let o : Open (l p.deeper.0) (q.prefix ++ next s ∷ []) = subst (λ (v : List Tok). Open (l p.deeper.0) (q.prefix ++ next v ∷ [])) both.1 (subst (λ (v : List Tok). Open (l p.deeper.0) (v ++ next r ∷ [])) both.0 p.deeper.1) in
      q.stops p.deeper.0 (o.0, o.1, blank, o.2 blank)

-- ---- the faults of tokens

one_syntax : (d : ℕ) (ts : List Tok) (a b : Place) (k m : SyntaxKind) → IsFault d ts a k → IsFault d ts b m → (a ≡ b) × (k ≡ m)
one_syntax d ts a b kinds.Depth kinds.Depth p q =
    let both = one_prefix (texts_of grammar.file) d ts p.0 q.0 (deep_stops (texts_of grammar.file) d ts p.0 p.2) (deep_stops (texts_of grammar.file) d ts q.0 q.2) in
    (p.1 ∙ ap (λ (v : List Tok). (next v).at) both.1 ∙ sym q.1, refl)
one_syntax d ts a b kinds.Depth kinds.Unexpected p q = absurd (deep_or_unexpected (texts_of grammar.file) d ts p.0 q.0 p.2 q.2)
one_syntax d ts a b kinds.Unexpected kinds.Depth p q = absurd (deep_or_unexpected (texts_of grammar.file) d ts q.0 p.0 q.2 p.2)
one_syntax d ts a b kinds.Unexpected kinds.Unexpected p q =
    let both = one_prefix (texts_of grammar.file) d ts p.0 q.0 (unexpected_stops (texts_of grammar.file) d ts p.0 p.2) (unexpected_stops (texts_of grammar.file) d ts q.0 q.2) in
    (p.1 ∙ ap (λ (v : List Tok). (next v).at) both.1 ∙ sym q.1, refl)

abbrev got : List Description → Out (List Description)
got us = Ok (us, [])

-- what is read to the end has no fault
read_through : (d : ℕ) (ts : List Tok) (us : List Description) (at : Place) (k : SyntaxKind) → Reads (texts_of grammar.file) d ts us [] → IsFault d ts at k → ⊥
read_through d ts us at kinds.Depth r f =
    let no : got us ≡ Err (TooDeep f.0) = sym (complete (texts_of grammar.file) (info Production Value heads need grammar.file) (λ e. reach (least Production Value heads need grammar.file) e) (codes.grammar Production Value heads need table good grammar.file file_fine) d ts (Err (TooDeep f.0)) f.2 us r.prefix [] r.parts r.word r.stops) in
    cc
read_through d ts us at kinds.Unexpected r f =
    let no : got us ≡ Err (Unexpected f.0) = sym (complete (texts_of grammar.file) (info Production Value heads need grammar.file) (λ e. reach (least Production Value heads need grammar.file) e) (codes.grammar Production Value heads need table good grammar.file file_fine) d ts (Err (Unexpected f.0)) f.2 us r.prefix [] r.parts r.word r.stops) in
    cc

-- ---- the faults of texts

abbrev lexical : Option (Refused × Place) → FrontFault
lexical None = front.Memory
lexical (Some x) = front.Lexical x.1 x.0

-- a design, where there is one
abbrev good_or : Parts → Checked Parts → Parts
good_or e (Good d) = d
good_or e (Broken f) = e

one_good : (d e : Parts) → Good d ≡ Good e → d ≡ e
one_good d e is = ap (good_or d) is

-- the rule of what breaks one
abbrev broken : Checked Parts → FrontFault
broken (Good d) = front.Memory
broken (Broken f) = front.Rule f.rule f.at

module _ (file : ℕ) (text : List ℕ) where
  same_tokens : (ts us : List Token) → Lexes file text ts → Lexes file text us → ts ≡ us
  same_tokens ts us p q = p.same ∙ sym q.same

  lexed : (x : Refused × Place) (ts : List Token) → lex_fault file text ≡ Some x → Lexes file text ts → ⊥
  lexed x ts e p = let no : None ≡ Some x = sym p.no_fault ∙ e in cc

  misspelled : (a b : Place) (k m : SyntaxKind) → IsMisspelled file text a k → IsMisspelled file text b m → (a ≡ b) × (k ≡ m)
  misspelled a b k m p q = one_syntax most_depth (toks q.tokens) a b k m (subst (λ (ts : List Token). IsFault most_depth (toks ts) a k) (same_tokens p.tokens q.tokens p.lexes q.lexes) p.fault) q.fault

  -- what is read spells units
  read_or_not : (us : List Description) (f : FrontFault) → IsParsed file text us → IsUnread file text f → f ≢ front.Memory → ⊥
  read_or_not us (front.Lexical a k) p u n = lexed (k, a) p.tokens u p.lexes
  read_or_not us (front.Syntax a k) p u n = read_through most_depth (toks u.tokens) us a k (subst (λ (ts : List Token). Reads (texts_of grammar.file) most_depth (toks ts) us []) (same_tokens p.tokens u.tokens p.lexes u.lexes) p.spells) u.fault
  read_or_not us (front.Rule r at) p u n = u
  read_or_not us front.NotYet p u n = u
  read_or_not us front.Memory p u n = n refl

  one_unread : (f g : FrontFault) → IsUnread file text f → IsUnread file text g → f ≢ front.Memory → g ≢ front.Memory → f ≡ g
  one_unread (front.Lexical a k) (front.Lexical b m) p q n o = ap lexical (sym p ∙ q)
  one_unread (front.Lexical a k) (front.Syntax b m) p q n o = absurd (lexed (k, a) q.tokens p q.lexes)
  one_unread (front.Lexical a k) (front.Rule r at) p q n o = absurd q
  one_unread (front.Lexical a k) front.NotYet p q n o = absurd q
  one_unread (front.Lexical a k) front.Memory p q n o = absurd (o refl)
  one_unread (front.Syntax a k) (front.Lexical b m) p q n o = absurd (lexed (m, b) p.tokens q p.lexes)
  one_unread (front.Syntax a k) (front.Syntax b m) p q n o = let both = misspelled a b k m p q in λ i. front.Syntax (both.0 i) (both.1 i)
  one_unread (front.Syntax a k) (front.Rule r at) p q n o = absurd q
  one_unread (front.Syntax a k) front.NotYet p q n o = absurd q
  one_unread (front.Syntax a k) front.Memory p q n o = absurd (o refl)
  one_unread (front.Rule r at) g p q n o = absurd p
  one_unread front.NotYet g p q n o = absurd p
  one_unread front.Memory g p q n o = absurd (n refl)

-- the first text that spells no units is so for one reason
first_unread : (file : ℕ) (texts : List (List ℕ)) (f g : FrontFault) → FirstUnread file texts f → FirstUnread file texts g
    → f ≢ front.Memory → g ≢ front.Memory → f ≡ g
first_unread file [] f g p q n o = absurd p
first_unread file (text ∷ texts) f g (inl p) (inl q) n o = one_unread file text f g p q n o
first_unread file (text ∷ texts) f g (inl p) (inr q) n o = absurd (read_or_not file text q.0 f q.1 p n)
first_unread file (text ∷ texts) f g (inr p) (inl q) n o = absurd (read_or_not file text p.0 g p.1 q o)
first_unread file (text ∷ texts) f g (inr p) (inr q) n o = first_unread (file + 1) texts f g p.2 q.2 n o

-- texts that spell units have none that spells none
all_or_first : (file : ℕ) (texts : List (List ℕ)) (us : List Description) (f : FrontFault) → AreParsed file texts us → FirstUnread file texts f
    → f ≢ front.Memory → ⊥
all_or_first file [] us f p q n = q
all_or_first file (text ∷ texts) us f p (inl q) n = read_or_not file text p.0 f p.2 q n
all_or_first file (text ∷ texts) us f p (inr q) n = all_or_first (file + 1) texts p.1 f p.3 q.2 n

module _ (texts : List (List ℕ)) (top : Option (List ℕ)) where
  -- texts have one design or one fault of elaboration under one root
  one_elaborated : (us vs : List Description) → AreParsed 0 texts us → AreParsed 0 texts vs
      → elaborated us (scales_of 0 texts) top ≡ elaborated vs (scales_of 0 texts) top
  one_elaborated us vs p q = ap (λ ds. elaborated ds (scales_of 0 texts) top) (one_parse 0 texts us vs p q)

  never_both : (us vs : List Description) (d : Parts) (n : ℕ) (at : Place) → AreParsed 0 texts us → AreParsed 0 texts vs
      → elaborated us (scales_of 0 texts) top ≡ Good d → elaborated vs (scales_of 0 texts) top ≡ Broken (record { at = at; rule = n }) → ⊥
  never_both us vs d n at p q good bad =
      let no : Good d ≡ Broken (record { at = at; rule = n }) = sym good ∙ one_elaborated us vs p q ∙ bad in cc

  pub one_fault : (f g : FrontFault) → Explains texts top f → Explains texts top g → f ≢ front.Memory → g ≢ front.Memory → f ≡ g
  one_fault (front.Lexical a k) (front.Lexical b m) p q n o = first_unread 0 texts (front.Lexical a k) (front.Lexical b m) p q n o
  one_fault (front.Lexical a k) (front.Syntax b m) p q n o = first_unread 0 texts (front.Lexical a k) (front.Syntax b m) p q n o
  one_fault (front.Lexical a k) (front.Rule r at) p q n o = absurd (all_or_first 0 texts q.units (front.Lexical a k) q.parsed p n)
  one_fault (front.Lexical a k) front.NotYet p q n o = absurd (all_or_first 0 texts q.units (front.Lexical a k) q.parsed p n)
  one_fault (front.Lexical a k) front.Memory p q n o = absurd (o refl)
  one_fault (front.Syntax a k) (front.Lexical b m) p q n o = first_unread 0 texts (front.Syntax a k) (front.Lexical b m) p q n o
  one_fault (front.Syntax a k) (front.Syntax b m) p q n o = first_unread 0 texts (front.Syntax a k) (front.Syntax b m) p q n o
  one_fault (front.Syntax a k) (front.Rule r at) p q n o = absurd (all_or_first 0 texts q.units (front.Syntax a k) q.parsed p n)
  one_fault (front.Syntax a k) front.NotYet p q n o = absurd (all_or_first 0 texts q.units (front.Syntax a k) q.parsed p n)
  one_fault (front.Syntax a k) front.Memory p q n o = absurd (o refl)
  one_fault (front.Rule r at) (front.Lexical b m) p q n o = absurd (all_or_first 0 texts p.units (front.Lexical b m) p.parsed q o)
  one_fault (front.Rule r at) (front.Syntax b m) p q n o = absurd (all_or_first 0 texts p.units (front.Syntax b m) p.parsed q o)
  one_fault (front.Rule r at) (front.Rule v to) p q n o =
      ap broken (sym p.fault ∙ one_elaborated p.units q.units p.parsed q.parsed ∙ q.fault)
  one_fault (front.Rule r at) front.NotYet p q n o = absurd (never_both q.units p.units q.parts r at q.parsed p.parsed q.design p.fault)
  one_fault (front.Rule r at) front.Memory p q n o = absurd (o refl)
  one_fault front.NotYet (front.Lexical b m) p q n o = absurd (all_or_first 0 texts p.units (front.Lexical b m) p.parsed q o)
  one_fault front.NotYet (front.Syntax b m) p q n o = absurd (all_or_first 0 texts p.units (front.Syntax b m) p.parsed q o)
  one_fault front.NotYet (front.Rule r at) p q n o = absurd (never_both p.units q.units p.parts r at p.parsed q.parsed p.design q.fault)
  one_fault front.NotYet front.NotYet p q n o = refl
  one_fault front.NotYet front.Memory p q n o = absurd (o refl)
  one_fault front.Memory g p q n o = absurd (n refl)

  pub fault_or_design : (d : Parts) (f : FrontFault) → IsSource texts top d → Explains texts top f → f ≡ front.Memory
  fault_or_design d (front.Lexical a k) s p = absurd (all_or_first 0 texts s.units (front.Lexical a k) s.parsed p (λ e. cc))
  fault_or_design d (front.Syntax a k) s p = absurd (all_or_first 0 texts s.units (front.Syntax a k) s.parsed p (λ e. cc))
  fault_or_design d (front.Rule r at) s p = absurd (never_both s.units p.units d r at s.parsed p.parsed s.design p.fault)
  fault_or_design d front.NotYet s p =
      let same : Good p.parts ≡ Good d = sym p.design ∙ one_elaborated p.units s.units p.parsed s.parsed ∙ s.design in
      absurd (p.other (subst (λ (e : Parts). IsBuilt e) (sym (one_good p.parts d same)) s.built))
  fault_or_design d front.Memory s p = refl

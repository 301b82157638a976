-- The end of a text stands behind its last token, and nowhere else.
use Rattle.std.proofs.Common.{◌≡◌, ℕ, zero, suc, ◌-◌, Bool, true, false, not, cond, ◌&&◌, List, [], ◌∷◌, take, refl, sym, ◌+◌, subst}
use Rattle.std.proofs.lemmas.Bool.{and_parts}
use Rattle.std.specs.Prelude.{Option, Some, None, unwrap_or, ◌==◌, nat_lt, nat_eq, is_err, codes}
use Rattle.std.specs.List.{list_any, starts_with}
use Rattle.sv_value.specs.declared.place.Place.{Place}
use Rattle.sv_digits.specs.Literal.{literal_of}
use Rattle.sv_tree.specs.declared.token.Token.{Token}
use Rattle.sv_tree.specs.declared.kind.Kind.{Kind}
use Rattle.sv_tree.specs.declared.kind.Kind.TheVariants as kinds
use Rattle.sv_tree.specs.declared.token.Piece.{Piece}
use Rattle.sv_tree.specs.declared.token.Piece.TheVariants as pieces
use Rattle.sv_tree.specs.declared.token.Refused.TheVariants as refused
use Rattle.sv_tree.specs.Tokens.{is_word, spelled, words, signs, unused, plain_word, kind_of_name, kind_of, is_name, is_system_name, is_number, is_time, is_one_step, is_string, is_escape}
use Rattle.sv_tree.specs.Longest.{longest}
use Rattle.sv_tree.specs.Directives.{timescale_at, nettype_at}
use Rattle.sv_tree.specs.Lexing.{is_separator, is_token, token_piece, directive_piece, piece_at, Reading, with_piece, with_token, token_of, stopped, reading, after, start, whole, lex_fault, Lexes, most_tokens}
use Rattle.sv_tree.specs.Codes.{code, toks}
use Rattle.sv_tree.specs.Closed.{IsClosed}

-- not the end of a text
abbrev is_inner : Kind → Bool
is_inner k = not (code k == code kinds.EndOfText)

inner_code : (k : Kind) → is_inner k ≡ true → code k ≡ code kinds.EndOfText → ⊥
inner_code k h e = absurd (cc (h, e))

-- ---- kinds

abbrev IsInner : Option Kind → Type 0
IsInner None = Unit {0}
IsInner (Some k) = is_inner k ≡ true

abbrev all_inner : List (List ℕ × Kind) → Bool
all_inner [] = true
all_inner (x ∷ xs) = is_inner x.1 && all_inner xs

words_inner : all_inner words ≡ true
unfolding words
words_inner = refl

signs_inner : all_inner signs ≡ true
unfolding signs
signs_inner = refl

cond_inner : (b : Bool) (k : Kind) (o : Option Kind) → is_inner k ≡ true → IsInner o → IsInner (cond b (Some k) o)
cond_inner true k o h g = h
cond_inner false k o h g = g

spelled_inner : (table : List (List ℕ × Kind)) (w : List ℕ) → all_inner table ≡ true → IsInner (spelled table w)
unfolding spelled
spelled_inner [] w h = tt
spelled_inner (x ∷ xs) w h =
    let p = and_parts (is_inner x.1) (all_inner xs) h in
    cond_inner (is_word x.0 w) x.1 (spelled xs w) p.0 (spelled_inner xs w p.1)

plain_inner : (w : List ℕ) → is_inner (plain_word w) ≡ true
unfolding plain_word
plain_inner w = by_test (list_any (λ x. is_word x w) unused)
  where
    by_test : (b : Bool) → is_inner (cond b kinds.Reserved kinds.Name) ≡ true
    by_test true = refl
    by_test false = refl

unwrap_inner : (o : Option Kind) (k : Kind) → IsInner o → is_inner k ≡ true → is_inner (unwrap_or o k) ≡ true
unwrap_inner None k h g = g
unwrap_inner (Some j) k h g = h

name_inner : (w : List ℕ) → is_inner (kind_of_name w) ≡ true
unfolding kind_of_name
name_inner w = unwrap_inner (spelled words w) (plain_word w) (spelled_inner words w words_inner) (plain_inner w)

kind_inner : (w : List ℕ) → IsInner (kind_of w)
unfolding kind_of
kind_inner w =
    cond_inner (is_name w) _ _ (name_inner w) (cond_inner (is_system_name w) _ _ refl (cond_inner (is_number w) _ _ refl (cond_inner (is_time w) _ _ refl
    (cond_inner (is_one_step w) _ _ refl (cond_inner (is_string is_escape w) _ _ refl (spelled_inner signs w signs_inner))))))

-- ---- pieces

abbrev IsInnerPiece : Piece → Type 0
IsInnerPiece (pieces.Token k n) = is_inner k ≡ true
IsInnerPiece p = Unit {0}

cond_piece : (b : Bool) (p q : Piece) → IsInnerPiece p → IsInnerPiece q → IsInnerPiece (cond b p q)
cond_piece true p q h g = h
cond_piece false p q h g = g

token_inner : (s : List ℕ) (n : ℕ) (o : Option Kind) → IsInner o → IsInnerPiece (token_piece s n o)
unfolding token_piece
token_inner s n None h = tt
token_inner s n (Some k) h = cond_piece (is_number (take n s) && is_err (literal_of (take n s))) _ _ tt h

directive_inner : (s : List ℕ) (a : Option ((ℕ × ℕ) × List ℕ)) (b : Option (List ℕ)) → IsInnerPiece (directive_piece s a b)
unfolding directive_piece
directive_inner s (Some x) b = tt
directive_inner s None (Some rest) = tt
directive_inner s None None = tt

piece_inner : (s : List ℕ) → IsInnerPiece (piece_at s)
unfolding piece_at
piece_inner s =
    cond_piece (nat_lt 0 (longest is_separator s)) _ _ tt (cond_piece (starts_with nat_eq s (codes "/*")) _ _ tt
    (cond_piece (starts_with nat_eq s (codes "`")) _ _ (directive_inner s (timescale_at s) (nettype_at s))
    (token_inner s (longest is_token s) (kind_of (take (longest is_token s) s)) (kind_inner (take (longest is_token s) s)))))

-- ---- the whole text

-- closed, unless there is a fault
abbrev EndsOnce : Reading → Type 0
EndsOnce r = r.fault ≡ None → IsClosed (toks r.tokens)

one_more : (t : Token) (ts : List Token) → (code t.kind ≡ code kinds.EndOfText → ⊥) → IsClosed (toks ts) → IsClosed (toks (t ∷ ts))
one_more t [] h g = absurd g
one_more t (u ∷ us) h g = (h, g)

token_ends : (b : Bool) (k : Kind) (at : Place) (w : List ℕ) (r : Reading) → is_inner k ≡ true → EndsOnce r
    → EndsOnce (cond b (stopped refused.TooManyTokens at) (with_token (token_of k at w) r))
token_ends true k at w r h g f = absurd cc
token_ends false k at w r h g f = one_more (token_of k at w) r.tokens (inner_code k h) (g f)

piece_ends : (p : Piece) (count : ℕ) (at : Place) (s : List ℕ) (others : ℕ → ℕ → Reading) → IsInnerPiece p → ((m n : ℕ) → EndsOnce (others m n)) → EndsOnce (with_piece p count at s others)
unfolding with_piece
piece_ends (pieces.Passed n) count at s others h g = g count n
piece_ends (pieces.Scale unit precision n) count at s others h g = g count n
piece_ends (pieces.Token k n) count at s others h g = token_ends (count == most_tokens) k at (take n s) (others (count + 1) n) h (g (count + 1) n)
piece_ends (pieces.Nothing why) count at s others h g = λ f. absurd cc

reading_ends : (count k : ℕ) (at : Place) (s : List ℕ) → EndsOnce (reading count k at s)
unfolding reading
reading_ends count k at [] = λ f. refl
reading_ends count (suc k) at (c ∷ cs) = reading_ends count k (after c at) cs
reading_ends count zero at (c ∷ cs) =
    piece_ends (piece_at (c ∷ cs)) count at (c ∷ cs) (λ m n. reading m (n - 1) (after c at) cs) (piece_inner (c ∷ cs)) (λ m n. reading_ends m (n - 1) (after c at) cs)

pub closed : (file : ℕ) (text : List ℕ) → lex_fault file text ≡ None → IsClosed (toks (whole file text).tokens)
closed file text = reading_ends 0 0 (start file) text

pub lexed_closed : (file : ℕ) (text : List ℕ) (ts : List Token) → Lexes file text ts → IsClosed (toks ts)
lexed_closed file text ts h = subst (λ (us : List Token). IsClosed (toks us)) (sym h.same) (closed file text h.no_fault)

-- One piece, and the text after it.
use Rattle.std.proofs.Common.{◌≡◌, get_or, ℕ, zero, suc, ◌+◌, ◌-◌, ◌<◌, ◌≤◌, cond, List, [], ◌∷◌, ◌++◌, length, take, drop, refl, sym, ap, ◌∙◌, arith, append_assoc}
use Rattle.std.specs.Prelude.{Some, None}
use Rattle.std.proofs.lemmas.List.{append-nil, drop_all, drop_more, length_push}
use Rattle.std.proofs.lemmas.Bool.{ne_eqb, eq-eqb}
use Rattle.sv_value.specs.declared.place.Place.{Place}
use Rattle.sv_tree.specs.declared.kind.Kind.{Kind}
use Rattle.sv_tree.specs.declared.token.Token.{Token}
use Rattle.sv_tree.specs.declared.token.Timescale.{Timescale}
use Rattle.sv_tree.specs.declared.token.Refused.{Refused}
use Rattle.sv_tree.specs.declared.token.Refused.TheVariants as refused
use Rattle.sv_tree.specs.declared.token.Piece.TheVariants as pieces
use Rattle.sv_tree.specs.Lexing.{Reading, Lexes, after, reading, with_piece, piece_at, with_token, with_scale, token_of, scale_of, stopped, end_of_text, whole, most_tokens}
use Rattle.sv_lex.specs.Going.{joined, moved}

reading_skip : (count k : ℕ) (at : Place) (s : List ℕ) → k ≤ length s → reading count k at s ≡ reading count 0 (moved at (take k s)) (drop k s)
unfolding reading moved
reading_skip count zero at s h = refl
reading_skip count (suc k) at [] h = absurd (omega arith)
reading_skip count (suc k) at (c ∷ cs) h = reading_skip count k (after c at) cs (omega arith)

others_at : (count n : ℕ) (at : Place) (c : ℕ) (cs : List ℕ) → 1 ≤ n → n ≤ length (c ∷ cs) → reading count (n - 1) (after c at) cs ≡ reading count 0 (moved at (take n (c ∷ cs))) (drop n (c ∷ cs))
unfolding reading moved
others_at count zero at c cs h l = absurd (omega arith)
others_at count (suc k) at c cs h l =
    let less : suc k - 1 ≡ k = omega arith in
    ap (λ j. reading count j (after c at) cs) less ∙ reading_skip count k (after c at) cs (omega arith)

pub passed_goes : (count : ℕ) (at : Place) (s : List ℕ) (n : ℕ) → pieces.Passed n ≡ piece_at s → 1 ≤ n → n ≤ length s → reading count 0 at s ≡ reading count 0 (moved at (take n s)) (drop n s)
unfolding reading with_piece
passed_goes count at [] n e a b = absurd (omega arith)
passed_goes count at (c ∷ cs) n e a b =
    ap (λ p. with_piece p count at (c ∷ cs) (λ m k. reading m (k - 1) (after c at) cs)) (sym e) ∙ others_at count n at c cs a b

pub scale_goes : (count : ℕ) (at : Place) (s : List ℕ) (unit precision n : ℕ) → pieces.Scale unit precision n ≡ piece_at s → 1 ≤ n → n ≤ length s
    → reading count 0 at s ≡ with_scale (scale_of unit precision at) (reading count 0 (moved at (take n s)) (drop n s))
unfolding reading with_piece
scale_goes count at [] unit precision n e a b = absurd (omega arith)
scale_goes count at (c ∷ cs) unit precision n e a b =
    ap (λ p. with_piece p count at (c ∷ cs) (λ m k. reading m (k - 1) (after c at) cs)) (sym e)
    ∙ ap (with_scale (scale_of unit precision at)) (others_at count n at c cs a b)

pub token_goes : (count : ℕ) (at : Place) (s : List ℕ) (kind : Kind) (n : ℕ) → pieces.Token kind n ≡ piece_at s → 1 ≤ n → n ≤ length s → (count ≡ most_tokens → ⊥)
    → reading count 0 at s ≡ with_token (token_of kind at (take n s)) (reading (count + 1) 0 (moved at (take n s)) (drop n s))
unfolding reading with_piece
token_goes count at [] kind n e a b f = absurd (omega arith)
token_goes count at (c ∷ cs) kind n e a b f =
    ap (λ p. with_piece p count at (c ∷ cs) (λ m k. reading m (k - 1) (after c at) cs)) (sym e)
    ∙ ap (λ t. cond t (stopped refused.TooManyTokens at) (with_token (token_of kind at (take n (c ∷ cs))) (reading (count + 1) (n - 1) (after c at) cs))) (ne_eqb count most_tokens f)
    ∙ ap (with_token (token_of kind at (take n (c ∷ cs)))) (others_at (count + 1) n at c cs a b)

pub token_stops : (count : ℕ) (at : Place) (s : List ℕ) (kind : Kind) (n : ℕ) → pieces.Token kind n ≡ piece_at s → 1 ≤ length s → count ≡ most_tokens
    → (reading count 0 at s).fault ≡ Some (refused.TooManyTokens, at)
unfolding reading with_piece
token_stops count at [] kind n e a f = absurd (omega arith)
token_stops count at (c ∷ cs) kind n e a f =
    ap (λ p. (with_piece p count at (c ∷ cs) (λ m k. reading m (k - 1) (after c at) cs)).fault) (sym e)
    ∙ ap (λ t. (let r : Reading = cond t (record { tokens = []; scales = []; fault = Some (refused.TooManyTokens, at) }) (with_token (token_of kind at (take n (c ∷ cs))) (reading (count + 1) (n - 1) (after c at) cs)) in r).fault) (eq-eqb count most_tokens f)

pub nothing_stops : (count : ℕ) (at : Place) (s : List ℕ) (why : Refused) → pieces.Nothing why ≡ piece_at s → 1 ≤ length s → (reading count 0 at s).fault ≡ Some (why, at)
unfolding reading with_piece
nothing_stops count at [] why e a = absurd (omega arith)
nothing_stops count at (c ∷ cs) why e a =
    ap (λ p. (with_piece p count at (c ∷ cs) (λ m k. reading m (k - 1) (after c at) cs)).fault) (sym e)

pub joined_token : (ts : List Token) (cs : List Timescale) (t : Token) (r : Reading) → joined (ts ++ t ∷ []) cs r ≡ joined ts cs (with_token t r)
joined_token ts cs t r = λ i. record { tokens = append_assoc ts (t ∷ []) r.tokens i; scales = cs ++ r.scales; fault = r.fault }

pub joined_scale : (ts : List Token) (cs : List Timescale) (t : Timescale) (r : Reading) → joined ts (cs ++ t ∷ []) r ≡ joined ts cs (with_scale t r)
joined_scale ts cs t r = λ i. record { tokens = ts ++ r.tokens; scales = append_assoc cs (t ∷ []) r.scales i; fault = r.fault }

pub reading_end : (count : ℕ) (at : Place) (s : List ℕ) (i : ℕ) → length s ≤ i → reading count 0 at (drop i s) ≡ record { tokens = end_of_text at ∷ []; scales = []; fault = None }
unfolding reading
reading_end count at s i h = ap (reading count 0 at) (drop_all i s h)

-- ---- places

pub moved_more : (at at' : Place) (s : List ℕ) (i : ℕ) (r : Place) → i < length s → at' ≡ after (get_or s i 0) at → moved at (drop i s) ≡ r → moved at' (drop (i + 1) s) ≡ r
unfolding moved
moved_more at at' s i r h e k = ap (λ p. moved p (drop (i + 1) s)) e ∙ sym (ap (moved at) (drop_more s i 0 h)) ∙ k

pub moved_done : (at : Place) (s : List ℕ) (i : ℕ) (r : Place) → length s ≤ i → moved at (drop i s) ≡ r → at ≡ r
unfolding moved
moved_done at s i r h k = sym (ap (moved at) (drop_all i s h)) ∙ k

-- ---- a step, and the end

pub passed_joined : (ts : List Token) (cs : List Timescale) (at : Place) (s : List ℕ) (n : ℕ) → pieces.Passed n ≡ piece_at s → 1 ≤ n → n ≤ length s
    → joined ts cs (reading (length ts) 0 (moved at (take n s)) (drop n s)) ≡ joined ts cs (reading (length ts) 0 at s)
passed_joined ts cs at s n e a b = ap (joined ts cs) (sym (passed_goes (length ts) at s n e a b))

pub scale_joined : (ts : List Token) (cs cs' : List Timescale) (at : Place) (s : List ℕ) (unit precision n : ℕ) → pieces.Scale unit precision n ≡ piece_at s → 1 ≤ n → n ≤ length s
    → cs' ≡ cs ++ scale_of unit precision at ∷ []
    → joined ts cs' (reading (length ts) 0 (moved at (take n s)) (drop n s)) ≡ joined ts cs (reading (length ts) 0 at s)
scale_joined ts cs cs' at s unit precision n e a b f =
    let r = reading (length ts) 0 (moved at (take n s)) (drop n s) in
    ap (λ l. joined ts l r) f ∙ joined_scale ts cs (scale_of unit precision at) r ∙ ap (joined ts cs) (sym (scale_goes (length ts) at s unit precision n e a b))

pub token_joined : (ts ts' : List Token) (cs : List Timescale) (at : Place) (s : List ℕ) (kind : Kind) (n k : ℕ) (t : Token) → pieces.Token kind n ≡ piece_at s → 1 ≤ n → n ≤ length s
    → (length ts ≡ most_tokens → ⊥) → ts' ≡ ts ++ t ∷ [] → t ≡ token_of kind at (take k s) → k ≡ n
    → joined ts' cs (reading (length ts') 0 (moved at (take n s)) (drop n s)) ≡ joined ts cs (reading (length ts) 0 at s)
token_joined ts ts' cs at s kind n k t e a b f g h x =
    let w = token_of kind at (take n s) in
    ap (λ l. joined l cs (reading (length l) 0 (moved at (take n s)) (drop n s))) (g ∙ ap (λ u. ts ++ u ∷ []) (h ∙ ap (λ j. token_of kind at (take j s)) x))
    ∙ ap (λ m. joined (ts ++ w ∷ []) cs (reading m 0 (moved at (take n s)) (drop n s))) (length_push ts w)
    ∙ joined_token ts cs w (reading (length ts + 1) 0 (moved at (take n s)) (drop n s))
    ∙ ap (joined ts cs) (sym (token_goes (length ts) at s kind n e a b f))

whole_end : (ts : List Token) (cs : List Timescale) (at : Place) (text : List ℕ) (i : ℕ) (r : Reading) → length text ≤ i → joined ts cs (reading (length ts) 0 at (drop i text)) ≡ r
    → joined ts cs (record { tokens = end_of_text at ∷ []; scales = []; fault = None }) ≡ r
whole_end ts cs at text i r h k = sym (ap (joined ts cs) (reading_end (length ts) at text i h)) ∙ k

pub lexes_end : (file : ℕ) (text : List ℕ) (ts ts' : List Token) (cs : List Timescale) (at : Place) (i : ℕ) (t : Token) → length text ≤ i
    → joined ts cs (reading (length ts) 0 at (drop i text)) ≡ whole file text → ts' ≡ ts ++ t ∷ [] → t ≡ end_of_text at → Lexes file text ts'
lexes_end file text ts ts' cs at i t h k e f =
    let done = whole_end ts cs at text i (whole file text) h k in
    record {
      no_fault = sym (ap (λ (r : Reading). r.fault) done);
      same = e ∙ ap (λ u. ts ++ u ∷ []) f ∙ ap (λ (r : Reading). r.tokens) done;
    }

pub scales_end : (file : ℕ) (text : List ℕ) (ts : List Token) (cs : List Timescale) (at : Place) (i : ℕ) → length text ≤ i
    → joined ts cs (reading (length ts) 0 at (drop i text)) ≡ whole file text → cs ≡ (whole file text).scales
scales_end file text ts cs at i h k =
    sym (append-nil cs) ∙ ap (λ (r : Reading). r.scales) (whole_end ts cs at text i (whole file text) h k)

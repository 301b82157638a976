-- The longest prefix of each form, by its first byte.
use Rattle.std.proofs.Common.{◌≡◌, map, ℕ, get_or, suc, ◌+◌, ◌<◌, ◌≤◌, max, Bool, true, false, not, cond, ◌&&◌, ◌||◌, List, [], ◌∷◌, length, drop, refl, sym, ap, ◌∙◌, arith}
use Rattle.std.specs.Prelude.{Option, Some, None, ◌==◌, nat_eq, codes}
use Rattle.std.specs.List.{list_all, list_any, prefix_len, starts_with}
use Rattle.sv_tree.specs.Longest.{longest}
use Rattle.sv_lex.specs.FirstBytes.{grown}
use Rattle.sv_lex.specs.declared.strings.Escape.{Escape}
use Rattle.sv_tree.specs.Tokens.{is_nil, is_one, is_letter, is_name_part, is_name, is_system_name, is_digit_or_mark, is_word_part, is_digit_part, is_base_letter, is_decimal_letter, is_sign_letter, is_filling_digit, is_plain_number, is_filling_number, is_decimal_body, is_base, is_signed_base, is_based_number, is_size_rest, is_sized_number, is_number, is_unit_letter, is_unit, is_time_rest, is_time, is_one_step, is_after, is_on_line, is_string_rest, is_string, is_word, is_spelled, spelled}
use Rattle.sv_tree.specs.Lexing.{is_blank_byte, is_blank, is_line_comment, is_comment_rest, is_comment, is_separator}
use Rattle.std.proofs.lemmas.List.{drop_more, drop_all, length-drop}
use Rattle.std.proofs.lemmas.Bool.{eqb-true}
use Rattle.sv_lex.specs.Quoting.{allowed, closes, breaks, slashes}
use Rattle.sv_tree.specs.declared.kind.Kind.{Kind}
use Rattle.std.specs.Char.{is_ascii_digit}
use Rattle.sv_lex.proofs.Prefixes.{longest-none, over_found, over_grown, longest-cons, longest-first, longest-nil, longest-agree, first, tail, over, first_prefix, choice_prefix, may_prefix, run_prefix, one_prefix, after_prefix, longest-or, longest-is_nil, longest-is_word, longest-list_all}

pub name_prefix : (s : List ℕ) → 1 ≤ length s → longest is_name s ≡ cond (is_letter (first s)) (1 + prefix_len is_name_part (tail s)) 0
unfolding is_name
name_prefix s h =
    first_prefix is_name (list_all is_name_part) is_letter (λ c w. refl) s h
    ∙ ap (λ n. cond (is_letter (first s)) n 0) (ap suc (longest-list_all is_name_part (tail s)) ∙ omega arith)

pub system_name_prefix : (s : List ℕ) → 1 ≤ length s → longest is_system_name s ≡ cond (first s == 36) (grown false (longest is_name (tail s))) 0
unfolding is_system_name is_name
system_name_prefix s h = after_prefix 36 is_name s h

-- ---- numbers

run : (q : ℕ → Bool) (s : List ℕ) → grown true (longest (list_all q) s) ≡ 1 + prefix_len q s
run q s = ap suc (longest-list_all q s) ∙ omega arith

pub plain_prefix : (s : List ℕ) → 1 ≤ length s → longest is_plain_number s ≡ cond (is_ascii_digit (first s)) (1 + prefix_len is_digit_or_mark (tail s)) 0
unfolding is_plain_number
plain_prefix s h =
    first_prefix is_plain_number (list_all is_digit_or_mark) is_ascii_digit (λ c w. refl) s h
    ∙ ap (λ n. cond (is_ascii_digit (first s)) n 0) (run is_digit_or_mark (tail s))

pub filling_digit_prefix : (s : List ℕ) → 1 ≤ length s → longest (is_one is_filling_digit) s ≡ cond (is_filling_digit (first s)) 1 0
filling_digit_prefix s h = one_prefix is_filling_digit s h

pub filling_prefix : (s : List ℕ) → 1 ≤ length s → longest is_filling_number s ≡ cond (first s == 39) (grown false (longest (is_one is_filling_digit) (tail s))) 0
unfolding is_filling_number is_one
filling_prefix s h = after_prefix 39 (is_one is_filling_digit) s h

pub decimal_prefix : (s : List ℕ) → 1 ≤ length s
    → longest is_decimal_body s ≡ cond (is_ascii_digit (first s)) (1 + prefix_len is_word_part (tail s)) (cond (is_digit_part (first s)) (1 + prefix_len is_digit_part (tail s)) 0)
unfolding is_decimal_body
decimal_prefix s h =
    choice_prefix is_decimal_body (list_all is_word_part) (list_all is_digit_part) is_ascii_digit is_digit_part (λ c w. refl) s h
    ∙ (λ i. cond (is_ascii_digit (first s)) (run is_word_part (tail s) i) (cond (is_digit_part (first s)) (run is_digit_part (tail s) i) 0))

pub base_prefix : (s : List ℕ) → 1 ≤ length s
    → longest is_base s ≡ cond (is_decimal_letter (first s)) (1 + longest is_decimal_body (tail s)) (cond (is_base_letter (first s)) (1 + prefix_len is_digit_part (tail s)) 0)
unfolding is_base is_decimal_body
base_prefix s h =
    choice_prefix is_base is_decimal_body (list_all is_digit_part) is_decimal_letter is_base_letter (λ c w. refl) s h
    ∙ (λ i. cond (is_decimal_letter (first s)) (more i) (cond (is_base_letter (first s)) (run is_digit_part (tail s) i) 0))
  where
    more : suc (longest is_decimal_body (tail s)) ≡ 1 + longest is_decimal_body (tail s)
    more = omega arith

pub signed_prefix : (s : List ℕ) → 1 ≤ length s → longest is_signed_base s ≡ cond (is_sign_letter (first s)) (grown false (longest is_base (tail s))) (longest is_base s)
unfolding is_signed_base is_base
signed_prefix s h = may_prefix is_signed_base is_base is_base is_sign_letter (λ c w. refl) s h

pub based_prefix : (s : List ℕ) → 1 ≤ length s → longest is_based_number s ≡ cond (first s == 39) (grown false (longest is_signed_base (tail s))) 0
unfolding is_based_number is_signed_base
based_prefix s h = after_prefix 39 is_signed_base s h

pub size_prefix : (s : List ℕ) → longest is_size_rest s ≡ over (prefix_len is_digit_or_mark s) (longest is_based_number (drop (prefix_len is_digit_or_mark s) s))
unfolding is_size_rest
size_prefix s = run_prefix is_size_rest is_based_number is_digit_or_mark refl (λ c w. refl) s

pub sized_prefix : (s : List ℕ) → 1 ≤ length s → longest is_sized_number s ≡ cond (is_ascii_digit (first s)) (grown false (longest is_size_rest (tail s))) 0
unfolding is_sized_number is_size_rest
sized_prefix s h = first_prefix is_sized_number is_size_rest is_ascii_digit (λ c w. refl) s h

pub number_is : (s : List ℕ) → longest is_number s ≡ max (longest is_plain_number s) (max (longest is_filling_number s) (max (longest is_based_number s) (longest is_sized_number s)))
unfolding is_number
number_is s =
    longest-or is_plain_number (λ w. is_filling_number w || (is_based_number w || is_sized_number w)) s
    ∙ ap (max (longest is_plain_number s))
    (longest-or is_filling_number (λ w. is_based_number w || is_sized_number w) s
    ∙ ap (max (longest is_filling_number s)) (longest-or is_based_number is_sized_number s))

-- ---- times

pub second_prefix : (s : List ℕ) → 1 ≤ length s → longest (is_one (λ d. d == 115)) s ≡ cond (first s == 115) 1 0
second_prefix s h = one_prefix (λ d. d == 115) s h

pub unit_prefix : (s : List ℕ) → 1 ≤ length s → longest is_unit s ≡ cond (first s == 115) 1 (cond (is_unit_letter (first s)) (grown false (longest (is_one (λ d. d == 115)) (tail s))) 0)
unfolding is_unit is_one
unit_prefix s h =
    choice_prefix is_unit is_nil (is_one (λ d. d == 115)) (λ c. c == 115) is_unit_letter (λ c w. refl) s h
    ∙ ap (λ n. cond (first s == 115) (suc n) (cond (is_unit_letter (first s)) (grown false (longest (is_one (λ d. d == 115)) (tail s))) 0)) (longest-is_nil (tail s))

pub time_rest_prefix : (s : List ℕ) → longest is_time_rest s ≡ over (prefix_len is_ascii_digit s) (longest is_unit (drop (prefix_len is_ascii_digit s) s))
unfolding is_time_rest
time_rest_prefix s = run_prefix is_time_rest is_unit is_ascii_digit refl (λ c w. refl) s

pub time_prefix : (s : List ℕ) → 1 ≤ length s → longest is_time s ≡ cond (is_ascii_digit (first s)) (grown false (longest is_time_rest (tail s))) 0
unfolding is_time is_time_rest
time_prefix s h = first_prefix is_time is_time_rest is_ascii_digit (λ c w. refl) s h

pub one_step_prefix : (s : List ℕ) → longest is_one_step s ≡ cond (starts_with nat_eq s (codes "1step")) 5 0
unfolding is_one_step
one_step_prefix s = longest-is_word (codes "1step") s

-- ---- separators

pub blank_prefix : (s : List ℕ) → 1 ≤ length s → longest is_blank s ≡ cond (is_blank_byte (first s)) 1 0
unfolding is_blank
blank_prefix s h = one_prefix is_blank_byte s h

pub slash_prefix : (s : List ℕ) → 1 ≤ length s → longest (is_after 47 (list_all is_on_line)) s ≡ cond (first s == 47) (1 + prefix_len is_on_line (tail s)) 0
slash_prefix s h = after_prefix 47 (list_all is_on_line) s h ∙ ap (λ n. cond (first s == 47) n 0) (run is_on_line (tail s))

pub line_comment_prefix : (s : List ℕ) → 1 ≤ length s → longest is_line_comment s ≡ cond (first s == 47) (grown false (longest (is_after 47 (list_all is_on_line)) (tail s))) 0
unfolding is_line_comment is_after
line_comment_prefix s h = after_prefix 47 (is_after 47 (list_all is_on_line)) s h

pub star_prefix : (s : List ℕ) → 1 ≤ length s → longest (is_after 42 is_comment_rest) s ≡ cond (first s == 42) (grown false (longest is_comment_rest (tail s))) 0
unfolding is_comment_rest
star_prefix s h = after_prefix 42 is_comment_rest s h

pub comment_prefix : (s : List ℕ) → 1 ≤ length s → longest is_comment s ≡ cond (first s == 47) (grown false (longest (is_after 42 is_comment_rest) (tail s))) 0
unfolding is_comment is_after
comment_prefix s h = after_prefix 47 (is_after 42 is_comment_rest) s h

pub separator_is : (s : List ℕ) → longest is_separator s ≡ max (longest is_blank s) (max (longest is_line_comment s) (longest is_comment s))
unfolding is_separator
separator_is s =
    longest-or is_blank (λ w. is_line_comment w || is_comment w) s
    ∙ ap (max (longest is_blank s)) (longest-or is_line_comment is_comment s)

comment_step : (b : Bool) (c d : ℕ) (ds : List ℕ) → (c == 42 && d == 47) ≡ b → longest is_comment_rest (c ∷ d ∷ ds) ≡ cond b 2 (grown false (longest is_comment_rest (d ∷ ds)))
unfolding is_comment_rest
comment_step true c d ds e =
    longest-cons is_comment_rest (λ w. is_comment_rest (c ∷ w)) c (λ w. refl) (d ∷ ds)
    ∙ ap (grown false)
    (longest-cons (λ w. is_comment_rest (c ∷ w)) is_nil d (λ w. ap (λ t. cond t (is_nil w) (is_comment_rest (d ∷ w))) e) ds
    ∙ ap suc (longest-is_nil ds))
comment_step false c d ds e =
    longest-cons is_comment_rest (λ w. is_comment_rest (c ∷ w)) c (λ w. refl) (d ∷ ds)
    ∙ ap (grown false) (longest-agree (λ w. is_comment_rest (c ∷ w)) is_comment_rest d (λ w. ap (λ t. cond t (is_nil w) (is_comment_rest (d ∷ w))) e) ds)

-- at the place i of a text
pub comment_at : (s : List ℕ) (i : ℕ) → i + 1 < length s
    → longest is_comment_rest (drop i s) ≡ cond (get_or s i 0 == 42 && get_or s (i + 1) 0 == 47) 2 (grown false (longest is_comment_rest (drop (i + 1) s)))
comment_at s i h =
    let two = drop_more s (i + 1) 0 h in
    ap (longest is_comment_rest) (drop_more s i 0 (omega arith) ∙ ap (λ l. get_or s i 0 ∷ l) two)
    ∙ comment_step (get_or s i 0 == 42 && get_or s (i + 1) 0 == 47) (get_or s i 0) (get_or s (i + 1) 0) (drop (i + 1 + 1) s) refl
    ∙ ap (λ l. cond (get_or s i 0 == 42 && get_or s (i + 1) 0 == 47) 2 (grown false (longest is_comment_rest l))) (sym two)

comment_short : (s : List ℕ) → length s ≤ 1 → longest is_comment_rest s ≡ 0
unfolding is_comment_rest
comment_short [] h = longest-nil is_comment_rest
comment_short (c ∷ []) h = longest-cons is_comment_rest (λ w. is_comment_rest (c ∷ w)) c (λ w. refl) [] ∙ ap (grown false) (longest-nil (λ w. is_comment_rest (c ∷ w)))
comment_short (c ∷ d ∷ cs) h = absurd (omega arith)

pub comment_end : (s : List ℕ) (i : ℕ) → length s ≤ i + 1 → longest is_comment_rest (drop i s) ≡ 0
comment_end s i h = comment_short (drop i s) (omega (arith, length-drop i s))

-- ---- string literals

pub string_prefix : (escape : Escape) (s : List ℕ) → 1 ≤ length s
    → longest (is_string (allowed escape)) s ≡ cond (first s == 34) (grown false (longest (is_string_rest (allowed escape) false) (tail s))) 0
unfolding is_string is_string_rest
string_prefix escape s h = after_prefix 34 (is_string_rest (allowed escape) false) s h

closed_step : (escape : Escape) (x y z : Bool) (c : ℕ) (cs : List ℕ) → (c == 34) ≡ x → (c == 92) ≡ y → (c == 10) ≡ z
    → longest (is_string_rest (allowed escape) false) (c ∷ cs) ≡ cond x 1 (cond z 0 (grown false (longest (is_string_rest (allowed escape) y) cs)))
unfolding is_string_rest
closed_step escape true y z c cs p q r =
    longest-cons (is_string_rest (allowed escape) false) is_nil c (λ w. ap (λ t. cond t (is_nil w) (cond (c == 92) (is_string_rest (allowed escape) true w) (not (c == 10) && is_string_rest (allowed escape) false w))) p) cs
    ∙ ap suc (longest-is_nil cs)
closed_step escape false true true c cs p q r = absurd (omega (arith, eqb-true c 92 q, eqb-true c 10 r))
closed_step escape false true false c cs p q r =
    longest-cons (is_string_rest (allowed escape) false) (is_string_rest (allowed escape) true) c
    (λ w. λ i. cond (p i) (is_nil w) (cond (q i) (is_string_rest (allowed escape) true w) (not (c == 10) && is_string_rest (allowed escape) false w))) cs
closed_step escape false false z c cs p q r =
    longest-first (is_string_rest (allowed escape) false) (is_string_rest (allowed escape) false) (not z) c
    (λ w. λ i. cond (p i) (is_nil w) (cond (q i) (is_string_rest (allowed escape) true w) (not (r i) && is_string_rest (allowed escape) false w))) cs
    ∙ flip z (grown false (longest (is_string_rest (allowed escape) false) cs))
  where
    flip : (b : Bool) (n : ℕ) → cond (not b) n 0 ≡ cond b 0 n
    flip true n = refl
    flip false n = refl

string_step : (escape : Escape) (b : Bool) (c : ℕ) (cs : List ℕ)
    → longest (is_string_rest (allowed escape) b) (c ∷ cs) ≡ cond (closes b c) 1 (cond (breaks escape b c) 0 (grown false (longest (is_string_rest (allowed escape) (slashes b c)) cs)))
unfolding is_string_rest
string_step escape true c cs =
    longest-first (is_string_rest (allowed escape) true) (is_string_rest (allowed escape) false) (allowed escape c) c (λ w. refl) cs
    ∙ flip (allowed escape c) (grown false (longest (is_string_rest (allowed escape) false) cs))
  where
    flip : (b : Bool) (n : ℕ) → cond b n 0 ≡ cond (not b) 0 n
    flip true n = refl
    flip false n = refl
string_step escape false c cs = closed_step escape (c == 34) (c == 92) (c == 10) c cs refl refl refl

-- at the place i of a text
pub string_at : (escape : Escape) (b : Bool) (s : List ℕ) (i : ℕ) → i < length s
    → longest (is_string_rest (allowed escape) b) (drop i s)
    ≡ cond (closes b (get_or s i 0)) 1 (cond (breaks escape b (get_or s i 0)) 0 (grown false (longest (is_string_rest (allowed escape) (slashes b (get_or s i 0))) (drop (i + 1) s))))
string_at escape b s i h = ap (longest (is_string_rest (allowed escape) b)) (drop_more s i 0 h) ∙ string_step escape b (get_or s i 0) (drop (i + 1) s)

pub string_end : (escape : Escape) (b : Bool) (s : List ℕ) (i : ℕ) → length s ≤ i → longest (is_string_rest (allowed escape) b) (drop i s) ≡ 0
string_end escape b s i h = ap (longest (is_string_rest (allowed escape) b)) (drop_all i s h) ∙ longest-nil (is_string_rest (allowed escape) b)

-- ---- tables

pub spelled_more : (x : List ℕ × Kind) (xs : List (List ℕ × Kind)) (s : List ℕ) → longest (is_spelled (x ∷ xs)) s ≡ max (longest (is_word x.0) s) (longest (is_spelled xs) s)
unfolding is_spelled
spelled_more x xs s = longest-or (is_word x.0) (is_spelled xs) s

-- ---- what a loop knows, in the form that its goals have

pub comment_found : (s : List ℕ) (i r : ℕ) (b : Bool) → i + 1 < length s → b ≡ (get_or s i 0 == 42 && get_or s (i + 1) 0 == 47) → b ≡ true → over i (longest is_comment_rest (drop i s)) ≡ r → i + 2 ≡ r
comment_found s i r b h e t k = over_found i 1 ∙ ap (over i) (sym (comment_at s i h ∙ ap (λ v. cond v 2 (grown false (longest is_comment_rest (drop (i + 1) s)))) (sym e ∙ t))) ∙ k

pub comment_goes : (s : List ℕ) (i r : ℕ) (b : Bool) → i + 1 < length s → b ≡ (get_or s i 0 == 42 && get_or s (i + 1) 0 == 47) → b ≡ false → over i (longest is_comment_rest (drop i s)) ≡ r
    → over (i + 1) (longest is_comment_rest (drop (i + 1) s)) ≡ r
comment_goes s i r b h e t k = sym (over_grown i _) ∙ ap (over i) (sym (comment_at s i h ∙ ap (λ v. cond v 2 (grown false (longest is_comment_rest (drop (i + 1) s)))) (sym e ∙ t))) ∙ k

pub comment_done : (s : List ℕ) (i r : ℕ) → length s ≤ i + 1 → over i (longest is_comment_rest (drop i s)) ≡ r → 0 ≡ r
comment_done s i r h k = sym (ap (over i) (comment_end s i h)) ∙ k

module _ (escape : Escape) (b : Bool) (s : List ℕ) (i r : ℕ) (h : i < length s) (k : over i (longest (is_string_rest (allowed escape) b) (drop i s)) ≡ r) where
  step : (t u : Bool) → t ≡ closes b (get_or s i 0) → u ≡ breaks escape b (get_or s i 0) → over i (cond t 1 (cond u 0 (grown false (longest (is_string_rest (allowed escape) (slashes b (get_or s i 0))) (drop (i + 1) s))))) ≡ r
  step t u e f = (λ j. over i (cond (e j) 1 (cond (f j) 0 (grown false (longest (is_string_rest (allowed escape) (slashes b (get_or s i 0))) (drop (i + 1) s)))))) ∙ ap (over i) (sym (string_at escape b s i h)) ∙ k

  pub string_found : (t : Bool) → t ≡ closes b (get_or s i 0) → t ≡ true → i + 1 ≡ r
  string_found t e x = over_found i 0 ∙ step true (breaks escape b (get_or s i 0)) (sym x ∙ e) refl

  pub string_broken : (t u : Bool) → t ≡ closes b (get_or s i 0) → t ≡ false → u ≡ breaks escape b (get_or s i 0) → u ≡ true → 0 ≡ r
  string_broken t u e x f y = step false true (sym x ∙ e) (sym y ∙ f)

  pub string_goes : (t u v : Bool) → t ≡ closes b (get_or s i 0) → t ≡ false → u ≡ breaks escape b (get_or s i 0) → u ≡ false → v ≡ slashes b (get_or s i 0)
      → over (i + 1) (longest (is_string_rest (allowed escape) v) (drop (i + 1) s)) ≡ r
  string_goes t u v e x f y g =
      ap (λ z. over (i + 1) (longest (is_string_rest (allowed escape) z) (drop (i + 1) s))) g
      ∙ sym (over_grown i _) ∙ step false false (sym x ∙ e) (sym y ∙ f)

pub string_done : (escape : Escape) (b : Bool) (s : List ℕ) (i r : ℕ) → length s ≤ i → over i (longest (is_string_rest (allowed escape) b) (drop i s)) ≡ r → 0 ≡ r
string_done escape b s i r h k = sym (ap (over i) (string_end escape b s i h)) ∙ k

-- the elements of a table, seen by f, from the place i on
module _ {X : Type 0} (f : X → List ℕ × Kind) (xs : List X) (i : ℕ) where
  pub spelled_at : (d : X) (w : List ℕ) → i < length xs → spelled (map f (drop i xs)) w ≡ cond (is_word (f (get_or xs i d)).0 w) (Some (f (get_or xs i d)).1) (spelled (map f (drop (i + 1) xs)) w)
  unfolding spelled
  spelled_at d w h = ap (λ l. spelled (map f l) w) (drop_more xs i d h)

  pub spelled_past : (w : List ℕ) → length xs ≤ i → spelled (map f (drop i xs)) w ≡ None
  unfolding spelled
  spelled_past w h = ap (λ l. spelled (map f l) w) (drop_all i xs h)

  pub longest_at : (d : X) (s : List ℕ) → i < length xs
      → longest (is_spelled (map f (drop i xs))) s ≡ max (longest (is_word (f (get_or xs i d)).0) s) (longest (is_spelled (map f (drop (i + 1) xs))) s)
  longest_at d s h = ap (λ l. longest (is_spelled (map f l)) s) (drop_more xs i d h) ∙ spelled_more (f (get_or xs i d)) (map f (drop (i + 1) xs)) s

  pub longest_past : (s : List ℕ) → length xs ≤ i → longest (is_spelled (map f (drop i xs))) s ≡ 0
  unfolding is_spelled
  longest_past s h = ap (λ l. longest (is_spelled (map f l)) s) (drop_all i xs h) ∙ longest-none (λ w. false) (λ w. refl) s

  pub spelled_found : (d : X) (w v : List ℕ) (b : Bool) (r : Option Kind) → i < length xs → v ≡ (f (get_or xs i d)).0 → b ≡ is_word v w → b ≡ true → spelled (map f (drop i xs)) w ≡ r → Some (f (get_or xs i d)).1 ≡ r
  spelled_found d w v b r h e t x k =
      sym (spelled_at d w h ∙ ap (λ z. cond z (Some (f (get_or xs i d)).1) (spelled (map f (drop (i + 1) xs)) w)) (ap (λ l. is_word l w) (sym e) ∙ sym t ∙ x)) ∙ k

  pub spelled_goes : (d : X) (w v : List ℕ) (b : Bool) (r : Option Kind) → i < length xs → v ≡ (f (get_or xs i d)).0 → b ≡ is_word v w → b ≡ false → spelled (map f (drop i xs)) w ≡ r → spelled (map f (drop (i + 1) xs)) w ≡ r
  spelled_goes d w v b r h e t x k =
      sym (spelled_at d w h ∙ ap (λ z. cond z (Some (f (get_or xs i d)).1) (spelled (map f (drop (i + 1) xs)) w)) (ap (λ l. is_word l w) (sym e) ∙ sym t ∙ x)) ∙ k

  pub spelled_none : (w : List ℕ) (r : Option Kind) → length xs ≤ i → spelled (map f (drop i xs)) w ≡ r → None ≡ r
  spelled_none w r h k = sym (spelled_past w h) ∙ k

  pub longest_goes : (d : X) (s v : List ℕ) (n m m' r : ℕ) → i < length xs → v ≡ (f (get_or xs i d)).0 → n ≡ longest (is_word v) s → m' ≡ max n m
      → max (longest (is_spelled (map f (drop i xs))) s) m ≡ r → max (longest (is_spelled (map f (drop (i + 1) xs))) s) m' ≡ r
  longest_goes d s v n m m' r h e a b k =
      let at = longest_at d s h in
      let word : n ≡ longest (is_word (f (get_or xs i d)).0) s = a ∙ ap (λ l. longest (is_word l) s) e in
      omega (arith, at, word, b, k)

  pub longest_done : (s : List ℕ) (m r : ℕ) → length xs ≤ i → max (longest (is_spelled (map f (drop i xs))) s) m ≡ r → m ≡ r
  longest_done s m r h k = omega (arith, longest_past s h, k)

module _ {X : Type 0} (f : X → List ℕ) (xs : List X) (i : ℕ) where
  pub any_at : (d : X) (w : List ℕ) → i < length xs → list_any (λ x. is_word x w) (map f (drop i xs)) ≡ (is_word (f (get_or xs i d)) w || list_any (λ x. is_word x w) (map f (drop (i + 1) xs)))
  any_at d w h = ap (λ l. list_any (λ x. is_word x w) (map f l)) (drop_more xs i d h)

  pub any_past : (w : List ℕ) → length xs ≤ i → list_any (λ x. is_word x w) (map f (drop i xs)) ≡ false
  any_past w h = ap (λ l. list_any (λ x. is_word x w) (map f l)) (drop_all i xs h)

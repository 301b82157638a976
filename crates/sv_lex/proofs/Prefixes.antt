-- Laws of the longest prefix that passes a test.
use Rattle.std.proofs.Common.{◌≡◌, ℕ, get_or, zero, suc, ◌+◌, ◌-◌, ◌<◌, ◌≤◌, ◌⊎◌, max, Bool, true, false, not, cond, ◌&&◌, ◌||◌, eqb, List, [], ◌∷◌, length, take, drop, refl, sym, ap, ◌∙◌, ⊎_elim, inl, inr, arith}
use Rattle.std.specs.List.{list_all, prefix_len, starts_with}
use Rattle.std.proofs.lemmas.Bool.{ne_eqb, eq-eqb, cases_lt}
use Rattle.std.proofs.lemmas.List.{take_all, take_rest}
use Rattle.std.specs.Prelude.{◌==◌, nat_eq}
use Rattle.sv_tree.specs.Tokens.{is_nil, is_one, is_after, is_word}
use Rattle.sv_tree.specs.Longest.{longest, longest_within}
use Rattle.sv_lex.specs.FirstBytes.{grown}
use Rattle.sv_lex.specs.FirstBytes.{begin_apart}

grown-suc : (b : Bool) (n : ℕ) → suc (suc n) ≡ grown b (suc n)
grown-suc true n = refl
grown-suc false n = refl

grown-zero : (b : Bool) → cond b 1 0 ≡ grown b 0
grown-zero true = refl
grown-zero false = refl

grow_step : (b : Bool) (t : Bool) (n x y : ℕ) → x ≡ grown b y → cond t (suc (suc n)) x ≡ grown b (cond t (suc n) y)
grow_step b true n x y h = grown-suc b n
grow_step b false n x y h = h

within-cons : (p q : List ℕ → Bool) (c : ℕ) → ((w : List ℕ) → p (c ∷ w) ≡ q w) → (cs : List ℕ) (n : ℕ) → longest_within p (c ∷ cs) (suc n) ≡ grown (q []) (longest_within q cs n)
within-cons p q c e cs zero = ap (λ b. cond b 1 0) (e []) ∙ grown-zero (q [])
within-cons p q c e cs (suc n) =
    ap (λ b. cond b (suc (suc n)) (longest_within p (c ∷ cs) (suc n))) (e (take (suc n) cs))
    ∙ grow_step (q []) (q (take (suc n) cs)) n _ _ (within-cons p q c e cs n)

pub longest-cons : (p q : List ℕ → Bool) (c : ℕ) → ((w : List ℕ) → p (c ∷ w) ≡ q w) → (cs : List ℕ) → longest p (c ∷ cs) ≡ grown (q []) (longest q cs)
unfolding longest
longest-cons p q c e cs = within-cons p q c e cs (length cs)

pub longest-nil : (p : List ℕ → Bool) → longest p [] ≡ 0
unfolding longest
longest-nil p = refl

-- the same test
pub longest-same : (p q : List ℕ → Bool) → ((w : List ℕ) → p w ≡ q w) → (s : List ℕ) → longest p s ≡ longest q s
longest-same p q e s = λ i. longest (λ w. e w i) s

within-none : (p : List ℕ → Bool) → ((w : List ℕ) → p w ≡ false) → (s : List ℕ) (n : ℕ) → longest_within p s n ≡ 0
within-none p e s zero = refl
within-none p e s (suc n) = ap (λ b. cond b (suc n) (longest_within p s n)) (e _) ∙ within-none p e s n

pub longest-none : (p : List ℕ → Bool) → ((w : List ℕ) → p w ≡ false) → (s : List ℕ) → longest p s ≡ 0
unfolding longest
longest-none p e s = within-none p e s (length s)

within-le : (p : List ℕ → Bool) (s : List ℕ) (n : ℕ) → longest_within p s n ≤ n
within-le p s zero = omega arith
within-le p s (suc n) = cases (p (take (suc n) s)) (within-le p s n)
  where
    cases : (b : Bool) → longest_within p s n ≤ n → cond b (suc n) (longest_within p s n) ≤ suc n
    cases true h = omega arith
    cases false h = omega arith

pub longest-le : (p : List ℕ → Bool) (s : List ℕ) → longest p s ≤ length s
unfolding longest
longest-le p s = within-le p s (length s)

-- either of two tests
max_cond : (a b : Bool) (n x y : ℕ) → x ≤ n → y ≤ n → cond (a || b) (suc n) (max x y) ≡ max (cond a (suc n) x) (cond b (suc n) y)
max_cond true true n x y h k = omega arith
max_cond true false n x y h k = omega arith
max_cond false true n x y h k = omega arith
max_cond false false n x y h k = refl

within-or : (p q : List ℕ → Bool) (s : List ℕ) (n : ℕ) → longest_within (λ w. p w || q w) s n ≡ max (longest_within p s n) (longest_within q s n)
within-or p q s zero = omega arith
within-or p q s (suc n) =
    ap (λ m. cond (p (take (suc n) s) || q (take (suc n) s)) (suc n) m) (within-or p q s n)
    ∙ max_cond (p (take (suc n) s)) (q (take (suc n) s)) n _ _ (within-le p s n) (within-le q s n)

pub longest-or : (p q : List ℕ → Bool) (s : List ℕ) → longest (λ w. p w || q w) s ≡ max (longest p s) (longest q s)
unfolding longest
longest-or p q s = within-or p q s (length s)

-- a prefix that is at least as long as the longest passes exactly where it is the longest
same_or_below : (a b : ℕ) → suc a ≤ suc b → (suc a ≤ b) ⊎ (suc a ≡ suc b)
same_or_below a b k = ⊎_elim (λ lt. inl (omega arith)) (λ ge. inr (omega arith)) (cases_lt a b)

passes_step : (p : List ℕ → Bool) (s : List ℕ) (m n l : ℕ) (b : Bool) → l ≤ m → p (take (suc m) s) ≡ b → cond b (suc m) l ≤ suc n → suc n ≤ suc m
    → (l ≤ suc n → suc n ≤ m → p (take (suc n) s) ≡ eqb l (suc n)) → p (take (suc n) s) ≡ eqb (cond b (suc m) l) (suc n)
passes_step p s m n l true below e h k again =
    let same : suc n ≡ suc m = omega arith in
    ap (λ i. p (take i s)) same ∙ e ∙ sym (eq-eqb (suc m) (suc n) (sym same))
passes_step p s m n l false below e h k again =
    ⊎_elim (λ le. again h le) (λ eq. ap (λ i. p (take i s)) eq ∙ e ∙ sym (ne_eqb l (suc n) (λ f. absurd (omega arith)))) (same_or_below n m k)

within-passes : (p : List ℕ → Bool) (s : List ℕ) (m n : ℕ) → longest_within p s m ≤ suc n → suc n ≤ m → p (take (suc n) s) ≡ eqb (longest_within p s m) (suc n)
within-passes p s zero n h k = absurd (omega arith)
within-passes p s (suc m) n h k = passes_step p s m n _ (p (take (suc m) s)) (within-le p s m) refl h k (within-passes p s m n)

pub longest-passes : (p : List ℕ → Bool) (s : List ℕ) (n : ℕ) → longest p s ≤ n → 0 < n → n ≤ length s → p (take n s) ≡ eqb (longest p s) n
unfolding longest
longest-passes p s zero h k l = absurd (omega arith)
longest-passes p s (suc n) h k l = within-passes p s (length s) n h l

-- bytes that all pass
all_and : (q : ℕ → Bool) (b : Bool) (c : ℕ) (cs : List ℕ) → q c ≡ b → longest (list_all q) cs ≡ prefix_len q cs → longest (list_all q) (c ∷ cs) ≡ cond b (1 + prefix_len q cs) 0
all_and q true c cs e h =
    longest-cons (list_all q) (list_all q) c (λ w. ap (λ b. b && list_all q w) e) cs ∙ ap suc h ∙ omega arith
all_and q false c cs e h =
    longest-cons (list_all q) (λ w. false) c (λ w. ap (λ b. b && list_all q w) e) cs ∙ ap (grown false) (longest-none (λ w. false) (λ w. refl) cs)

pub longest-list_all : (q : ℕ → Bool) (s : List ℕ) → longest (list_all q) s ≡ prefix_len q s
longest-list_all q [] = longest-nil (list_all q)
longest-list_all q (c ∷ cs) = all_and q (q c) c cs refl (longest-list_all q cs)

-- a first byte that must pass, and a test of the rest
pub longest-first : (p q : List ℕ → Bool) (b : Bool) (c : ℕ) → ((w : List ℕ) → p (c ∷ w) ≡ (b && q w)) → (cs : List ℕ) → longest p (c ∷ cs) ≡ cond b (grown (q []) (longest q cs)) 0
longest-first p q true c e cs = longest-cons p q c e cs
longest-first p q false c e cs = longest-cons p (λ w. false) c e cs ∙ ap (grown false) (longest-none (λ w. false) (λ w. refl) cs)

-- the same at a list whose first element is read by its index
abbrev pub first : List ℕ → ℕ
first s = get_or s 0 0

abbrev pub tail : List ℕ → List ℕ
tail s = take (length s - 1) (drop 1 s)

pub longest_short : (p : List ℕ → Bool) (s : List ℕ) → length s < 1 → 0 ≡ longest p s
longest_short p [] h = sym (longest-nil p)
longest_short p (c ∷ cs) h = absurd (omega arith)

tail_is : (c : ℕ) (cs : List ℕ) → cs ≡ tail (c ∷ cs)
tail_is c cs = sym (ap (λ n. take n cs) (omega arith) ∙ take_all (length cs) cs (omega arith))

pub first_prefix : (p q : List ℕ → Bool) (f : ℕ → Bool) → ((c : ℕ) (w : List ℕ) → p (c ∷ w) ≡ (f c && q w)) → (s : List ℕ) → 1 ≤ length s → longest p s ≡ cond (f (first s)) (grown (q []) (longest q (tail s))) 0
first_prefix p q f e [] h = absurd (omega arith)
first_prefix p q f e (c ∷ cs) h = longest-first p q (f c) c (e c) cs ∙ ap (λ l. cond (f c) (grown (q []) (longest q l)) 0) (tail_is c cs)

-- a test of the first byte chooses
pub choice_prefix : (p q r : List ℕ → Bool) (f g : ℕ → Bool) → ((c : ℕ) (w : List ℕ) → p (c ∷ w) ≡ cond (f c) (q w) (g c && r w)) → (s : List ℕ) → 1 ≤ length s
    → longest p s ≡ cond (f (first s)) (grown (q []) (longest q (tail s))) (cond (g (first s)) (grown (r []) (longest r (tail s))) 0)
choice_prefix p q r f g e [] h = absurd (omega arith)
choice_prefix p q r f g e (c ∷ cs) h =
    by_test (f c) (e c) ∙ ap (λ l. cond (f c) (grown (q []) (longest q l)) (cond (g c) (grown (r []) (longest r l)) 0)) (tail_is c cs)
  where
    by_test : (b : Bool) → ((w : List ℕ) → p (c ∷ w) ≡ cond b (q w) (g c && r w)) → longest p (c ∷ cs) ≡ cond b (grown (q []) (longest q cs)) (cond (g c) (grown (r []) (longest r cs)) 0)
    by_test true d = longest-cons p q c d cs
    by_test false d = longest-first p r (g c) c d cs

pub longest-agree : (p q : List ℕ → Bool) (c : ℕ) → ((w : List ℕ) → p (c ∷ w) ≡ q (c ∷ w)) → (cs : List ℕ) → longest p (c ∷ cs) ≡ longest q (c ∷ cs)
longest-agree p q c e cs = longest-cons p (λ w. q (c ∷ w)) c e cs ∙ sym (longest-cons q (λ w. q (c ∷ w)) c (λ w. refl) cs)

-- a byte may stand before what another test reads
pub may_prefix : (p q r : List ℕ → Bool) (f : ℕ → Bool) → ((c : ℕ) (w : List ℕ) → p (c ∷ w) ≡ cond (f c) (q w) (r (c ∷ w))) → (s : List ℕ) → 1 ≤ length s
    → longest p s ≡ cond (f (first s)) (grown (q []) (longest q (tail s))) (longest r s)
may_prefix p q r f e [] h = absurd (omega arith)
may_prefix p q r f e (c ∷ cs) h =
    by_test (f c) (e c) ∙ ap (λ l. cond (f c) (grown (q []) (longest q l)) (longest r (c ∷ cs))) (tail_is c cs)
  where
    by_test : (b : Bool) → ((w : List ℕ) → p (c ∷ w) ≡ cond b (q w) (r (c ∷ w))) → longest p (c ∷ cs) ≡ cond b (grown (q []) (longest q cs)) (longest r (c ∷ cs))
    by_test true d = longest-cons p q c d cs
    by_test false d = longest-agree p r c d cs

-- bytes that pass, and then what another test reads
abbrev pub over : ℕ → ℕ → ℕ
over n m = cond (eqb m 0) 0 (n + m)

over_suc : (n m : ℕ) → over n (suc m) ≡ n + suc m
over_suc n m = ap (λ b. cond b 0 (n + suc m)) (ne_eqb (suc m) 0 (λ e. absurd (omega arith)))

over_none : (m : ℕ) → m ≡ over 0 m
over_none zero = refl
over_none (suc m) = sym (over_suc 0 m ∙ omega arith)

over_more : (n m : ℕ) → grown false (over n m) ≡ over (1 + n) m
over_more n zero = refl
over_more n (suc m) =
    let less : n + suc m ≡ suc (n + m) = omega arith in
    let more : suc (suc (n + m)) ≡ 1 + n + suc m = omega arith in
    ap (grown false) (over_suc n m ∙ less) ∙ more ∙ sym (over_suc (1 + n) m)

pub run_prefix : (p q : List ℕ → Bool) (f : ℕ → Bool) → p [] ≡ false → ((c : ℕ) (w : List ℕ) → p (c ∷ w) ≡ cond (f c) (p w) (q (c ∷ w))) → (s : List ℕ)
    → longest p s ≡ over (prefix_len f s) (longest q (drop (prefix_len f s) s))
run_prefix p q f z e [] = longest-nil p ∙ ap (over 0) (sym (longest-nil q))
run_prefix p q f z e (c ∷ cs) = by_test (f c) (e c) (run_prefix p q f z e cs)
  where
    by_test : (b : Bool) → ((w : List ℕ) → p (c ∷ w) ≡ cond b (p w) (q (c ∷ w))) → longest p cs ≡ over (prefix_len f cs) (longest q (drop (prefix_len f cs) cs))
        → longest p (c ∷ cs) ≡ over (cond b (1 + prefix_len f cs) 0) (longest q (drop (cond b (1 + prefix_len f cs) 0) (c ∷ cs)))
    by_test true d h =
        longest-cons p p c d cs ∙ (λ i. grown (z i) (h i)) ∙ over_more (prefix_len f cs) (longest q (drop (prefix_len f cs) cs))
        ∙ ap (λ n. over (1 + prefix_len f cs) (longest q (drop n (c ∷ cs)))) (let e : suc (prefix_len f cs) ≡ 1 + prefix_len f cs = omega arith in e)
    by_test false d h = longest-agree p q c d cs ∙ over_none (longest q (c ∷ cs))

pub longest-is_nil : (s : List ℕ) → longest is_nil s ≡ 0
longest-is_nil [] = longest-nil is_nil
longest-is_nil (c ∷ cs) = longest-cons is_nil (λ w. false) c (λ w. refl) cs ∙ ap (grown false) (longest-none (λ w. false) (λ w. refl) cs)

pub one_prefix : (f : ℕ → Bool) (s : List ℕ) → 1 ≤ length s → longest (is_one f) s ≡ cond (f (first s)) 1 0
unfolding is_one
one_prefix f s h = first_prefix (is_one f) is_nil f (λ c w. refl) s h ∙ ap (λ n. cond (f (first s)) (suc n) 0) (longest-is_nil (tail s))

pub after_prefix : (k : ℕ) (p : List ℕ → Bool) (s : List ℕ) → 1 ≤ length s → longest (is_after k p) s ≡ cond (first s == k) (grown (p []) (longest p (tail s))) 0
unfolding is_after
after_prefix k p s h = first_prefix (is_after k p) p (λ c. c == k) (λ c w. refl) s h

-- ---- words

grow_word : (ws cs : List ℕ) → grown (is_word ws []) (cond (starts_with nat_eq cs ws) (length ws) 0) ≡ cond (starts_with nat_eq cs ws) (suc (length ws)) 0
grow_word [] cs = refl
grow_word (y ∷ ys) cs = by_test (starts_with nat_eq cs (y ∷ ys))
  where
    by_test : (b : Bool) → grown false (cond b (suc (length ys)) 0) ≡ cond b (suc (suc (length ys))) 0
    by_test true = refl
    by_test false = refl

cond_and : (a b : Bool) (n : ℕ) → cond a (cond b n 0) 0 ≡ cond (a && b) n 0
cond_and true b n = refl
cond_and false b n = refl

pub longest-is_word : (word s : List ℕ) → longest (is_word word) s ≡ cond (starts_with nat_eq s word) (length word) 0
longest-is_word [] [] = longest-nil (is_word [])
longest-is_word [] (c ∷ cs) = longest-cons (is_word []) (λ w. false) c (λ w. refl) cs ∙ ap (grown false) (longest-none (λ w. false) (λ w. refl) cs)
longest-is_word (x ∷ ws) [] = longest-nil (is_word (x ∷ ws))
longest-is_word (x ∷ ws) (c ∷ cs) =
    longest-first (is_word (x ∷ ws)) (is_word ws) (nat_eq x c) c (λ w. refl) cs
    ∙ ap (λ n. cond (nat_eq x c) n 0) (ap (grown (is_word ws [])) (longest-is_word ws cs) ∙ grow_word ws cs)
    ∙ cond_and (nat_eq x c) (starts_with nat_eq cs ws) (suc (length ws))

-- a word does not stand where a text begins with another byte
pub no_prefix : (word s : List ℕ) → begin_apart word s ≡ true → longest (is_word word) s ≡ 0
no_prefix [] s e = absurd cc
no_prefix (x ∷ ws) [] e = absurd cc
no_prefix (x ∷ ws) (c ∷ cs) e =
    longest-first (is_word (x ∷ ws)) (is_word ws) (nat_eq x c) c (λ w. refl) cs ∙ ap (λ b. cond b (grown (is_word ws []) (longest (is_word ws) cs)) 0) (differ (nat_eq x c) e)
  where
    differ : (b : Bool) → not b ≡ true → b ≡ false
    differ true h = absurd cc
    differ false h = refl

pub apart : (word s : List ℕ) → 1 ≤ length word → 1 ≤ length s → begin_apart word s ≡ not (first word == first s)
apart [] s h k = absurd (omega arith)
apart (x ∷ ws) [] h k = absurd (omega arith)
apart (x ∷ ws) (c ∷ cs) h k = refl

pub apart_from_none : (word s : List ℕ) → length s < 1 → begin_apart word s ≡ false
apart_from_none [] s h = refl
apart_from_none (x ∷ ws) [] h = refl
apart_from_none (x ∷ ws) (c ∷ cs) h = absurd (omega arith)

pub none_apart : (word s : List ℕ) → length word < 1 → begin_apart word s ≡ false
none_apart [] s h = refl
none_apart (x ∷ ws) s h = absurd (omega arith)

-- what the code knows: a number n of bytes that pass, and the m bytes that another test reads after them
pub run_then : (p q : List ℕ → Bool) (f : ℕ → Bool) → ((s : List ℕ) → longest p s ≡ over (prefix_len f s) (longest q (drop (prefix_len f s) s))) → (s : List ℕ) (n m : ℕ)
    → n ≡ prefix_len f s → m ≡ longest q (take (length s - n) (drop n s)) → over n m ≡ longest p s
run_then p q f e s n m a b =
    let cut : m ≡ longest q (drop n s) = b ∙ ap (longest q) (take_rest s n) in
    (λ i. over (a i) (cut i)) ∙ ap (λ k. over (prefix_len f s) (longest q (drop k s))) a ∙ sym (e s)

pub over_zero : (n m : ℕ) → m ≡ 0 → 0 ≡ over n m
over_zero n m e = sym (ap (over n) e)

pub over_some : (n m : ℕ) → (m ≡ 0 → ⊥) → n + m ≡ over n m
over_some n m e = sym (ap (λ b. cond b 0 (n + m)) (ne_eqb m 0 e))

-- in the form that the code's tests need
pub longest_word : (word s : List ℕ) → longest (is_word word) s ≡ cond (starts_with nat_eq s word) (length word) 0
longest_word = longest-is_word

pub over_grown : (i m : ℕ) → over i (grown false m) ≡ over (i + 1) m
over_grown i zero = refl
over_grown i (suc m) =
    let same : i + suc (suc m) ≡ i + 1 + suc m = omega arith in
    over_suc i (suc m) ∙ same ∙ sym (over_suc (i + 1) m)

pub over_start : (m : ℕ) → over 0 m ≡ m
over_start m = sym (over_none m)

pub over_found : (i m : ℕ) → i + suc m ≡ over i (suc m)
over_found i m = sym (over_suc i m)

-- Operators by their first byte.
use Rattle.std.proofs.Common.{◌≡◌, ℕ, suc, Bool, true, false, not, eqb, ◌&&◌, ◌||◌, List, [], ◌∷◌, length, ◌≤◌, refl, sym, ap, ◌∙◌, arith}
use Rattle.std.proofs.lemmas.Bool.{eqb-true, and_parts, and_right}
use Rattle.sv_tree.specs.declared.kind.Kind.{Kind}
use Rattle.std.specs.Prelude.{◌==◌}
use Rattle.std.specs.List.{list_all, list_any}
use Rattle.sv_tree.specs.Longest.{longest}
use Rattle.sv_tree.specs.Tokens.{is_nil, is_word, is_spelled, is_word_part, signs}
use Rattle.sv_lex.proofs.Prefixes.{longest-cons, longest-none, longest-is_nil, first}
use Rattle.sv_lex.specs.FirstBytes.{alone, is_alone, grown}

-- a word begins with a byte that may not stand in a name
abbrev begins_no_name : List ℕ → Bool
begins_no_name [] = false
begins_no_name (b ∷ bs) = not (is_word_part b)

abbrev all_begin_no_name : List (List ℕ × Kind) → Bool
all_begin_no_name [] = true
all_begin_no_name (x ∷ xs) = begins_no_name x.0 && all_begin_no_name xs

no_word : (word : List ℕ) (c : ℕ) (w : List ℕ) → begins_no_name word ≡ true → is_word_part c ≡ true → is_word word (c ∷ w) ≡ false
no_word [] c w h is = absurd cc
no_word (b ∷ bs) c w h is = go (eqb b c) refl
  where
    go : (e : Bool) → eqb b c ≡ e → (eqb b c && is_word bs w) ≡ false
    go true e = let p : b ≡ c = eqb-true b c e in absurd (cc (ap is_word_part p, h, is))
    go false e = rw e refl

no_spelled : (table : List (List ℕ × Kind)) (c : ℕ) (w : List ℕ) → all_begin_no_name table ≡ true → is_word_part c ≡ true → is_spelled table (c ∷ w) ≡ false
unfolding is_spelled
no_spelled [] c w h is = refl
no_spelled (x ∷ xs) c w h is =
    let p = and_parts (begins_no_name x.0) (all_begin_no_name xs) h in
    rw (no_word x.0 c w p.0 is, no_spelled xs c w p.1 is) refl

signs_begin_no_name : all_begin_no_name signs ≡ true
unfolding signs
signs_begin_no_name = refl

sign_none : (c : ℕ) (cs : List ℕ) → is_word_part c ≡ true → longest (is_spelled signs) (c ∷ cs) ≡ 0
sign_none c cs is = longest-cons (is_spelled signs) (λ w. false) c (λ w. no_spelled signs c w signs_begin_no_name is) cs ∙ ap (grown false) (longest-none (λ w. false) (λ w. refl) cs)

pub no_sign : (s : List ℕ) → 1 ≤ length s → is_word_part (first s) ≡ true → longest (is_spelled signs) s ≡ 0
no_sign [] some is = absurd (omega arith)
no_sign (c ∷ cs) some is = sign_none c cs is

-- ---- operators of one byte that begin no other

-- a word begins with this byte and goes on
abbrev goes_on : ℕ → List ℕ → Bool
goes_on c (b ∷ d ∷ bs) = eqb b c
goes_on c w = false

abbrev none_goes_on : ℕ → List (List ℕ × Kind) → Bool
none_goes_on c [] = true
none_goes_on c (x ∷ xs) = not (goes_on c x.0) && none_goes_on c xs

no_longer : (word : List ℕ) (c d : ℕ) (w : List ℕ) → not (goes_on c word) ≡ true → is_word word (c ∷ d ∷ w) ≡ false
no_longer [] c d w h = refl
no_longer (b ∷ []) c d w h = and_right (eqb b c) false refl
no_longer (b ∷ e ∷ bs) c d w h = go (eqb b c) h
  where
    go : (t : Bool) → not t ≡ true → (t && is_word (e ∷ bs) (d ∷ w)) ≡ false
    go true k = absurd cc
    go false k = refl

none_longer : (table : List (List ℕ × Kind)) (c d : ℕ) (w : List ℕ) → none_goes_on c table ≡ true → is_spelled table (c ∷ d ∷ w) ≡ false
unfolding is_spelled
none_longer [] c d w h = refl
none_longer (x ∷ xs) c d w h =
    let p = and_parts (not (goes_on c x.0)) (none_goes_on c xs) h in
    rw (no_longer x.0 c d w p.0, none_longer xs c d w p.1) refl

-- a byte is an operator, and begins no other
abbrev stands_alone : ℕ → Bool
stands_alone c = is_spelled signs (c ∷ []) && none_goes_on c signs

alone_stand : list_all stands_alone alone ≡ true
unfolding signs is_spelled
alone_stand = refl

passes_any : (q : ℕ → Bool) (ys : List ℕ) (c : ℕ) → list_all q ys ≡ true → list_any (λ y. c == y) ys ≡ true → q c ≡ true
passes_any q [] c h is = absurd cc
passes_any q (y ∷ ys) c h is =
    let p = and_parts (q y) (list_all q ys) h in
    go (eqb c y) refl p.0 (λ k. passes_any q ys c p.1 k)
  where
    go : (t : Bool) → eqb c y ≡ t → q y ≡ true → (list_any (λ z. c == z) ys ≡ true → q c ≡ true) → q c ≡ true
    go true e k more = ap q (eqb-true c y e) ∙ k
    go false e k more = more (sym (ap (λ b. b || list_any (λ z. c == z) ys) e) ∙ is)

nil_only : (c : ℕ) (w : List ℕ) → is_spelled signs (c ∷ []) ≡ true → none_goes_on c signs ≡ true → is_spelled signs (c ∷ w) ≡ is_nil w
nil_only c [] here more = here
nil_only c (d ∷ ds) here more = none_longer signs c d ds more

pub one_sign : (s : List ℕ) → 1 ≤ length s → is_alone (first s) ≡ true → longest (is_spelled signs) s ≡ 1
one_sign [] some is = absurd (omega arith)
one_sign (c ∷ cs) some is =
    let p = and_parts (is_spelled signs (c ∷ [])) (none_goes_on c signs) (passes_any stands_alone alone c alone_stand is) in
    longest-cons (is_spelled signs) is_nil c (λ w. nil_only c w p.0 p.1) cs ∙ ap suc (longest-is_nil cs)

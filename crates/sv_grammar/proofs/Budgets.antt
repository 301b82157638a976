-- Budgets, and what is known of parts of a grammar.
use Rattle.std.proofs.Common.{◌≡◌, ℕ, zero, suc, ◌≤◌, ◌<◌, Bool, true, false, cond, eqb, ◌||◌, List, [], ◌∷◌, ◌++◌, ◌⊎◌, inl, inr, refl, sym, ◌∙◌, arith}
use Rattle.std.proofs.lemmas.Bool.{eqb-true}
use Rattle.std.proofs.lemmas.List.{append-nil}
use Rattle.sv_grammar.specs.Code.{reach, larger, smaller, no, subset, pick, pick_lang, item_info}
use Rattle.sv_grammar.specs.Info.{Info, then_info, return_info}
use Rattle.sv_grammar.specs.Language.{Lang, Then, Return, Or, Run}
use Rattle.sv_grammar.specs.Tokens.{Tok, before, mem, Has}
use Rattle.sv_grammar.proofs.Answers.{disjoint_nil, no_true}
use Rattle.sv_grammar.proofs.Facts.{Facts, then_facts, return_facts, and_parts}
use Rattle.sv_grammar.proofs.Lists.{mem-left, mem-right}

-- ---- budgets

pub reach-le : (a d : ℕ) → reach a d ≡ true → a ≤ d
reach-le zero d e = omega arith
reach-le (suc a) zero e = absurd cc
reach-le (suc a) (suc d) e = let h = reach-le a d e in omega arith

pub le-reach : (a d : ℕ) → a ≤ d → reach a d ≡ true
le-reach zero d h = refl
le-reach (suc a) zero h = absurd (omega arith)
le-reach (suc a) (suc d) h = le-reach a d (omega arith)

pub larger_parts : (a b d : ℕ) → reach (larger a b) d ≡ true → (reach a d ≡ true) × (reach b d ≡ true)
larger_parts a b d = go (reach a b) refl
  where
    go : (c : Bool) → reach a b ≡ c → reach (cond c b a) d ≡ true → (reach a d ≡ true) × (reach b d ≡ true)
    go true e h = let p = reach-le a b e in let q = reach-le b d h in (le-reach a d (omega arith), h)
    go false e h = (h, le-reach b d (let q = reach-le a d h in small (le_total a b) q))
      where
        le_total : (a b : ℕ) → (a ≤ b) ⊎ (b ≤ a)
        le_total zero b = inl (omega arith)
        le_total (suc a) zero = inr (omega arith)
        le_total (suc a) (suc b) = elim (le_total a b) [ inl p ↦ inl (omega arith) | inr p ↦ inr (omega arith) ]

        small : (a ≤ b) ⊎ (b ≤ a) → a ≤ d → b ≤ d
        small (inl p) q = absurd (no_true (reach a b) (le-reach a b p) e)
        small (inr p) q = omega arith

pub larger_of : (a b d : ℕ) → reach a d ≡ true → reach b d ≡ true → reach (larger a b) d ≡ true
larger_of a b d p q = go (reach a b)
  where
    go : (c : Bool) → reach (cond c b a) d ≡ true
    go true = q
    go false = p

pub larger_right : (a b : ℕ) → a ≤ b → larger a b ≡ b
larger_right a b le = rw (le-reach a b le) refl

pub larger_left : (a b : ℕ) → b < a → larger a b ≡ a
larger_left a b lt = go (reach a b) refl
  where
    go : (c : Bool) → reach a b ≡ c → cond c b a ≡ a
    go true e = let h = reach-le a b e in absurd (omega arith)
    go false e = refl

pub bool_same : (a b : Bool) → (a ≡ true → b ≡ true) → (b ≡ true → a ≡ true) → a ≡ b
bool_same true b p q = sym (p refl)
bool_same false true p q = q refl
bool_same false false p q = refl

pub smaller_is : (a b d : ℕ) → (reach a d || reach b d) ≡ reach (smaller a b) d
smaller_is a b d = go (reach a b) refl
  where
    le_total : (a b : ℕ) → (a ≤ b) ⊎ (b ≤ a)
    le_total zero b = inl (omega arith)
    le_total (suc a) zero = inr (omega arith)
    le_total (suc a) (suc b) = elim (le_total a b) [ inl p ↦ inl (omega arith) | inr p ↦ inr (omega arith) ]

    left : (p q : Bool) → p ≡ true → (p || q) ≡ true
    left true q e = refl
    left false q e = absurd cc

    right : (p q : Bool) → q ≡ true → (p || q) ≡ true
    right true q e = refl
    right false q e = e

    some : (p q : Bool) → (p || q) ≡ true → (p ≡ true) ⊎ (q ≡ true)
    some true q e = inl refl
    some false q e = inr e

    low : (a ≤ b) ⊎ (b ≤ a) → reach a b ≡ false → b ≤ a
    low (inl p) e = absurd (no_true (reach a b) (le-reach a b p) e)
    low (inr p) e = p

    go : (c : Bool) → reach a b ≡ c → (reach a d || reach b d) ≡ reach (cond c a b) d
    go true e = bool_same _ _ (λ h. elim (some (reach a d) (reach b d) h) [ inl p ↦ p | inr p ↦ (let x = reach-le a b e in let y = reach-le b d p in le-reach a d (omega arith)) ]) (left (reach a d) (reach b d))
    go false e = bool_same _ _ (λ h. elim (some (reach a d) (reach b d) h) [ inl p ↦ (let x = low (le_total a b) e in let y = reach-le a d p in le-reach b d (omega arith)) | inr p ↦ p ]) (right (reach a d) (reach b d))

pub not_true : (b : Bool) → no b ≡ true → b ≡ false
not_true true e = absurd cc
not_true false e = refl

-- what begins the texts of a part with a value after it
pub first_kept : (i : Info) → (then_info i return_info).first ≡ i.first
first_kept i = go i.null
  where
    go : (b : Bool) → cond b (i.first ++ []) i.first ≡ i.first
    go true = append-nil i.first
    go false = refl

pub low_null : (b : Bool) (n d : ℕ) → cond b (eqb n 0) true ≡ true → b ≡ true → reach n d ≡ true
low_null true n d h e = let z : n ≡ 0 = eqb-true n 0 h in rw z refl
low_null false n d h e = absurd cc

pub or_true : (a : Bool) → (a || true) ≡ true
or_true true = refl
or_true false = refl

-- a value made of what was read
pub made_facts : {A B : Type 0} (f : A → B) (L : Lang A) (i : Info) (on : Bool) → Facts L i on → Facts (Then L (λ x. Return (f x))) (then_info i return_info) on
made_facts f L i on g = then_facts L (λ x. Return (f x)) i return_info on (λ x. true) on g (λ x. return_facts (f x)) (disjoint_nil i.cont) (λ e. (e, λ x u n w. refl)) (λ x u n w e. g.dead x u n w)

pub reach_more : (a d e : ℕ) → d ≤ e → reach a d ≡ true → reach a e ≡ true
reach_more a d e le h = let p = reach-le a d h in le-reach a e (omega arith)

-- more texts of a part make more texts
abbrev pub Sub : {A : Type 0} → Lang A → Lang A → Type 0
Sub {A} L M = (a : A) (u : List Tok) (n : Tok) → L a u n → M a u n

pub then_sub : {A B : Type 0} (L L2 : Lang A) (M M2 : A → Lang B) → Sub L L2 → ((x : A) → Sub (M x) (M2 x)) → Sub (Then L M) (Then L2 M2)
then_sub L L2 M M2 f g b u n w = record { value = w.value; left = w.left; right = w.right; parts = w.parts; one = f w.value w.left (before w.right n) w.one; two = g w.value b w.right n w.two }

pub run_sub : {S A : Type 0} (test test2 : S → Bool) (step : S → A → S) (L L2 : S → Lang A) → ((s : S) → test s ≡ true → test2 s ≡ true) → ((s : S) → Sub (L s) (L2 s)) → (s : S) → Sub (Run test step L s) (Run test2 step L2 s)
run_sub test test2 step L L2 t f s [] u n w = w
run_sub test test2 step L L2 t f s (x ∷ xs) u n w = (t s w.0, w.1, w.2, w.3, f s x w.1 (before w.2 n) w.4, run_sub test test2 step L L2 t f (step s x) xs w.2 n w.5)

pub pick_sub : {A : Type 0} (L L2 M M2 : Lang A) → Sub L L2 → Sub M M2 → (s : Bool) → Sub (pick_lang s L M) (pick_lang s L2 M2)
pick_sub L L2 M M2 f g true = f
pick_sub L L2 M M2 f g false = g

pub or_sub : {A : Type 0} (L L2 M M2 : Lang A) → Sub L L2 → Sub M M2 → Sub (Or L M) (Or L2 M2)
or_sub L L2 M M2 f g a u n (inl w) = inl (f a u n w)
or_sub L L2 M M2 f g a u n (inr w) = inr (g a u n w)

-- what is known, told of larger sets
pub wider : {A : Type 0} (L : Lang A) (i j : Info) (on : Bool) → ((t : Tok) → Has i.first t → Has j.first t) → ((t : Tok) → Has i.cont t → Has j.cont t) → i.null ≡ j.null → Facts L i on → Facts L j on
wider L i j on f g null h = record {
  starts = λ a t u n w. f t (h.starts a t u n w);
  empty = λ a n w. sym null ∙ h.empty a n w;
  goes_on = λ a u t w v. g t (h.goes_on a u t w v);
  unique = h.unique;
  live = h.live;
  dead = h.dead;
  skip = λ e e2 t out. h.skip e (null ∙ e2) t (λ x. out (f t x));
}

pub within : (k : ℕ) (xs ys : List ℕ) → subset xs ys ≡ true → mem k xs ≡ true → mem k ys ≡ true
within k [] ys h m = absurd cc
within k (x ∷ xs) ys h m = go (eqb k x) refl m (λ a b. within k xs ys a b)
  where
    p : (mem x ys ≡ true) × (subset xs ys ≡ true)
    p = and_parts (mem x ys) (subset xs ys) h

    go : (b : Bool) → eqb k x ≡ b → cond b true (mem k xs) ≡ true → (subset xs ys ≡ true → mem k xs ≡ true → mem k ys ≡ true) → mem k ys ≡ true
    go true e m f = let q : k ≡ x = eqb-true k x e in rw q p.0
    go false e m f = f p.1 m

-- what is known, told of other sets
pub recast : {A : Type 0} (L : Lang A) (i j : Info) (on on2 : Bool) → subset i.first j.first ≡ true → subset j.first i.first ≡ true → subset i.cont j.cont ≡ true → i.null ≡ j.null → on ≡ on2 → Facts L i on → Facts L j on2
recast L i j on on2 sub1 sub2 sub3 null same f = record {
  starts = λ a t u n w. within t.code i.first j.first sub1 (f.starts a t u n w);
  empty = λ a n w. sym null ∙ f.empty a n w;
  goes_on = λ a u t w v. within t.code i.cont j.cont sub3 (f.goes_on a u t w v);
  unique = f.unique;
  live = λ e. f.live (same ∙ e);
  dead = λ a u n w. sym same ∙ f.dead a u n w;
  skip = λ e e2 t out. f.skip (same ∙ e) (null ∙ e2) t (λ h. out (within t.code i.first j.first sub1 h));
}

pub item_facts : {A : Type 0} (L M : Lang A) (i j : Info) (on1 on2 : Bool) → Facts L i on1 → Facts M j on2 → i.null ≡ false → j.null ≡ false → subset j.first i.first ≡ true → (s : Bool) → Facts (pick_lang s M L) (item_info i j) (pick s on2 on1)
item_facts L M i j on1 on2 f g full1 full2 sub true = wider M j (item_info i j) on2 (λ t h. within t.code j.first i.first sub h) (λ t h. mem-right t.code i.cont j.cont h) full2 g
item_facts L M i j on1 on2 f g full1 full2 sub false = wider L i (item_info i j) on1 (λ t h. h) (λ t h. mem-left t.code i.cont j.cont h) full1 f

-- The answer is the only one: what is a text, and can't go on, is read.
use Rattle.std.proofs.Common.{◌≡◌, ℕ, ◌+◌, Bool, false, List, [], ◌∷◌, ◌++◌, Ok, Err, inl, inr, sym, ap, subst, ◌∙◌, append_assoc, arith}
use Rattle.std.proofs.lemmas.List.{append-nil}
use Rattle.sv_grammar.specs.Tokens.{Tok, blank, next, mem}
use Rattle.sv_grammar.specs.Info.{Info}
use Rattle.sv_grammar.specs.Language.{Lang, Then, Or, Open, Prefix, Never, TooDeep, Unexpected, Out, Answer}
use Rattle.sv_grammar.proofs.Lists.{Meet, same, longer, shorter, meet}
use Rattle.sv_grammar.proofs.Facts.{prefix_of}
use Rattle.sv_grammar.proofs.Answers.{Grammar, no_true}

open_prefix : {A : Type 0} (L : Lang A) (u f : List Tok) (h : Tok) (z : List Tok) → f ≡ u ++ h ∷ z → Open L f → Prefix L (u ++ h ∷ [])
open_prefix L u f h z e o = prefix_of L o.0 u h (z ++ o.1) blank (subst (λ (v : List Tok). L o.0 v blank) (ap (λ (v : List Tok). v ++ o.1) e ∙ append_assoc u (h ∷ z) o.1) (o.2 blank))

pub complete : {A : Type 0} (l : ℕ → Lang A) (i : Info) (on : ℕ → Bool) → Grammar l i on → (d : ℕ) (ts : List Tok) (out : Out A) → Answer l d ts out → (a : A) (u rest : List Tok) → ts ≡ u ++ rest → l d a u (next rest) → Never l (u ++ next rest ∷ []) → out ≡ Ok (a, rest)
complete {A = A} l i on g d ts (Ok x) c a u rest parts word never = go (meet u rest c.prefix x.1 (sym parts ∙ c.parts))
  where
    took : A × List Tok → Out A
    took y = Ok y

    go : Meet u rest c.prefix x.1 → took x ≡ took (a, rest)
    go (same p q) =
        let w : l d x.0 u (next rest) = subst (λ (v : List Tok). l d x.0 u (next v)) (sym q) (subst (λ (v : List Tok). l d x.0 v (next x.1)) (sym p) c.word) in
        let e : x.0 ≡ a = (g.facts d).unique x.0 a u (next rest) w word in
        let r : x.1 ≡ rest = sym q in
        ap (λ (b : A). took (b, x.1)) e ∙ ap (λ (v : List Tok). took (a, v)) r
    go (longer h z p q) = absurd (never d (subst (λ (k : Tok). Prefix (l d) (u ++ k ∷ [])) (sym (ap next q)) (open_prefix (l d) u c.prefix h z p c.viable)))
    go (shorter h z p q) = absurd (c.stops d (subst (λ (k : Tok). Prefix (l d) (c.prefix ++ k ∷ [])) (sym (ap next q)) (prefix_of (l d) a c.prefix h z (next rest) (subst (λ (v : List Tok). l d a v (next rest)) p word))))
complete l i on g d ts (Err (TooDeep r)) c a u rest parts word never = absurd (go (meet u rest c.prefix r (sym parts ∙ c.parts)))
  where
    go : Meet u rest c.prefix r → ⊥
    go (same p q) =
        let o : Open (l c.deeper.0) (u ++ next rest ∷ []) = subst (λ (v : List Tok). Open (l c.deeper.0) (u ++ next v ∷ [])) (sym q) (subst (λ (v : List Tok). Open (l c.deeper.0) (v ++ next r ∷ [])) (sym p) c.deeper.1) in
        never c.deeper.0 (o.0, o.1, blank, o.2 blank)
    go (longer h z p q) = never d (subst (λ (k : Tok). Prefix (l d) (u ++ k ∷ [])) (sym (ap next q)) (open_prefix (l d) u c.prefix h z p c.viable))
    go (shorter h z p q) = c.shut (subst (λ (k : Tok). Prefix (l d) (c.prefix ++ k ∷ [])) (sym (ap next q)) (prefix_of (l d) a c.prefix h z (next rest) (subst (λ (v : List Tok). l d a v (next rest)) p word)))
complete l i on g d ts (Err (Unexpected r)) c a u rest parts word never = absurd (go (meet u rest c.prefix r (sym parts ∙ c.parts)))
  where
    go : Meet u rest c.prefix r → ⊥
    go (same p q) = c.no_text d a (subst (λ (v : List Tok). l d a v (next r)) p (subst (λ (v : List Tok). l d a u (next v)) q word))
    go (longer h z p q) = never d (subst (λ (k : Tok). Prefix (l d) (u ++ k ∷ [])) (sym (ap next q)) (open_prefix (l d) u c.prefix h z p c.viable))
    go (shorter h z p q) = c.stops d (subst (λ (k : Tok). Prefix (l d) (c.prefix ++ k ∷ [])) (sym (ap next q)) (prefix_of (l d) a c.prefix h z (next rest) (subst (λ (v : List Tok). l d a v (next rest)) p word)))

-- a text that is all of the tokens is read
pub whole : {A : Type 0} (l : ℕ → Lang A) (i : Info) (on : ℕ → Bool) → Grammar l i on → mem 0 i.cont ≡ false → (d : ℕ) (ts : List Tok) (out : Out A) → Answer l d ts out → (a : A) → l d a ts blank → out ≡ Ok (a, [])
whole l i on g nil d ts out c a word =
    complete l i on g d ts out c a ts [] (sym (append-nil ts)) word (λ e w.
    let k = d + e in
    no_true (mem 0 i.cont) ((g.facts k).goes_on a ts blank (g.mono d k (omega arith) a ts blank word) (w.0, w.1, w.2, g.mono e k (omega arith) w.0 ((ts ++ blank ∷ []) ++ w.1) w.2 w.3)) nil)

-- ---- alternatives that begin alike have the texts of the part and then one or the other

pub factored : {A B : Type 0} (L : Lang A) (M N : A → Lang B) (b : B) (u : List Tok) (n : Tok) → Or (Then L M) (Then L N) b u n → Then L (λ x. Or (M x) (N x)) b u n
factored L M N b u n (inl w) = record { value = w.value; left = w.left; right = w.right; parts = w.parts; one = w.one; two = inl w.two }
factored L M N b u n (inr w) = record { value = w.value; left = w.left; right = w.right; parts = w.parts; one = w.one; two = inr w.two }

pub unfactored : {A B : Type 0} (L : Lang A) (M N : A → Lang B) (b : B) (u : List Tok) (n : Tok) → Then L (λ x. Or (M x) (N x)) b u n → Or (Then L M) (Then L N) b u n
unfactored L M N b u n w = go w.two
  where
    go : Or (M w.value) (N w.value) b w.right n → Or (Then L M) (Then L N) b u n
    go (inl v) = inl (record { value = w.value; left = w.left; right = w.right; parts = w.parts; one = w.one; two = v })
    go (inr v) = inr (record { value = w.value; left = w.left; right = w.right; parts = w.parts; one = w.one; two = v })

-- a reader answers at once where no text begins so
pub not_begun : {A : Type 0} (l : ℕ → Lang A) (i : Info) (on : ℕ → Bool) → Grammar l i on → i.null ≡ false → (d : ℕ) (ts : List Tok) (out : Out A) → Answer l d ts out → mem (next ts).code i.first ≡ false → out ≡ Err (Unexpected ts)
not_begun l i on g full d ts (Ok x) c no_ = absurd (go c.prefix c.parts c.word)
  where
    go : (u : List Tok) → ts ≡ u ++ x.1 → l d x.0 u (next x.1) → ⊥
    go [] p w = no_true i.null ((g.facts d).empty x.0 (next x.1) w) full
    go (k ∷ u) p w = no_true (mem k.code i.first) ((g.facts d).starts x.0 k u (next x.1) w) (subst (λ (t : Tok). mem t.code i.first ≡ false) (ap next p) no_)
not_begun l i on g full d ts (Err (TooDeep r)) c no_ = absurd (go c.prefix c.parts c.deeper.1)
  where
    go : (u : List Tok) → ts ≡ u ++ r → Open (l c.deeper.0) (u ++ next r ∷ []) → ⊥
    go [] p o = no_true (mem (next r).code i.first) ((g.facts c.deeper.0).starts o.0 (next r) o.1 blank (o.2 blank)) (subst (λ (v : List Tok). mem (next v).code i.first ≡ false) p no_)
    go (k ∷ u) p o = no_true (mem k.code i.first) ((g.facts c.deeper.0).starts o.0 k ((u ++ next r ∷ []) ++ o.1) blank (o.2 blank)) (subst (λ (t : Tok). mem t.code i.first ≡ false) (ap next p) no_)
not_begun {A = A} l i on g full d ts (Err (Unexpected r)) c no_ = go c.prefix c.parts c.viable
  where
    unexpected : List Tok → Out A
    unexpected v = Err (Unexpected v)

    go : (u : List Tok) → ts ≡ u ++ r → Open (l d) u → unexpected r ≡ unexpected ts
    go [] p o = ap unexpected (sym p)
    go (k ∷ u) p o = absurd (no_true (mem k.code i.first) ((g.facts d).starts o.0 k (u ++ o.1) blank (o.2 blank)) (subst (λ (t : Tok). mem t.code i.first ≡ false) (ap next p) no_))

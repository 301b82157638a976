-- What a reader of a language has to answer, and readers of one token, of none, and of one text after another.
use Rattle.std.proofs.Common.{◌≡◌, ℕ, zero, suc, ◌+◌, ◌≤◌, Bool, true, false, cond, ◌&&◌, ◌||◌, List, [], ◌∷◌, ◌++◌, Ok, Err, ◌⊎◌, inl, inr, refl, sym, ap, subst, ◌∙◌, append_assoc, arith}
use Rattle.std.proofs.lemmas.List.{append-nil}
use Rattle.sv_grammar.specs.Info.{Info, then_info, return_info, one_info, is_some_kind}
use Rattle.sv_grammar.specs.Language.{Lang, Then, OneOf, Return, Below, Open, Prefix, Never, TooDeep, Unexpected, Reads, IsUnexpected, Out, Answer}
use Rattle.sv_grammar.specs.Reading.{◌>>=◌, one_of}
use Rattle.sv_grammar.specs.Tokens.{Tok, blank, next, before, mem, disjoint, Has}
use Rattle.sv_grammar.proofs.Facts.{Facts, prefix_of, past, cut, then_facts, one_facts, return_facts}
use Rattle.sv_grammar.proofs.Lists.{Meet, same, longer, shorter, meet, next-append, mem-append, apart}

-- a language at each budget
pub record Grammar {A : Type 0} (l : ℕ → Lang A) (i : Info) (on : ℕ → Bool) : Type 0 where
  pub facts : (d : ℕ) → Facts (l d) i (on d)
  pub mono : (d e : ℕ) → d ≤ e → (a : A) (u : List Tok) (n : Tok) → l d a u n → l e a u n
  pub high : (e : ℕ) → (k : ℕ) × (e ≤ k) × (on k ≡ true)

-- each of the kinds begins a text
abbrev pub Begins : {A : Type 0} → (ℕ → Lang A) → Info → Type 0
Begins l i = (t : Tok) → Has i.first t → (e : ℕ) × Open (l e) (t ∷ [])

pub open_mono : {A : Type 0} (l : ℕ → Lang A) (i : Info) (on : ℕ → Bool) → Grammar l i on → (d e : ℕ) → d ≤ e → (p : List Tok) → Open (l d) p → Open (l e) p
open_mono l i on g d e le p o = (o.0, o.1, λ n. g.mono d e le o.0 (p ++ o.1) n (o.2 n))

pub prefix_mono : {A : Type 0} (l : ℕ → Lang A) (i : Info) (on : ℕ → Bool) → Grammar l i on → (d e : ℕ) → d ≤ e → (p : List Tok) → Prefix (l d) p → Prefix (l e) p
prefix_mono l i on g d e le p o = (o.0, o.1, o.2, g.mono d e le o.0 (p ++ o.1) o.2 o.3)

pub prefix_open : {A : Type 0} (L : Lang A) (p : List Tok) → Open L p → Prefix L p
prefix_open L p o = (o.0, o.1, blank, o.2 blank)

-- ---- tests

pub or_left : (a b : Bool) → a ≡ true → (a || b) ≡ true
or_left true b e = refl
or_left false b e = absurd cc

pub or_right : (a b : Bool) → b ≡ true → (a || b) ≡ true
or_right true b e = refl
or_right false b e = e

pub or_else : (a b : Bool) → (a || b) ≡ true → a ≡ false → b ≡ true
or_else true b e f = absurd cc
or_else false b e f = e

pub no_true : (b : Bool) → b ≡ true → b ≡ false → ⊥
no_true true p q = absurd cc
no_true false p q = absurd cc

pub both_true : (a b : Bool) → a ≡ true → b ≡ true → (a && b) ≡ true
both_true true b e f = f
both_true false b e f = absurd cc

pub disjoint_nil : (xs : List ℕ) → disjoint xs [] ≡ true
disjoint_nil [] = refl
disjoint_nil (x ∷ xs) = disjoint_nil xs

-- ---- one after the other

abbrev pub Seq : {A B : Type 0} → (ℕ → Lang A) → (A → ℕ → Lang B) → ℕ → Lang B
Seq l m d = Then (l d) (λ x. m x d)

-- what both parts owe
pub record Parts {A B : Type 0} (l : ℕ → Lang A) (m : A → ℕ → Lang B) (i j : Info) (on1 : ℕ → Bool) (on2 : A → ℕ → Bool) (on : ℕ → Bool) : Type 0 where
  pub left : Grammar l i on1
  pub right : (x : A) → Grammar (m x) j (on2 x)
  pub apart_ : disjoint i.cont j.first ≡ true
  pub up : (d : ℕ) → on d ≡ true → (on1 d ≡ true) × ((x : A) (u : List Tok) (n : Tok) → l d x u n → on2 x d ≡ true)
  pub down : (d : ℕ) (x : A) (u : List Tok) (n : Tok) → l d x u n → on2 x d ≡ true → on d ≡ true
  pub both_high : (e : ℕ) → (k : ℕ) × (e ≤ k) × (on k ≡ true)

seq_mono : {A B : Type 0} (l : ℕ → Lang A) (m : A → ℕ → Lang B) (i j : Info) (on1 : ℕ → Bool) (on2 : A → ℕ → Bool) → Grammar l i on1 → ((x : A) → Grammar (m x) j (on2 x)) → (d e : ℕ) → d ≤ e → (b : B) (u : List Tok) (n : Tok) → Seq l m d b u n → Seq l m e b u n
seq_mono l m i j on1 on2 f g d e le b u n w = record { value = w.value; left = w.left; right = w.right; parts = w.parts; one = f.mono d e le w.value w.left (before w.right n) w.one; two = (g w.value).mono d e le b w.right n w.two }

open_seq : {A B : Type 0} (l : ℕ → Lang A) (m : A → ℕ → Lang B) (j : Info) (on2 : A → ℕ → Bool) → ((x : A) → Grammar (m x) j (on2 x)) → (d : ℕ) → ((x : A) (u : List Tok) (n : Tok) → l d x u n → on2 x d ≡ true) → (u : List Tok) → Open (l d) u → Open (Seq l m d) u
open_seq l m j on2 g d alive u o =
    let y = ((g o.0).facts d).live (alive o.0 (u ++ o.1) blank (o.2 blank)) in
    (y.0, o.1 ++ y.1, λ n. record { value = o.0; left = u ++ o.1; right = y.1; parts = sym (append_assoc u o.1 y.1); one = o.2 (before y.1 n); two = y.2 n })

-- a null first part is passed over where the second begins
pub seq_begins : {A B : Type 0} (l : ℕ → Lang A) (m : A → ℕ → Lang B) (i j : Info) (on1 : ℕ → Bool) (on2 : A → ℕ → Bool) (on : ℕ → Bool) → Parts l m i j on1 on2 on → Begins l i → (i.null ≡ true → (x : A) → Begins (m x) j) → Begins (Seq l m) (then_info i j)
seq_begins l m i j on1 on2 on p bl br t h = go i.null refl h (mem t.code i.first) refl
  where
    left : Has i.first t → (e : ℕ) × Open (Seq l m e) (t ∷ [])
    left h = let b = bl t h in let k = p.both_high b.0 in (k.0, open_seq l m j on2 p.right k.0 (p.up k.0 k.2).1 (t ∷ []) (open_mono l i on1 p.left b.0 k.0 k.1 (t ∷ []) b.1))

    right : i.null ≡ true → (Has i.first t → ⊥) → Has j.first t → (e : ℕ) × Open (Seq l m e) (t ∷ [])
    right null no_ h =
        let k0 = p.both_high 0 in
        let x0 = (p.left.facts k0.0).skip (p.up k0.0 k0.2).0 null t no_ in
        let b = br null x0.0 t h in
        let k = p.both_high (k0.0 + b.0) in
        let o = open_mono (m x0.0) j (on2 x0.0) (p.right x0.0) b.0 k.0 (omega (arith, k.1)) (t ∷ []) b.1 in
        (k.0, (o.0, o.1, λ n. record { value = x0.0; left = []; right = t ∷ o.1; parts = refl; one = p.left.mono k0.0 k.0 (omega (arith, k.1)) x0.0 [] t x0.1; two = o.2 n }))

    go : (b : Bool) → i.null ≡ b → mem t.code (cond b (i.first ++ j.first) i.first) ≡ true → (c : Bool) → mem t.code i.first ≡ c → (e : ℕ) × Open (Seq l m e) (t ∷ [])
    go b e h true q = left q
    go false e h false q = left h
    go true e h false q = right e (λ has. absurd cc) (elim (mem-append t.code i.first j.first h) [ inl a ↦ absurd cc | inr a ↦ a ])

pub seq_grammar : {A B : Type 0} (l : ℕ → Lang A) (m : A → ℕ → Lang B) (i j : Info) (on1 : ℕ → Bool) (on2 : A → ℕ → Bool) (on : ℕ → Bool) → Parts l m i j on1 on2 on → Grammar (Seq l m) (then_info i j) on
seq_grammar l m i j on1 on2 on p = record {
  facts = λ d. then_facts (l d) (λ x. m x d) i j (on1 d) (λ x. on2 x d) (on d) (p.left.facts d) (λ x. (p.right x).facts d) p.apart_ (p.up d) (p.down d);
  mono = seq_mono l m i j on1 on2 p.left p.right;
  high = p.both_high;
}

-- after a text x of the first part, before h, what is left is a text of the second
locate : {A B : Type 0} (l : ℕ → Lang A) (m : A → ℕ → Lang B) (i j : Info) (on1 : ℕ → Bool) (on2 : A → ℕ → Bool) (on : ℕ → Bool) → Parts l m i j on1 on2 on
    → (d e k : ℕ) → d ≤ k → e ≤ k → (x : A) (u : List Tok) (h : Tok) (b : B) (s : List Tok) (n : Tok)
    → l d x u h → before s n ≡ h → ((z : List Tok) → s ≡ h ∷ z → (Prefix (l k) (u ++ h ∷ []) → ⊥) ⊎ (Has j.first h))
    → Seq l m e b (u ++ s) n → m x k b s n
locate l m i j on1 on2 on p d e k dk ek x u h b s n one is stop w =
    cut (l k) (λ x. m x k) i j (on1 k) (p.left.facts k) (λ x. ((p.right x).facts k).starts) p.apart_ x u h b s n (p.left.mono d k dk x u h one) is stop (seq_mono l m i j on1 on2 p.left p.right e k ek b (u ++ s) n w)

-- where the first part can't go on with h and does not end before an h with which the second begins
blocked : {A B : Type 0} (l : ℕ → Lang A) (m : A → ℕ → Lang B) (i j : Info) (on1 : ℕ → Bool) (on2 : A → ℕ → Bool) (on : ℕ → Bool) → Parts l m i j on1 on2 on
    → (d e : ℕ) (u : List Tok) (h : Tok) → Open (l d) u → (Prefix (l e) (u ++ h ∷ []) → ⊥) → ((x : A) → l e x u h → Has j.first h → ⊥)
    → Prefix (Seq l m e) (u ++ h ∷ []) → ⊥
blocked l m i j on1 on2 on p d e u h o shut ends w = go (meet u (h ∷ w.1) w.3.left w.3.right (sym (append_assoc u (h ∷ []) w.1) ∙ w.3.parts))
  where
    go : Meet u (h ∷ w.1) w.3.left w.3.right → ⊥
    go (same q r) =
        let one = subst (λ (v : List Tok). l e w.3.value v (before w.3.right w.2)) (sym q) w.3.one in
        ends w.3.value (subst (λ (v : List Tok). l e w.3.value u (before v w.2)) (sym r) one)
        (((p.right w.3.value).facts e).starts w.0 h w.1 w.2 (subst (λ (v : List Tok). m w.3.value e w.0 v w.2) (sym r) w.3.two))
    go (longer k z q r) =
        let head : k ≡ h = cc in
        shut (prefix_of (l e) w.3.value u h z (before w.3.right w.2) (subst (λ (y : Tok). l e w.3.value (u ++ y ∷ z) (before w.3.right w.2)) head (subst (λ (v : List Tok). l e w.3.value v (before w.3.right w.2)) q w.3.one)))
    go (shorter k z q r) =
        let has : Has j.first k = ((p.right w.3.value).facts e).starts w.0 k (z ++ h ∷ w.1) w.2 (subst (λ (v : List Tok). m w.3.value e w.0 v w.2) r w.3.two) in
        let one : l e w.3.value w.3.left k = subst (λ (v : List Tok). l e w.3.value w.3.left (before v w.2)) r w.3.one in
        let whole : l d o.0 (w.3.left ++ k ∷ (z ++ o.1)) blank = subst (λ (v : List Tok). l d o.0 v blank) (ap (λ (v : List Tok). v ++ o.1) q ∙ append_assoc w.3.left (k ∷ z) o.1) (o.2 blank) in
        apart k.code i.cont j.first p.apart_
        (past (l (d + e)) i (on1 (d + e)) (p.left.facts (d + e)) w.3.value o.0 w.3.left k (z ++ o.1) blank
        (p.left.mono e (d + e) (omega arith) w.3.value w.3.left k one)
        (p.left.mono d (d + e) (omega arith) o.0 (w.3.left ++ k ∷ (z ++ o.1)) blank whole))
        has

-- no text of both ends at u before h
ended : {A B : Type 0} (l : ℕ → Lang A) (m : A → ℕ → Lang B) (i j : Info) (on1 : ℕ → Bool) (on2 : A → ℕ → Bool) (on : ℕ → Bool) → Parts l m i j on1 on2 on
    → (d e : ℕ) (u : List Tok) (h : Tok) → Open (l d) u → ((x : A) → l e x u h → ⊥) → (b : B) → Seq l m e b u h → ⊥
ended {A = A} l m i j on1 on2 on p d e u h o none b w = go w.value w.left w.right w.parts w.one w.two
  where
    go : (x : A) (left right : List Tok) → u ≡ left ++ right → l e x left (before right h) → m x e b right h → ⊥
    go x left [] q one two = none x (subst (λ (v : List Tok). l e x v h) (sym (append-nil left) ∙ sym q) one)
    go x left (k ∷ r) q one two =
        let whole : l d o.0 (left ++ k ∷ (r ++ o.1)) blank = subst (λ (v : List Tok). l d o.0 v blank) (ap (λ (v : List Tok). v ++ o.1) q ∙ append_assoc left (k ∷ r) o.1) (o.2 blank) in
        apart k.code i.cont j.first p.apart_
        (past (l (d + e)) i (on1 (d + e)) (p.left.facts (d + e)) x o.0 left k (r ++ o.1) blank
        (p.left.mono e (d + e) (omega arith) x left k one)
        (p.left.mono d (d + e) (omega arith) o.0 (left ++ k ∷ (r ++ o.1)) blank whole))
        (((p.right x).facts e).starts b k r h two)

before-append : (u : List Tok) (t : Tok) (z : List Tok) (n : Tok) → before (u ++ t ∷ z) n ≡ before u t
before-append [] t z n = refl
before-append (k ∷ u) t z n = refl

-- what both leave after the first part was read
module _ {A B : Type 0} (l : ℕ → Lang A) (m : A → ℕ → Lang B) (i j : Info) (on1 : ℕ → Bool) (on2 : A → ℕ → Bool) (on : ℕ → Bool) (p : Parts l m i j on1 on2 on) (d : ℕ) (is_on : on d ≡ true) (x : A) (u1 : List Tok) (h : Tok) (o : Open (l d) u1) (word : l d x u1 h) (stops : Never l (u1 ++ h ∷ [])) where
  after_prefix : (e k : ℕ) → d ≤ k → e ≤ k → (u2 : List Tok) (t : Tok) → h ≡ before u2 t → Prefix (Seq l m e) ((u1 ++ u2) ++ t ∷ []) → Prefix (m x k) (u2 ++ t ∷ [])
  after_prefix e k dk ek u2 t hd w =
      let parts : ((u1 ++ u2) ++ t ∷ []) ++ w.1 ≡ u1 ++ (u2 ++ t ∷ w.1) = simp append_assoc in
      let r : m x k w.0 (u2 ++ t ∷ w.1) w.2 = locate l m i j on1 on2 on p d e k dk ek x u1 h w.0 (u2 ++ t ∷ w.1) w.2 word (before-append u2 t w.1 w.2 ∙ sym hd) (λ z q. inl (stops k)) (subst (λ (v : List Tok). Seq l m e w.0 v w.2) parts w.3) in
      (w.0, w.1, w.2, subst (λ (v : List Tok). m x k w.0 v w.2) (sym (append_assoc u2 (t ∷ []) w.1)) r)

  after_text : (e : ℕ) (u2 : List Tok) (t : Tok) (b : B) → h ≡ before u2 t → Seq l m e b (u1 ++ u2) t → m x (d + e) b u2 t
  after_text e u2 t b hd w = locate l m i j on1 on2 on p d e (d + e) (omega arith) (omega arith) x u1 h b u2 t word (sym hd) (λ z q. inl (stops (d + e))) w

  after_open : (e k : ℕ) → d ≤ k → e ≤ k → (y : Tok) (u2 : List Tok) → h ≡ y → Open (m x e) (y ∷ u2) → Open (Seq l m k) (u1 ++ y ∷ u2)
  after_open e k dk ek y u2 hd c = (
    c.0,
    c.1,
    λ n. record {
      value = x;
      left = u1;
      right = (y ∷ u2) ++ c.1;
      parts = append_assoc u1 (y ∷ u2) c.1;
      one = subst (λ (q : Tok). l k x u1 q) hd (p.left.mono d k dk x u1 h word);
      two = (p.right x).mono e k ek c.0 ((y ∷ u2) ++ c.1) n (c.2 n);
    },
  )

  after_viable : (u2 : List Tok) (t : Tok) → h ≡ before u2 t → Open (m x d) u2 → Open (Seq l m d) (u1 ++ u2)
  after_viable [] t hd c = subst (λ (v : List Tok). Open (Seq l m d) v) (sym (append-nil u1)) (open_seq l m j on2 p.right d (p.up d is_on).1 u1 o)
  after_viable (y ∷ u2) t hd c = after_open d d (omega arith) (omega arith) y u2 hd c

  after_deeper : (e k : ℕ) → d ≤ k → e ≤ k → (u2 : List Tok) (t : Tok) → h ≡ before u2 t → Open (m x e) (u2 ++ t ∷ []) → Open (Seq l m k) ((u1 ++ u2) ++ t ∷ [])
  after_deeper e k dk ek [] t hd c = subst (λ (v : List Tok). Open (Seq l m k) v) (ap (λ (v : List Tok). v ++ t ∷ []) (sym (append-nil u1))) (after_open e k dk ek t [] hd c)
  after_deeper e k dk ek (y ∷ u2) t hd c = subst (λ (v : List Tok). Open (Seq l m k) v) (sym (append_assoc u1 (y ∷ u2) (t ∷ []))) (after_open e k dk ek y (u2 ++ t ∷ []) hd c)

  after_word : (u2 : List Tok) (t : Tok) (b : B) → h ≡ before u2 t → m x d b u2 t → Seq l m d b (u1 ++ u2) t
  after_word u2 t b hd w = record { value = x; left = u1; right = u2; parts = refl; one = subst (λ (q : Tok). l d x u1 q) hd word; two = w }

  after : (ts rest : List Tok) (out : Out B) → ts ≡ u1 ++ rest → h ≡ next rest → Answer (m x) d rest out → Answer (Seq l m) d ts out
  after ts rest (Ok b) parts hd c =
      let hd : h ≡ before c.prefix (next b.1) = hd ∙ (ap next c.parts ∙ next-append c.prefix b.1) in
      record {
        prefix = u1 ++ c.prefix;
        parts = parts ∙ (ap (λ (v : List Tok). u1 ++ v) c.parts ∙ sym (append_assoc u1 c.prefix b.1));
        viable = after_viable c.prefix (next b.1) hd c.viable;
        word = after_word c.prefix (next b.1) b.0 hd c.word;
        stops = λ e w. c.stops (d + e) (after_prefix e (d + e) (omega arith) (omega arith) c.prefix (next b.1) hd w);
      }
  after ts rest (Err (TooDeep rest2)) parts hd c =
      let hd : h ≡ before c.prefix (next rest2) = hd ∙ (ap next c.parts ∙ next-append c.prefix rest2) in
      record {
        prefix = u1 ++ c.prefix;
        parts = parts ∙ (ap (λ (v : List Tok). u1 ++ v) c.parts ∙ sym (append_assoc u1 c.prefix rest2));
        viable = after_viable c.prefix (next rest2) hd c.viable;
        shut = λ w. c.shut (after_prefix d d (omega arith) (omega arith) c.prefix (next rest2) hd w);
        deeper = (d + c.deeper.0, after_deeper c.deeper.0 (d + c.deeper.0) (omega arith) (omega arith) c.prefix (next rest2) hd c.deeper.1);
      }
  after ts rest (Err (Unexpected rest2)) parts hd c =
      let hd : h ≡ before c.prefix (next rest2) = hd ∙ (ap next c.parts ∙ next-append c.prefix rest2) in
      record {
        prefix = u1 ++ c.prefix;
        parts = parts ∙ (ap (λ (v : List Tok). u1 ++ v) c.parts ∙ sym (append_assoc u1 c.prefix rest2));
        viable = after_viable c.prefix (next rest2) hd c.viable;
        no_text = λ e b w. c.no_text (d + e) b (after_text e c.prefix (next rest2) b hd w);
        stops = λ e w. c.stops (d + e) (after_prefix e (d + e) (omega arith) (omega arith) c.prefix (next rest2) hd w);
      }

pub seq_answer : {A B : Type 0} (l : ℕ → Lang A) (m : A → ℕ → Lang B) (i j : Info) (on1 : ℕ → Bool) (on2 : A → ℕ → Bool) (on : ℕ → Bool) → Parts l m i j on1 on2 on
    → (d : ℕ) → on d ≡ true → (ts : List Tok) (out : Out A) (q : A × List Tok → Out B) → Answer l d ts out → ((x : A) (rest : List Tok) → on2 x d ≡ true → Reads l d ts x rest → Answer (m x) d rest (q (x, rest)))
    → Answer (Seq l m) d ts (out >>= q)
seq_answer l m i j on1 on2 on p d is_on ts (Err (TooDeep rest)) q a g = record {
  prefix = a.prefix;
  parts = a.parts;
  viable = open_seq l m j on2 p.right d (p.up d is_on).1 a.prefix a.viable;
  shut = blocked l m i j on1 on2 on p d d a.prefix (next rest) a.viable a.shut (λ x one has.
      let k = d + a.deeper.0 in
      apart (next rest).code i.cont j.first p.apart_
      ((p.left.facts k).goes_on x a.prefix (next rest) (p.left.mono d k (omega arith) x a.prefix (next rest) one) (prefix_mono l i on1 p.left a.deeper.0 k (omega arith) (a.prefix ++ next rest ∷ []) (prefix_open (l a.deeper.0) (a.prefix ++ next rest ∷ []) a.deeper.1)))
      has);
  deeper =
      let k = p.both_high a.deeper.0 in
      (k.0, open_seq l m j on2 p.right k.0 (p.up k.0 k.2).1 (a.prefix ++ next rest ∷ []) (open_mono l i on1 p.left a.deeper.0 k.0 k.1 (a.prefix ++ next rest ∷ []) a.deeper.1));
}
seq_answer l m i j on1 on2 on p d is_on ts (Err (Unexpected rest)) q a g = record {
  prefix = a.prefix;
  parts = a.parts;
  viable = open_seq l m j on2 p.right d (p.up d is_on).1 a.prefix a.viable;
  no_text = λ e b w. ended l m i j on1 on2 on p d e a.prefix (next rest) a.viable (a.no_text e) b w;
  stops = λ e. blocked l m i j on1 on2 on p d e a.prefix (next rest) a.viable (a.stops e) (λ x one has. a.no_text e x one);
}
seq_answer l m i j on1 on2 on p d is_on ts (Ok x) q a g =
    after l m i j on1 on2 on p d is_on x.0 a.prefix (next x.1) a.viable a.word a.stops ts x.1 (q x) a.parts refl (g x.0 x.1 ((p.up d is_on).1 x.0 a.prefix (next x.1) a.word) a)

-- ---- one token, no token

pub one_answer : (ks : List ℕ) → mem 0 ks ≡ false → (d : ℕ) (ts : List Tok) → is_some_kind ks ≡ true → Answer (λ e. OneOf ks) d ts (one_of ks ts)
one_answer ks nil d ts some = go ts
  where
    prefix : (t : Tok) → Prefix (OneOf ks) (t ∷ []) → Has ks t
    prefix t w = let e : t ≡ w.0 = let q = w.3.0 in cc in subst (Has ks) (sym e) w.3.1

    two : (t n : Tok) → Prefix (OneOf ks) (t ∷ n ∷ []) → ⊥
    two t n w = let q = w.3.0 in absurd cc

    odd : (r : List Tok) → mem (next r).code ks ≡ false → IsUnexpected (λ e. OneOf ks) d r r
    odd r e = record { prefix = []; parts = refl; viable = (one_facts ks).live some; no_text = λ k a w. let q = w.0 in absurd cc; stops = λ k w. let has : mem (next r).code ks ≡ true = prefix (next r) w in absurd cc }

    pick : (t : Tok) (r : List Tok) (b : Bool) → mem t.code ks ≡ b → Answer (λ e. OneOf ks) d (t ∷ r) (cond b (Ok (t, r)) (Err (Unexpected (t ∷ r))))
    pick t r true e = record { prefix = t ∷ []; parts = refl; viable = (t, [], λ n. (refl, e)); word = (refl, e); stops = λ k w. two t (next r) w }
    pick t r false e = odd (t ∷ r) e

    go : (r : List Tok) → Answer (λ e. OneOf ks) d r (one_of ks r)
    go [] = odd [] nil
    go (t ∷ r) = pick t r (mem t.code ks) refl

pub one_grammar : (ks : List ℕ) → is_some_kind ks ≡ true → Grammar (λ e. OneOf ks) (one_info ks) (λ e. true)
one_grammar ks some = record {
  facts = λ d. subst (λ (b : Bool). Facts (OneOf ks) (one_info ks) b) some (one_facts ks);
  mono = λ d e le a u n h. h;
  high = λ e. (e, omega arith, refl);
}

pub one_begins : (ks : List ℕ) → Begins (λ e. OneOf ks) (one_info ks)
one_begins ks t h = (0, (t, [], λ n. (refl, h)))

pub return_answer : {A : Type 0} (a : A) (d : ℕ) (ts : List Tok) → Answer (λ e. Return a) d ts (Ok (a, ts))
return_answer a d ts = record { prefix = []; parts = refl; viable = (a, [], λ n. (refl, refl)); word = (refl, refl); stops = λ e w. let q = w.3.1 in absurd cc }

pub return_grammar : {A : Type 0} (a : A) → Grammar (λ e. Return a) return_info (λ e. true)
return_grammar a = record { facts = λ d. return_facts a; mono = λ d e le b u n h. h; high = λ e. (e, omega arith, refl) }

-- ---- the same texts

pub record Same {A : Type 0} (l m : ℕ → Lang A) : Type 0 where
  pub to : (d : ℕ) (a : A) (u : List Tok) (n : Tok) → l d a u n → m d a u n
  pub from : (d : ℕ) (a : A) (u : List Tok) (n : Tok) → m d a u n → l d a u n

pub same_answer : {A : Type 0} (l m : ℕ → Lang A) → Same l m → (d : ℕ) (ts : List Tok) (out : Out A) → Answer l d ts out → Answer m d ts out
same_answer l m s d ts (Ok x) a = record {
  prefix = a.prefix;
  parts = a.parts;
  viable = (a.viable.0, a.viable.1, λ n. s.to d a.viable.0 (a.prefix ++ a.viable.1) n (a.viable.2 n));
  word = s.to d x.0 a.prefix (next x.1) a.word;
  stops = λ e w. a.stops e (w.0, w.1, w.2, s.from e w.0 _ w.2 w.3);
}
same_answer l m s d ts (Err (TooDeep rest)) a = record {
  prefix = a.prefix;
  parts = a.parts;
  viable = (a.viable.0, a.viable.1, λ n. s.to d a.viable.0 (a.prefix ++ a.viable.1) n (a.viable.2 n));
  shut = λ w. a.shut (w.0, w.1, w.2, s.from d w.0 _ w.2 w.3);
  deeper = (a.deeper.0, (a.deeper.1.0, a.deeper.1.1, λ n. s.to a.deeper.0 a.deeper.1.0 _ n (a.deeper.1.2 n)));
}
same_answer l m s d ts (Err (Unexpected rest)) a = record {
  prefix = a.prefix;
  parts = a.parts;
  viable = (a.viable.0, a.viable.1, λ n. s.to d a.viable.0 (a.prefix ++ a.viable.1) n (a.viable.2 n));
  no_text = λ e b w. a.no_text e b (s.from e b a.prefix (next rest) w);
  stops = λ e w. a.stops e (w.0, w.1, w.2, s.from e w.0 _ w.2 w.3);
}

pub same_facts : {A : Type 0} (L M : Lang A) (i : Info) (on : Bool) → ((a : A) (u : List Tok) (n : Tok) → L a u n → M a u n) → ((a : A) (u : List Tok) (n : Tok) → M a u n → L a u n) → Facts L i on → Facts M i on
same_facts L M i on to from f = record {
  starts = λ a t u n w. f.starts a t u n (from a (t ∷ u) n w);
  empty = λ a n w. f.empty a n (from a [] n w);
  goes_on = λ a u t w v. f.goes_on a u t (from a u t w) (v.0, v.1, v.2, from v.0 _ v.2 v.3);
  unique = λ a b u n w v. f.unique a b u n (from a u n w) (from b u n v);
  live = λ e. let o = f.live e in (o.0, o.1, λ n. to o.0 o.1 n (o.2 n));
  dead = λ a u n w. f.dead a u n (from a u n w);
  skip = λ e null t out. let x = f.skip e null t out in (x.0, to x.0 [] t x.1);
}

-- ---- one deeper

pub shift_answer : {A : Type 0} (l : ℕ → Lang A) (d : ℕ) (ts : List Tok) (out : Out A) → Answer l d ts out → Answer (Below l) (suc d) ts out
shift_answer l d ts (Ok x) a = record { prefix = a.prefix; parts = a.parts; viable = a.viable; word = a.word; stops = stops }
  where
    stops : (e : ℕ) → Prefix (Below l e) (a.prefix ++ next x.1 ∷ []) → ⊥
    stops zero w = w.3
    stops (suc e) w = a.stops e w
shift_answer l d ts (Err (TooDeep rest)) a = record { prefix = a.prefix; parts = a.parts; viable = a.viable; shut = a.shut; deeper = (suc a.deeper.0, a.deeper.1) }
shift_answer l d ts (Err (Unexpected rest)) a = record { prefix = a.prefix; parts = a.parts; viable = a.viable; no_text = no_text; stops = stops }
  where
    no_text : (e : ℕ) (b : _) → Below l e b a.prefix (next rest) → ⊥
    no_text zero b w = w
    no_text (suc e) b w = a.no_text e b w

    stops : (e : ℕ) → Prefix (Below l e) (a.prefix ++ next rest ∷ []) → ⊥
    stops zero w = w.3
    stops (suc e) w = a.stops e w

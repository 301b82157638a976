-- Readers of one text or another, of one where the budget allows it, and of one or nothing.
use Rattle.std.proofs.Common.{◌≡◌, ℕ, ◌≤◌, Bool, true, false, cond, ◌&&◌, ◌||◌, List, [], ◌∷◌, ◌++◌, Ok, Err, ◌⊎◌, inl, inr, refl, sym, ap, subst, ◌∙◌}
use Rattle.sv_grammar.specs.Info.{Info, or_info, unless_info}
use Rattle.sv_grammar.specs.Language.{Lang, Or, Only, Unless, Open, Prefix, TooDeep, Unexpected, IsTooDeep, IsUnexpected, Out, Answer}
use Rattle.sv_grammar.specs.Reading.{either, maybe}
use Rattle.sv_grammar.specs.Tokens.{Tok, next, mem, disjoint, Has}
use Rattle.sv_grammar.proofs.Answers.{Grammar, Begins, no_true, or_left, open_mono, prefix_open, or_else, both_true}
use Rattle.sv_grammar.proofs.Facts.{Facts, or_facts, only_facts, unless_facts}
use Rattle.sv_grammar.proofs.Lists.{mem-append, apart}

-- ---- one or the other

pub record Pair {A : Type 0} (l m : ℕ → Lang A) (i j : Info) (on1 on2 : ℕ → Bool) : Type 0 where
  pub left : Grammar l i on1
  pub right : Grammar m j on2
  pub full : i.null ≡ false
  pub apart_ : disjoint i.first j.first ≡ true
  pub begins1 : Begins l i
  pub begins2 : Begins m j
  pub always : (d : ℕ) → j.null ≡ true → on2 d ≡ true

abbrev pub Either : {A : Type 0} → (ℕ → Lang A) → (ℕ → Lang A) → ℕ → Lang A
Either l m d = Or (l d) (m d)

pub either_grammar : {A : Type 0} (l m : ℕ → Lang A) (i j : Info) (on1 on2 : ℕ → Bool) → Grammar l i on1 → Grammar m j on2 → i.null ≡ false → disjoint i.first j.first ≡ true → ((d : ℕ) → j.null ≡ true → on2 d ≡ true) → Grammar (Either l m) (or_info i j) (λ d. on1 d || on2 d)
either_grammar {A = A} l m i j on1 on2 f g full dis always = record {
  facts = λ d. or_facts (l d) (m d) i j (on1 d) (on2 d) (f.facts d) (g.facts d) full dis (always d);
  mono = mono;
  high = λ e. let k = f.high e in (k.0, k.1, or_left (on1 k.0) (on2 k.0) k.2);
}
  where
    mono : (d e : ℕ) → d ≤ e → (a : A) (u : List Tok) (n : Tok) → Either l m d a u n → Either l m e a u n
    mono d e le a u n (inl w) = inl (f.mono d e le a u n w)
    mono d e le a u n (inr w) = inr (g.mono d e le a u n w)

pub either_begins : {A : Type 0} (l m : ℕ → Lang A) (i j : Info) → Begins l i → Begins m j → Begins (Either l m) (or_info i j)
either_begins l m i j b c t h = elim (mem-append t.code i.first j.first h) [
  | inl q ↦ (let o = b t q in (o.0, (o.1.0, o.1.1, λ n. inl (o.1.2 n))))
  | inr q ↦ (let o = c t q in (o.0, (o.1.0, o.1.1, λ n. inr (o.1.2 n))))
]

-- a text that begins so begins with the next token
prefix_starts : {A : Type 0} (L : Lang A) (i : Info) (on : Bool) → Facts L i on → (ts u rest : List Tok) → ts ≡ u ++ rest → Prefix L (u ++ next rest ∷ []) → Has i.first (next ts)
prefix_starts L i on f ts [] rest q w = rw q (f.starts w.0 (next rest) w.1 w.2 w.3)
prefix_starts L i on f ts (k ∷ u) rest q w = rw q (f.starts w.0 k ((u ++ next rest ∷ []) ++ w.1) w.2 w.3)

-- a text that ends there begins with the next token, or is empty
text_starts : {A : Type 0} (L : Lang A) (i : Info) (on : Bool) → Facts L i on → (ts u rest : List Tok) (a : A) → ts ≡ u ++ rest → L a u (next rest) → (Has i.first (next ts)) ⊎ ((u ≡ []) × (i.null ≡ true))
text_starts L i on f ts [] rest a q w = inr (refl, f.empty a (next rest) w)
text_starts L i on f ts (k ∷ u) rest a q w = inl (rw q (f.starts a k u (next rest) w))

module _ {A : Type 0} (l m : ℕ → Lang A) (i j : Info) (on1 on2 : ℕ → Bool) (p : Pair l m i j on1 on2) (d : ℕ) (ts : List Tok) where
  -- only the first begins so
  take_left : Has i.first (next ts) → (out : Out A) → Answer l d ts out → Answer (Either l m) d ts out
  take_left has (Ok x) a = record {
    prefix = a.prefix;
    parts = a.parts;
    viable = (a.viable.0, a.viable.1, λ n. inl (a.viable.2 n));
    word = inl a.word;
    stops = λ e w. elim w.3 [
      | inl q ↦ a.stops e (w.0, w.1, w.2, q)
      | inr q ↦ apart (next ts).code i.first j.first p.apart_ has (prefix_starts (m e) j (on2 e) (p.right.facts e) ts a.prefix x.1 a.parts (w.0, w.1, w.2, q))
    ];
  }
  take_left has (Err (TooDeep rest)) a = record {
    prefix = a.prefix;
    parts = a.parts;
    viable = (a.viable.0, a.viable.1, λ n. inl (a.viable.2 n));
    shut = λ w. elim w.3 [
      | inl q ↦ a.shut (w.0, w.1, w.2, q)
      | inr q ↦ apart (next ts).code i.first j.first p.apart_ has (prefix_starts (m d) j (on2 d) (p.right.facts d) ts a.prefix rest a.parts (w.0, w.1, w.2, q))
    ];
    deeper = (a.deeper.0, (a.deeper.1.0, a.deeper.1.1, λ n. inl (a.deeper.1.2 n)));
  }
  take_left has (Err (Unexpected rest)) a = record {
    prefix = a.prefix;
    parts = a.parts;
    viable = (a.viable.0, a.viable.1, λ n. inl (a.viable.2 n));
    no_text = λ e b w. elim w [
      | inl q ↦ a.no_text e b q
      | inr q ↦ elim (text_starts (m e) j (on2 e) (p.right.facts e) ts a.prefix rest b a.parts q) [
        | inl h ↦ apart (next ts).code i.first j.first p.apart_ has h
        | inr h ↦ (
            let o = p.begins1 (next ts) has in
            let e : next ts ≡ next rest = ap next (a.parts ∙ ap (λ (v : List Tok). v ++ rest) h.0) in
            a.stops o.0 (prefix_open (l o.0) (a.prefix ++ next rest ∷ []) (subst (λ (v : List Tok). Open (l o.0) (v ++ next rest ∷ [])) (sym h.0) (subst (λ (t : Tok). Open (l o.0) (t ∷ [])) e o.1))))
      ]
    ];
    stops = λ e w. elim w.3 [
      | inl q ↦ a.stops e (w.0, w.1, w.2, q)
      | inr q ↦ apart (next ts).code i.first j.first p.apart_ has (prefix_starts (m e) j (on2 e) (p.right.facts e) ts a.prefix rest a.parts (w.0, w.1, w.2, q))
    ];
  }

  -- the first does not begin so
  take_right : mem (next ts).code i.first ≡ false → (out : Out A) → Answer m d ts out → Answer (Either l m) d ts out
  take_right has (Ok x) a = record {
    prefix = a.prefix;
    parts = a.parts;
    viable = (a.viable.0, a.viable.1, λ n. inr (a.viable.2 n));
    word = inr a.word;
    stops = λ e w. elim w.3 [
      | inr q ↦ a.stops e (w.0, w.1, w.2, q)
      | inl q ↦ no_true _ (prefix_starts (l e) i (on1 e) (p.left.facts e) ts a.prefix x.1 a.parts (w.0, w.1, w.2, q)) has
    ];
  }
  take_right has (Err (TooDeep rest)) a = record {
    prefix = a.prefix;
    parts = a.parts;
    viable = (a.viable.0, a.viable.1, λ n. inr (a.viable.2 n));
    shut = λ w. elim w.3 [
      | inr q ↦ a.shut (w.0, w.1, w.2, q)
      | inl q ↦ no_true _ (prefix_starts (l d) i (on1 d) (p.left.facts d) ts a.prefix rest a.parts (w.0, w.1, w.2, q)) has
    ];
    deeper = (a.deeper.0, (a.deeper.1.0, a.deeper.1.1, λ n. inr (a.deeper.1.2 n)));
  }
  take_right has (Err (Unexpected rest)) a = record {
    prefix = a.prefix;
    parts = a.parts;
    viable = (a.viable.0, a.viable.1, λ n. inr (a.viable.2 n));
    no_text = λ e b w. elim w [
      | inr q ↦ a.no_text e b q
      | inl q ↦ elim (text_starts (l e) i (on1 e) (p.left.facts e) ts a.prefix rest b a.parts q) [
        | inl h ↦ no_true _ h has
        | inr h ↦ no_true _ h.1 p.full
      ]
    ];
    stops = λ e w. elim w.3 [
      | inr q ↦ a.stops e (w.0, w.1, w.2, q)
      | inl q ↦ no_true _ (prefix_starts (l e) i (on1 e) (p.left.facts e) ts a.prefix rest a.parts (w.0, w.1, w.2, q)) has
    ];
  }

  left_deep : Has i.first (next ts) → on1 d ≡ false → (on1 d || on2 d) ≡ true → IsTooDeep (Either l m) d ts ts
  left_deep has off is_on = record {
    prefix = [];
    parts = refl;
    viable = (let o = (p.right.facts d).live (or_else (on1 d) (on2 d) is_on off) in (o.0, o.1, λ n. inr (o.2 n)));
    shut = λ w. elim w.3 [
      | inl q ↦ no_true _ ((p.left.facts d).dead w.0 (next ts ∷ w.1) w.2 q) off
      | inr q ↦ apart (next ts).code i.first j.first p.apart_ has ((p.right.facts d).starts w.0 (next ts) w.1 w.2 q)
    ];
    deeper = (let o = p.begins1 (next ts) has in (o.0, (o.1.0, o.1.1, λ n. inl (o.1.2 n))));
  }

  viable_left : on2 d ≡ false → (on1 d || on2 d) ≡ true → Open (Either l m d) []
  viable_left off is_on = go (on1 d) refl
    where
      go : (b : Bool) → on1 d ≡ b → Open (Either l m d) []
      go true e = let o = (p.left.facts d).live e in (o.0, o.1, λ n. inl (o.2 n))
      go false e = absurd (no_true _ (or_else (on1 d) (on2 d) is_on e) off)

  right_deep : mem (next ts).code i.first ≡ false → Has j.first (next ts) → on2 d ≡ false → (on1 d || on2 d) ≡ true → IsTooDeep (Either l m) d ts ts
  right_deep not_left has off is_on = record {
    prefix = [];
    parts = refl;
    viable = viable_left off is_on;
    shut = λ w. elim w.3 [
      | inl q ↦ no_true _ ((p.left.facts d).starts w.0 (next ts) w.1 w.2 q) not_left
      | inr q ↦ no_true _ ((p.right.facts d).dead w.0 (next ts ∷ w.1) w.2 q) off
    ];
    deeper = (let o = p.begins2 (next ts) has in (o.0, (o.1.0, o.1.1, λ n. inr (o.1.2 n))));
  }

  neither : mem (next ts).code i.first ≡ false → mem (next ts).code j.first ≡ false → on2 d ≡ false → (on1 d || on2 d) ≡ true → IsUnexpected (Either l m) d ts ts
  neither not_left not_right off is_on = record {
    prefix = [];
    parts = refl;
    viable = viable_left off is_on;
    no_text = λ e b w. elim w [
      | inl q ↦ no_true _ ((p.left.facts e).empty b (next ts) q) p.full
      | inr q ↦ no_true _ (p.always d ((p.right.facts e).empty b (next ts) q)) off
    ];
    stops = λ e w. elim w.3 [
      | inl q ↦ no_true _ ((p.left.facts e).starts w.0 (next ts) w.1 w.2 q) not_left
      | inr q ↦ no_true _ ((p.right.facts e).starts w.0 (next ts) w.1 w.2 q) not_right
    ];
  }

  pub either_answer : (p1 p2 : List Tok → Out A) → (on1 d || on2 d) ≡ true → (on1 d ≡ true → Answer l d ts (p1 ts)) → (on2 d ≡ true → Answer m d ts (p2 ts)) → Answer (Either l m) d ts (either i.first (on1 d) p1 j.first (on2 d) p2 ts)
  either_answer p1 p2 is_on a1 a2 = go (mem (next ts).code i.first) refl
    where
      inner : (b : Bool) → on1 d ≡ b → Has i.first (next ts) → Answer (Either l m) d ts (cond b (p1 ts) (Err (TooDeep ts)))
      inner true e has = take_left has (p1 ts) (a1 e)
      inner false e has = left_deep has e is_on

      last : (b : Bool) → mem (next ts).code j.first ≡ b → mem (next ts).code i.first ≡ false → on2 d ≡ false → Answer (Either l m) d ts (cond b (Err (TooDeep ts)) (Err (Unexpected ts)))
      last true e not_left off = right_deep not_left e off is_on
      last false e not_left off = neither not_left e off is_on

      right : (b : Bool) → on2 d ≡ b → mem (next ts).code i.first ≡ false → Answer (Either l m) d ts (cond b (p2 ts) (cond (mem (next ts).code j.first) (Err (TooDeep ts)) (Err (Unexpected ts))))
      right true e not_left = take_right not_left (p2 ts) (a2 e)
      right false e not_left = last (mem (next ts).code j.first) refl not_left e

      go : (b : Bool) → mem (next ts).code i.first ≡ b → Answer (Either l m) d ts (cond b (cond (on1 d) (p1 ts) (Err (TooDeep ts))) (cond (on2 d) (p2 ts) (cond (mem (next ts).code j.first) (Err (TooDeep ts)) (Err (Unexpected ts)))))
      go true e = inner (on1 d) refl e
      go false e = right (on2 d) refl e

-- ---- where a test of the budget holds

abbrev pub When : {A : Type 0} → (ℕ → Bool) → (ℕ → Lang A) → ℕ → Lang A
When c l d = Only (c d) (l d)

pub record Rises (c : ℕ → Bool) (on : ℕ → Bool) : Type 0 where
  pub up : (d e : ℕ) → d ≤ e → c d ≡ true → c e ≡ true
  pub high : (e : ℕ) → (k : ℕ) × (e ≤ k) × (c k ≡ true) × (on k ≡ true)

pub when_grammar : {A : Type 0} (c : ℕ → Bool) (l : ℕ → Lang A) (i : Info) (on : ℕ → Bool) → Rises c on → Grammar l i on → Grammar (When c l) i (λ d. c d && on d)
when_grammar c l i on r g = record {
  facts = λ d. only_facts (c d) (l d) i (on d) (g.facts d);
  mono = λ d e le a u n w. (r.up d e le w.0, g.mono d e le a u n w.1);
  high = λ e. let k = r.high e in (k.0, k.1, both_true (c k.0) (on k.0) k.2 k.3);
}

pub when_begins : {A : Type 0} (c : ℕ → Bool) (l : ℕ → Lang A) (i : Info) (on : ℕ → Bool) → Rises c on → Grammar l i on → Begins l i → Begins (When c l) i
when_begins c l i on r g b t h = let o = b t h in let k = r.high o.0 in let o2 = open_mono l i on g o.0 k.0 k.1 (t ∷ []) o.1 in (k.0, (o2.0, o2.1, λ n. (k.2, o2.2 n)))

pub when_answer : {A : Type 0} (c : ℕ → Bool) (l : ℕ → Lang A) (i : Info) (on : ℕ → Bool) → Rises c on → Grammar l i on → (d : ℕ) (ts : List Tok) (out : Out A) → c d ≡ true → Answer l d ts out → Answer (When c l) d ts out
when_answer c l i on r g d ts (Ok x) is a = record {
  prefix = a.prefix;
  parts = a.parts;
  viable = (a.viable.0, a.viable.1, λ n. (is, a.viable.2 n));
  word = (is, a.word);
  stops = λ e w. a.stops e (w.0, w.1, w.2, w.3.1);
}
when_answer c l i on r g d ts (Err (TooDeep rest)) is a = record {
  prefix = a.prefix;
  parts = a.parts;
  viable = (a.viable.0, a.viable.1, λ n. (is, a.viable.2 n));
  shut = λ w. a.shut (w.0, w.1, w.2, w.3.1);
  deeper = (let k = r.high a.deeper.0 in let o = open_mono l i on g a.deeper.0 k.0 k.1 (a.prefix ++ next rest ∷ []) a.deeper.1 in (k.0, (o.0, o.1, λ n. (k.2, o.2 n))));
}
when_answer c l i on r g d ts (Err (Unexpected rest)) is a = record {
  prefix = a.prefix;
  parts = a.parts;
  viable = (a.viable.0, a.viable.1, λ n. (is, a.viable.2 n));
  no_text = λ e b w. a.no_text e b w.1;
  stops = λ e w. a.stops e (w.0, w.1, w.2, w.3.1);
}

-- ---- nothing, where what begins with one kind is not next

abbrev pub Optional : {A : Type 0} → (ℕ → Bool) → List ℕ → A → (ℕ → Lang A) → ℕ → Lang A
Optional on ks none l d = Only (on d) (Unless ks none (l d))

pub optional_grammar : {A : Type 0} (none : A) (l : ℕ → Lang A) (i : Info) (on : ℕ → Bool) → ((d e : ℕ) → d ≤ e → on d ≡ true → on e ≡ true) → i.null ≡ false → Grammar l i on → Grammar (Optional on i.first none l) (unless_info i) on
optional_grammar none l i on rises full g = record {
  facts = λ d. unless_facts none (l d) i (on d) (g.facts d) full;
  mono = λ d e le a u n w. (rises d e le w.0, mono d e le a u n w.1);
  high = g.high;
}
  where
    mono : (d e : ℕ) → d ≤ e → (a : _) (u : List Tok) (n : Tok) → Unless i.first none (l d) a u n → Unless i.first none (l e) a u n
    mono d e le a u n (inl w) = inl w
    mono d e le a u n (inr w) = inr (g.mono d e le a u n w)

pub optional_begins : {A : Type 0} (none : A) (l : ℕ → Lang A) (i : Info) (on : ℕ → Bool) → Grammar l i on → Begins l i → Begins (Optional on i.first none l) (unless_info i)
optional_begins none l i on g b t h = let o = b t h in let k = g.high o.0 in let o2 = open_mono l i on g o.0 k.0 k.1 (t ∷ []) o.1 in (k.0, (o2.0, o2.1, λ n. (k.2, inr (o2.2 n))))

pub optional_answer : {A : Type 0} (none : A) (l : ℕ → Lang A) (i : Info) (on : ℕ → Bool) → ((d e : ℕ) → d ≤ e → on d ≡ true → on e ≡ true) → i.null ≡ false → Grammar l i on → (d : ℕ) → on d ≡ true → (ts : List Tok) (p : List Tok → Out A) → Answer l d ts (p ts) → Answer (Optional on i.first none l) d ts (maybe i.first none p ts)
optional_answer {A = A} none l i on rises full g d is ts p a = go (mem (next ts).code i.first) refl
  where
    -- nothing is no text here, where it is next
    no_none : (u rest : List Tok) → Has i.first (next ts) → ts ≡ u ++ rest → u ≡ [] → mem (next rest).code i.first ≡ false → ⊥
    no_none u rest has q e f = let r : ts ≡ rest = q ∙ ap (λ (v : List Tok). v ++ rest) e in no_true _ has (subst (λ (v : List Tok). mem (next v).code i.first ≡ false) (sym r) f)

    grown : (e : ℕ) (u : List Tok) (t : Tok) → Prefix (Optional on i.first none l e) (u ++ t ∷ []) → Prefix (l e) (u ++ t ∷ [])
    grown e u t w = elim w.3.1 [
      | inl q ↦ absurd (none_ u q.1)
      | inr q ↦ (w.0, w.1, w.2, q)
    ]
      where
        none_ : (u : List Tok) → (u ++ t ∷ []) ++ w.1 ≡ [] → ⊥
        none_ [] q = absurd cc
        none_ (k ∷ u) q = absurd cc

    lift : (out : Out A) → Has i.first (next ts) → Answer l d ts out → Answer (Optional on i.first none l) d ts out
    lift (Ok x) has a = record {
      prefix = a.prefix;
      parts = a.parts;
      viable = (a.viable.0, a.viable.1, λ n. (is, inr (a.viable.2 n)));
      word = (is, inr a.word);
      stops = λ e w. a.stops e (grown e a.prefix (next x.1) w);
    }
    lift (Err (TooDeep rest)) has a = record {
      prefix = a.prefix;
      parts = a.parts;
      viable = (a.viable.0, a.viable.1, λ n. (is, inr (a.viable.2 n)));
      shut = λ w. a.shut (grown d a.prefix (next rest) w);
      deeper = (let k = g.high a.deeper.0 in let o = open_mono l i on g a.deeper.0 k.0 k.1 (a.prefix ++ next rest ∷ []) a.deeper.1 in (k.0, (o.0, o.1, λ n. (k.2, inr (o.2 n)))));
    }
    lift (Err (Unexpected rest)) has a = record {
      prefix = a.prefix;
      parts = a.parts;
      viable = (a.viable.0, a.viable.1, λ n. (is, inr (a.viable.2 n)));
      no_text = λ e b w. elim w.1 [
        | inl q ↦ no_none a.prefix rest has a.parts q.1 q.2
        | inr q ↦ a.no_text e b q
      ];
      stops = λ e w. a.stops e (grown e a.prefix (next rest) w);
    }

    go : (b : Bool) → mem (next ts).code i.first ≡ b → Answer (Optional on i.first none l) d ts (cond b (p ts) (Ok (none, ts)))
    go true has = lift (p ts) has a
    go false has = record {
      prefix = [];
      parts = refl;
      viable = (let o = (g.facts d).live is in (o.0, o.1, λ n. (is, inr (o.2 n))));
      word = (is, inl (refl, refl, has));
      stops = λ e w. (let v = grown e [] (next ts) w in no_true _ ((g.facts e).starts v.0 (next ts) v.1 v.2 v.3) has);
    }

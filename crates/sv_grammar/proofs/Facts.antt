-- What is known of a language: how its texts begin, go on and end, and that none has two readings.
use Rattle.std.proofs.Common.{◌≡◌, ℕ, Bool, true, false, cond, ◌&&◌, ◌||◌, List, [], ◌∷◌, ◌++◌, ◌⊎◌, inl, inr, refl, sym, ap, subst, ◌∙◌, append_assoc, eq-eqb}
use Rattle.std.proofs.lemmas.List.{append-nil}
use Rattle.sv_grammar.specs.Tokens.{Tok, blank, before, mem, disjoint, Has}
use Rattle.sv_grammar.specs.Info.{Info, then_info, return_info, one_info, or_info, unless_info, run_info, is_some_kind}
use Rattle.sv_grammar.specs.Language.{Lang, Then, OneOf, Return, Nothing, Or, Only, Unless, Run, Open, Prefix}
use Rattle.sv_grammar.proofs.Lists.{Meet, same, longer, shorter, meet, mem-left, mem-right, apart}

-- on: whether there is a text at all
pub record Facts {A : Type 0} (L : Lang A) (i : Info) (on : Bool) : Type 0 where
  pub starts : (a : A) (t : Tok) (u : List Tok) (n : Tok) → L a (t ∷ u) n → Has i.first t
  pub empty : (a : A) (n : Tok) → L a [] n → i.null ≡ true
  pub goes_on : (a : A) (u : List Tok) (t : Tok) → L a u t → Prefix L (u ++ t ∷ []) → Has i.cont t
  pub unique : (a b : A) (u : List Tok) (n : Tok) → L a u n → L b u n → a ≡ b
  pub live : on ≡ true → Open L []
  pub dead : (a : A) (u : List Tok) (n : Tok) → L a u n → on ≡ true
  pub skip : on ≡ true → i.null ≡ true → (t : Tok) → (Has i.first t → ⊥) → (a : A) × L a [] t

-- a text begins with each of its prefixes
pub prefix_of : {A : Type 0} (L : Lang A) (a : A) (x : List Tok) (h : Tok) (z : List Tok) (n : Tok) → L a (x ++ h ∷ z) n → Prefix L (x ++ h ∷ [])
prefix_of L a x h z n w = (a, z, n, subst (λ (u : List Tok). L a u n) (sym (append_assoc x (h ∷ []) z)) w)

-- a text that goes on past u with h, where u is a text before h
pub past : {A : Type 0} (L : Lang A) (i : Info) (on : Bool) → Facts L i on → (a b : A) (u : List Tok) (h : Tok) (z : List Tok) (n : Tok) → L a u h → L b (u ++ h ∷ z) n → Has i.cont h
past L i on f a b u h z n p q = f.goes_on a u h p (prefix_of L b u h z n q)

-- ---- one after the other

-- where a text of L ends and one of M follows: the cut is at one place
abbrev pub Starts : {A B : Type 0} → (A → Lang B) → Info → Type 0
Starts {A} {B} M j = (x : A) (b : B) (t : Tok) (u : List Tok) (n : Tok) → M x b (t ∷ u) n → Has j.first t

pub cut : {A B : Type 0} (L : Lang A) (M : A → Lang B) (i j : Info) (on : Bool) → Facts L i on → Starts M j → disjoint i.cont j.first ≡ true
    → (x : A) (u : List Tok) (h : Tok) (b : B) (s : List Tok) (n : Tok)
    → L x u h → before s n ≡ h → ((z : List Tok) → s ≡ h ∷ z → (Prefix L (u ++ h ∷ []) → ⊥) ⊎ (Has j.first h))
    → Then L M b (u ++ s) n → M x b s n
cut {A = A} L M i j on f g dis x u h b s n word is stop t = go (meet u s t.left t.right t.parts)
  where
    stops : (z y : List Tok) → s ≡ h ∷ y → L t.value (u ++ h ∷ z) (before t.right n) → ⊥
    stops z y e w = elim (stop y e) [
      | inl shut ↦ shut (prefix_of L t.value u h z (before t.right n) w)
      | inr has ↦ apart h.code i.cont j.first dis (past L i on f x t.value u h z (before t.right n) word w) has
    ]

    go : Meet u s t.left t.right → M x b s n
    go (same p q) =
        let one : L t.value u h = subst (λ (k : Tok). L t.value u k) (ap (λ (v : List Tok). before v n) (sym q) ∙ is) (subst (λ (v : List Tok). L t.value v (before t.right n)) (sym p) t.one) in
        let e : t.value ≡ x = f.unique t.value x u h one word in
        subst (λ (y : A). M y b s n) e (subst (λ (v : List Tok). M t.value b v n) (sym q) t.two)
    go (longer k z p q) =
        let head : k ≡ h = ap (λ (v : List Tok). before v n) (sym q) ∙ is in
        absurd (stops z (z ++ t.right) (subst (λ (y : Tok). s ≡ y ∷ (z ++ t.right)) head q) (subst (λ (y : Tok). L t.value (u ++ y ∷ z) (before t.right n)) head (subst (λ (v : List Tok). L t.value v (before t.right n)) p t.one)))
    go (shorter k z p q) =
        let one : L t.value t.left k = subst (λ (v : List Tok). L t.value t.left (before v n)) q t.one in
        let has : Has j.first k = g t.value b k (z ++ s) n (subst (λ (v : List Tok). M t.value b v n) q t.two) in
        absurd (apart k.code i.cont j.first dis (past L i on f t.value x t.left k z h one (subst (λ (v : List Tok). L x v h) p word)) has)

cond_left : (k : ℕ) (b : Bool) (xs ys : List ℕ) → mem k xs ≡ true → mem k (cond b (xs ++ ys) xs) ≡ true
cond_left k true xs ys h = mem-left k xs ys h
cond_left k false xs ys h = h

cond_right : (k : ℕ) (b : Bool) (xs ys : List ℕ) → b ≡ true → mem k ys ≡ true → mem k (cond b (xs ++ ys) xs) ≡ true
cond_right k true xs ys e h = mem-right k xs ys h
cond_right k false xs ys e h = absurd cc

pub and_parts : (a b : Bool) → (a && b) ≡ true → (a ≡ true) × (b ≡ true)
and_parts true b e = (refl, e)
and_parts false b e = absurd cc

-- on: given with the two parts, since the second may depend on the value of the first
pub then_facts : {A B : Type 0} (L : Lang A) (M : A → Lang B) (i j : Info) (on1 : Bool) (on2 : A → Bool) (on : Bool) → Facts L i on1 → ((x : A) → Facts (M x) j (on2 x)) → disjoint i.cont j.first ≡ true
    → (on ≡ true → (on1 ≡ true) × ((x : A) (u : List Tok) (n : Tok) → L x u n → on2 x ≡ true))
    → ((x : A) (u : List Tok) (n : Tok) → L x u n → on2 x ≡ true → on ≡ true)
    → Facts (Then L M) (then_info i j) on
then_facts {A = A} {B = B} L M i j on1 on2 on f g dis up down = record {
  starts = λ b t u n w. starts b t u n w.value w.left w.right w.parts w.one w.two;
  empty = λ b n w. empty b n w.value w.left w.right w.parts w.one w.two;
  goes_on = λ b u t v w. goes_on b u t w v.value v.left v.right v.parts v.one v.two;
  unique = λ a b u n v w. (g v.value).unique a b v.right n v.two
      (cut L M i j on1 f (λ x. (g x).starts) dis v.value v.left (before v.right n) b v.right n v.one refl
      (λ z e. inr ((g v.value).starts a (before v.right n) z n (subst (λ (s : List Tok). M v.value a s n) e v.two)))
      (subst (λ (s : List Tok). Then L M b s n) v.parts w));
  live = λ e. let u = up e in let x = f.live u.0 in let y = (g x.0).live (u.1 x.0 x.1 blank (x.2 blank)) in (y.0, x.1 ++ y.1, λ n. record { value = x.0; left = x.1; right = y.1; parts = refl; one = x.2 (before y.1 n); two = y.2 n });
  dead = λ b u n w. down w.value w.left (before w.right n) w.one ((g w.value).dead b w.right n w.two);
  skip = λ e null t out. skip e (and_parts i.null j.null null) t out;
}
  where
    starts : (b : B) (t : Tok) (u : List Tok) (n : Tok) (x : A) (l r : List Tok) → t ∷ u ≡ l ++ r → L x l (before r n) → M x b r n → Has (then_info i j).first t
    starts b t u n x [] r p one two = cond_right t.code i.null i.first j.first (f.empty x (before r n) one) ((g x).starts b t u n (subst (λ (s : List Tok). M x b s n) (sym p) two))
    starts b t u n x (k ∷ l) r p one two = let e : k ≡ t = cc in cond_left t.code i.null i.first j.first (subst (Has i.first) e (f.starts x k l (before r n) one))

    empty : (b : B) (n : Tok) (x : A) (l r : List Tok) → [] ≡ l ++ r → L x l (before r n) → M x b r n → (i.null && j.null) ≡ true
    empty b n x [] [] p one two = let p1 = f.empty x n one in let p2 = (g x).empty b n two in cc
    empty b n x [] (k ∷ r) p one two = absurd cc
    empty b n x (k ∷ l) r p one two = absurd cc

    goes_on : (b : B) (u : List Tok) (t : Tok) → Prefix (Then L M) (u ++ t ∷ []) → (x : A) (l r : List Tok) → u ≡ l ++ r → L x l (before r t) → M x b r t → Has (then_info i j).cont t
    goes_on b u t w x l [] p one two = go (mem t.code i.cont) refl
      where
        parts : (u ++ t ∷ []) ++ w.1 ≡ l ++ t ∷ w.1
        parts = rw p (rw append-nil (append_assoc l (t ∷ []) w.1))

        go : (c : Bool) → mem t.code i.cont ≡ c → Has (then_info i j).cont t
        go true e = cond_right t.code j.null j.cont i.cont ((g x).empty b t two) e
        go false e =
            let m : M x w.0 (t ∷ w.1) w.2 = cut L M i j on1 f (λ x. (g x).starts) dis x l t w.0 (t ∷ w.1) w.2 one refl (λ z q. inl (λ v. let has : Has i.cont t = f.goes_on x l t one v in absurd cc)) (subst (λ (s : List Tok). Then L M w.0 s w.2) parts w.3) in
            cond_left t.code j.null j.cont i.cont ((g x).goes_on b [] t two (w.0, w.1, w.2, m))
    goes_on b u t w x l (k ∷ r) p one two =
        let parts : (u ++ t ∷ []) ++ w.1 ≡ l ++ k ∷ (r ++ t ∷ w.1) = rw p (simp append_assoc) in
        let m : M x w.0 (k ∷ (r ++ t ∷ w.1)) w.2 = cut L M i j on1 f (λ x. (g x).starts) dis x l k w.0 (k ∷ (r ++ t ∷ w.1)) w.2 one refl (λ z q. inr ((g x).starts b k r t two)) (subst (λ (s : List Tok). Then L M w.0 s w.2) parts w.3) in
        cond_left t.code j.null j.cont i.cont ((g x).goes_on b (k ∷ r) t two (w.0, w.1, w.2, subst (λ (s : List Tok). M x w.0 (k ∷ s) w.2) (sym (append_assoc r (t ∷ []) w.1)) m))

    skip : on ≡ true → (i.null ≡ true) × (j.null ≡ true) → (t : Tok) → (Has (then_info i j).first t → ⊥) → (b : B) × Then L M b [] t
    skip e null t out =
        let u = up e in
        let x = f.skip u.0 null.0 t (λ h. out (cond_left t.code i.null i.first j.first h)) in
        let y = (g x.0).skip (u.1 x.0 [] t x.1) null.1 t (λ h. out (cond_right t.code i.null i.first j.first null.0 h)) in
        (y.0, record { value = x.0; left = []; right = []; parts = refl; one = x.1; two = y.1 })

-- ---- no text, no token, one token

pub nothing_facts : {A : Type 0} (i : Info) → Facts {A = A} Nothing i false
nothing_facts i = record {
  starts = λ a t u n h. absurd h;
  empty = λ a n h. absurd h;
  goes_on = λ a u t h g. absurd h;
  unique = λ a b u n h g. absurd h;
  live = λ e. absurd cc;
  dead = λ a u n h. absurd h;
  skip = λ e g t h. absurd cc;
}

pub return_facts : {A : Type 0} (a : A) → Facts (Return a) return_info true
return_facts a = record {
  starts = λ b t u n h. absurd cc;
  empty = λ b n h. refl;
  goes_on = λ b u t h g. let e : t ∷ g.1 ≡ [] = subst (λ (v : List Tok). (v ++ t ∷ []) ++ g.1 ≡ []) h.1 g.3.1 in absurd cc;
  unique = λ b c u n h g. h.0 ∙ sym g.0;
  live = λ e. (a, [], λ n. (refl, refl));
  dead = λ b u n h. refl;
  skip = λ e g t h. (a, (refl, refl));
}

one_live : (ks : List ℕ) → is_some_kind ks ≡ true → Open (OneOf ks) []
one_live [] e = absurd cc
one_live (k ∷ ks) e = let t : Tok = record blank { code = k } in (t, t ∷ [], λ n. (refl, rw (eq-eqb k k refl) refl))

one_dead : (ks : List ℕ) (t : Tok) → Has ks t → is_some_kind ks ≡ true
one_dead [] t h = absurd cc
one_dead (k ∷ ks) t h = refl

pub one_facts : (ks : List ℕ) → Facts (OneOf ks) (one_info ks) (is_some_kind ks)
one_facts ks = record {
  starts = λ b t u n h. let e : t ≡ b = cc in subst (Has ks) (sym e) h.1;
  empty = λ b n h. absurd cc;
  goes_on = λ b u t h g. let e : b ∷ t ∷ g.1 ≡ g.0 ∷ [] = subst (λ (v : List Tok). (v ++ t ∷ []) ++ g.1 ≡ g.0 ∷ []) h.0 g.3.0 in absurd cc;
  unique = λ b c u n h g. cc;
  live = one_live ks;
  dead = λ b u n h. one_dead ks b h.1;
  skip = λ e g t h. absurd cc;
}

-- ---- one or the other, of which the first has no empty text

pub or_facts : {A : Type 0} (L M : Lang A) (i j : Info) (on1 on2 : Bool) → Facts L i on1 → Facts M j on2 → i.null ≡ false → disjoint i.first j.first ≡ true → (j.null ≡ true → on2 ≡ true) → Facts (Or L M) (or_info i j) (on1 || on2)
or_facts {A = A} L M i j on1 on2 f g full dis always = record {
  starts = λ a t u n h. elim h [ inl p ↦ mem-left t.code i.first j.first (f.starts a t u n p) | inr q ↦ mem-right t.code i.first j.first (g.starts a t u n q) ];
  empty = λ a n h. elim h [ inl p ↦ (let e : i.null ≡ true = f.empty a n p in absurd cc) | inr q ↦ g.empty a n q ];
  goes_on = goes_on;
  unique = λ a b u n h k. unique a b u n h k;
  live = λ e. live on1 on2 e (λ a. f.live a) (λ a. g.live a);
  dead = λ a u n h. elim h [ inl p ↦ (let e = f.dead a u n p in rw e refl) | inr q ↦ (let e = g.dead a u n q in right on1 on2 e) ];
  skip = λ e null t out. let x = g.skip (always null) null t (λ h. out (mem-right t.code i.first j.first h)) in (x.0, inr x.1);
}
  where
    right : (a b : Bool) → b ≡ true → (a || b) ≡ true
    right true b e = refl
    right false b e = e

    live : (a b : Bool) → (a || b) ≡ true → (a ≡ true → Open L []) → (b ≡ true → Open M []) → Open (Or L M) []
    live true b e p q = let x = p refl in (x.0, x.1, λ n. inl (x.2 n))
    live false b e p q = let x = q e in (x.0, x.1, λ n. inr (x.2 n))

    clash : (a b : A) (u v : List Tok) (n m : Tok) (t : Tok) → L a (t ∷ u) n → M b (t ∷ v) m → ⊥
    clash a b u v n m t p q = apart t.code i.first j.first dis (f.starts a t u n p) (g.starts b t v m q)

    unique : (a b : A) (u : List Tok) (n : Tok) → Or L M a u n → Or L M b u n → a ≡ b
    unique a b u n (inl p) (inl q) = f.unique a b u n p q
    unique a b u n (inr p) (inr q) = g.unique a b u n p q
    unique a b [] n (inl p) (inr q) = let e : i.null ≡ true = f.empty a n p in absurd cc
    unique a b [] n (inr p) (inl q) = let e : i.null ≡ true = f.empty b n q in absurd cc
    unique a b (t ∷ u) n (inl p) (inr q) = absurd (clash a b u u n n t p q)
    unique a b (t ∷ u) n (inr p) (inl q) = absurd (clash b a u u n n t q p)

    goes_on : (a : A) (u : List Tok) (t : Tok) → Or L M a u t → Prefix (Or L M) (u ++ t ∷ []) → Has (or_info i j).cont t
    goes_on a u t (inl p) w = go u p w.0 w.1 w.2 w.3
      where
        go : (u : List Tok) → L a u t → (b : A) (z : List Tok) (n : Tok) → Or L M b ((u ++ t ∷ []) ++ z) n → Has (or_info i j).cont t
        go u p b z n (inl q) = mem-left t.code i.cont _ (f.goes_on a u t p (b, z, n, q))
        go [] p b z n (inr q) = let e : i.null ≡ true = f.empty a t p in absurd cc
        go (k ∷ u) p b z n (inr q) = absurd (clash a b u ((u ++ t ∷ []) ++ z) t n k p q)
    goes_on a u t (inr p) w = go u p w.0 w.1 w.2 w.3
      where
        go : (u : List Tok) → M a u t → (b : A) (z : List Tok) (n : Tok) → Or L M b ((u ++ t ∷ []) ++ z) n → Has (or_info i j).cont t
        go u p b z n (inr q) = mem-right t.code i.cont _ (cond_left t.code j.null j.cont i.first (g.goes_on a u t p (b, z, n, q)))
        go [] p b z n (inl q) = mem-right t.code i.cont _ (cond_right t.code j.null j.cont i.first (g.empty a t p) (f.starts b t z n q))
        go (k ∷ u) p b z n (inl q) = absurd (clash b a ((u ++ t ∷ []) ++ z) u n t k q p)

-- ---- a language where a test holds

pub only_facts : {A : Type 0} (c : Bool) (L : Lang A) (i : Info) (on : Bool) → Facts L i on → Facts (Only c L) i (c && on)
only_facts c L i on f = record {
  starts = λ a t u n h. f.starts a t u n h.1;
  empty = λ a n h. f.empty a n h.1;
  goes_on = λ a u t h w. f.goes_on a u t h.1 (w.0, w.1, w.2, w.3.1);
  unique = λ a b u n h k. f.unique a b u n h.1 k.1;
  live = λ e. let p = and_parts c on e in let x = f.live p.1 in (x.0, x.1, λ n. (p.0, x.2 n));
  dead = λ a u n h. let e = f.dead a u n h.1 in let c-is = h.0 in cc;
  skip = λ e null t out. let p = and_parts c on e in let x = f.skip p.1 null t out in (x.0, (p.0, x.1));
}

-- ---- what begins with one kind, or no token where it is not next

pub unless_facts : {A : Type 0} (none : A) (L : Lang A) (i : Info) (on : Bool) → Facts L i on → i.null ≡ false → Facts (Only on (Unless i.first none L)) (unless_info i) on
unless_facts {A = A} none L i on f full = record {
  starts = λ a t u n h. starts a t u n h.1;
  empty = λ a n h. refl;
  goes_on = λ a u t h w. goes_on a u t h.1 w.0 w.1 w.2 w.3.1;
  unique = λ a b u n h k. unique a b u n h.1 k.1;
  live = λ e. let x = f.live e in (x.0, x.1, λ n. (e, inr (x.2 n)));
  dead = λ a u n h. h.0;
  skip = λ e null t out. (none, (e, inl (refl, refl, absent t (mem t.code i.first) refl out)));
}
  where
    absent : (t : Tok) (b : Bool) → mem t.code i.first ≡ b → (Has i.first t → ⊥) → b ≡ false
    absent t true e out = absurd (out e)
    absent t false e out = refl

    starts : (a : A) (t : Tok) (u : List Tok) (n : Tok) → Unless i.first none L a (t ∷ u) n → Has i.first t
    starts a t u n (inl p) = let e = p.1 in absurd cc
    starts a t u n (inr q) = f.starts a t u n q

    clash : (a b : A) (u : List Tok) (n : Tok) → u ≡ [] → L b u n → ⊥
    clash a b u n e q = let x : i.null ≡ true = f.empty b n (subst (λ (v : List Tok). L b v n) e q) in absurd cc

    unique : (a b : A) (u : List Tok) (n : Tok) → Unless i.first none L a u n → Unless i.first none L b u n → a ≡ b
    unique a b u n (inl p) (inl q) = p.0 ∙ sym q.0
    unique a b u n (inr p) (inr q) = f.unique a b u n p q
    unique a b u n (inl p) (inr q) = absurd (clash a b u n p.1 q)
    unique a b u n (inr p) (inl q) = absurd (clash b a u n q.1 p)

    goes_on : (a : A) (u : List Tok) (t : Tok) → Unless i.first none L a u t → (b : A) (z : List Tok) (n : Tok) → Unless i.first none L b ((u ++ t ∷ []) ++ z) n → Has i.cont t
    goes_on a [] t p b z n (inl q) = let e : t ∷ z ≡ [] = q.1 in absurd cc
    goes_on a (k ∷ u) t p b z n (inl q) = let e : k ∷ ((u ++ t ∷ []) ++ z) ≡ [] = q.1 in absurd cc
    goes_on a u t (inr p) b z n (inr q) = f.goes_on a u t p (b, z, n, q)
    goes_on a [] t (inl p) b z n (inr q) = let h : mem t.code i.first ≡ true = f.starts b t z n q in let g : mem t.code i.first ≡ false = p.2 in absurd cc
    goes_on a (k ∷ u) t (inl p) b z n (inr q) = let e = p.1 in absurd cc

-- ---- any number of texts

pub run_starts : {S A : Type 0} (test : S → Bool) (step : S → A → S) (L : S → Lang A) (i : Info) (on : S → Bool) → ((s : S) → Facts (L s) i (on s)) → i.null ≡ false → (s : S) (xs : List A) (t : Tok) (u : List Tok) (n : Tok) → Run test step L s xs (t ∷ u) n → Has i.first t
run_starts test step L i on f full s [] t u n h = absurd cc
run_starts test step L i on f full s (a ∷ xs) t u n h = go h.1 h.3 h.4
  where
    go : (l : List Tok) → t ∷ u ≡ l ++ h.2 → L s a l (before h.2 n) → Has i.first t
    go [] p one = let e : i.null ≡ true = (f s).empty a (before h.2 n) one in absurd cc
    go (k ∷ l) p one = let e : k ≡ t = cc in subst (Has i.first) e ((f s).starts a k l (before h.2 n) one)

-- one and the rest
abbrev After : {S A : Type 0} → (S → Bool) → (S → A → S) → (S → Lang A) → S → A → Lang (A × List A)
After test step L s x p w n = (x ≡ p.0) × Run test step L (step s p.0) p.1 w n

run_cut : {S A : Type 0} (test : S → Bool) (step : S → A → S) (L : S → Lang A) (i : Info) (on : S → Bool) → ((s : S) → Facts (L s) i (on s)) → i.null ≡ false → disjoint i.cont i.first ≡ true
    → (s : S) (x : A) (u : List Tok) (h : Tok) (b : A) (bs : List A) (w : List Tok) (n : Tok)
    → L s x u h → before w n ≡ h → ((z : List Tok) → w ≡ h ∷ z → (Prefix (L s) (u ++ h ∷ []) → ⊥) ⊎ (Has i.first h))
    → Run test step L s (b ∷ bs) (u ++ w) n → (x ≡ b) × Run test step L (step s b) bs w n
run_cut test step L i on f full dis s x u h b bs w n word is stop m =
    cut (L s) (After test step L s) i i (on s) (f s) (λ y p t v k r. run_starts test step L i on f full (step s p.0) p.1 t v k r.1) dis x u h (b, bs) w n word is stop
    (record { value = b; left = m.1; right = m.2; parts = m.3; one = m.4; two = (refl, m.5) })

pub run_facts : {S A : Type 0} (test : S → Bool) (step : S → A → S) (L : S → Lang A) (i : Info) (on : S → Bool) → ((s : S) → Facts (L s) i (on s)) → i.null ≡ false → disjoint i.cont i.first ≡ true → (s : S) → Facts (Run test step L s) (run_info i) true
run_facts {S = S} {A = A} test step L i on f full dis s = record {
  starts = run_starts test step L i on f full s;
  empty = λ xs n h. refl;
  goes_on = λ xs u t h w. goes_on s xs u t h w.0 w.1 w.2 w.3;
  unique = unique s;
  live = λ e. ([], [], λ n. refl);
  dead = λ xs u n h. refl;
  skip = λ e null t out. ([], refl);
}
  where
    full_one : (s : S) (a : A) (l r : List Tok) (n : Tok) → [] ≡ l ++ r → L s a l n → ⊥
    full_one s a [] r n p one = let e : i.null ≡ true = (f s).empty a n one in absurd cc
    full_one s a (k ∷ l) r n p one = absurd cc

    unique : (s : S) (xs ys : List A) (u : List Tok) (n : Tok) → Run test step L s xs u n → Run test step L s ys u n → xs ≡ ys
    unique s [] [] u n h k = refl
    unique s [] (y ∷ ys) u n h k = absurd (full_one s y k.1 k.2 (before k.2 n) (sym h ∙ k.3) k.4)
    unique s (x ∷ xs) [] u n h k = absurd (full_one s x h.1 h.2 (before h.2 n) (sym k ∙ h.3) h.4)
    unique s (x ∷ xs) (y ∷ ys) u n h k =
        let c : (x ≡ y) × Run test step L (step s y) ys h.2 n = run_cut test step L i on f full dis s x h.1 (before h.2 n) y ys h.2 n h.4 refl (λ z e. inr (run_starts test step L i on f full (step s x) xs (before h.2 n) z n (subst (λ (w : List Tok). Run test step L (step s x) xs w n) e h.5))) (subst (λ (w : List Tok). Run test step L s (y ∷ ys) w n) h.3 k) in
        let e : xs ≡ ys = unique (step s x) xs ys h.2 n h.5 (subst (λ (b : A). Run test step L (step s b) ys h.2 n) (sym c.0) c.1) in
        let d : x ≡ y = c.0 in cc

    goes_on : (s : S) (xs : List A) (u : List Tok) (t : Tok) → Run test step L s xs u t → (ys : List A) (z : List Tok) (n : Tok) → Run test step L s ys ((u ++ t ∷ []) ++ z) n → Has (i.cont ++ i.first) t
    goes_on s [] u t h ys z n w = mem-right t.code i.cont i.first (run_starts test step L i on f full s ys t z n (subst (λ (v : List Tok). Run test step L s ys ((v ++ t ∷ []) ++ z) n) h w))
    goes_on s (x ∷ xs) u t h [] z n w = absurd (none u w)
      where
        none : (v : List Tok) → (v ++ t ∷ []) ++ z ≡ [] → ⊥
        none [] e = absurd cc
        none (k ∷ v) e = absurd cc
    goes_on s (x ∷ xs) u t h (y ∷ ys) z n w = go h.2 h.3 h.4 h.5 (λ e m. goes_on (step s x) xs h.2 t h.5 ys z n (subst (λ (b : A). Run test step L (step s b) ys ((h.2 ++ t ∷ []) ++ z) n) (sym e) m))
      where
        go : (r : List Tok) → u ≡ h.1 ++ r → L s x h.1 (before r t) → Run test step L (step s x) xs r t → (x ≡ y → Run test step L (step s y) ys ((r ++ t ∷ []) ++ z) n → Has (i.cont ++ i.first) t) → Has (i.cont ++ i.first) t
        go [] p one more f' = pick (mem t.code i.cont) refl
          where
            parts : (u ++ t ∷ []) ++ z ≡ h.1 ++ t ∷ z
            parts = rw p (rw append-nil (append_assoc h.1 (t ∷ []) z))

            pick : (c : Bool) → mem t.code i.cont ≡ c → Has (i.cont ++ i.first) t
            pick true e = mem-left t.code i.cont i.first e
            pick false e =
                let c : (x ≡ y) × Run test step L (step s y) ys (t ∷ z) n = run_cut test step L i on f full dis s x h.1 t y ys (t ∷ z) n one refl (λ v q. inl (λ v. let has : Has i.cont t = (f s).goes_on x h.1 t one v in absurd cc)) (subst (λ (v : List Tok). Run test step L s (y ∷ ys) v n) parts w) in
                f' c.0 c.1
        go (k ∷ r) p one more f' =
            let parts : (u ++ t ∷ []) ++ z ≡ h.1 ++ k ∷ (r ++ t ∷ z) = rw p (simp append_assoc) in
            let c : (x ≡ y) × Run test step L (step s y) ys (k ∷ (r ++ t ∷ z)) n = run_cut test step L i on f full dis s x h.1 k y ys (k ∷ (r ++ t ∷ z)) n one refl (λ v q. inr (run_starts test step L i on f full (step s x) xs k r t more)) (subst (λ (v : List Tok). Run test step L s (y ∷ ys) v n) parts w) in
            f' c.0 (subst (λ (v : List Tok). Run test step L (step s y) ys (k ∷ v) n) (sym (append_assoc r (t ∷ []) z)) c.1)

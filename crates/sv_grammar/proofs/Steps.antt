-- How a run goes on, told for loops of the code.
use Rattle.std.proofs.Common.{◌≡◌, ℕ, zero, suc, ◌+◌, ◌≤◌, ◌<◌, Bool, true, false, cond, ◌&&◌, ◌||◌, List, [], ◌∷◌, ◌++◌, length, Ok, Err, refl, sym, ap, subst, append_assoc, arith}
use Rattle.std.proofs.lemmas.List.{length-append, append-nil}
use Rattle.sv_grammar.specs.Tokens.{Tok, next, mem, disjoint, Has}
use Rattle.sv_grammar.specs.Info.{Info}
use Rattle.sv_grammar.specs.Language.{Miss, TooDeep, Out, Answer}
use Rattle.sv_grammar.specs.Reading.{◌>>=◌, run_upto}
use Rattle.sv_grammar.specs.Code.{Code, info, least, texts, read, fine, below, readers, reach, fold_left, no, chain_from, list_from, items_from, pick, subset}
use Rattle.sv_grammar.specs.Code.Code.{Chain, Rep, Items}
use Rattle.sv_grammar.proofs.Facts.{and_parts}
use Rattle.sv_grammar.proofs.Answers.{no_true}
use Rattle.sv_grammar.proofs.Budgets.{reach-le, not_true}
use Rattle.sv_grammar.proofs.Codes.{IsGood, exact, grammar}

pub and_six : (a b c d e f : Bool) → (a && (b && (c && (d && (e && f))))) ≡ true → (a ≡ true) × (b ≡ true) × (c ≡ true) × (d ≡ true) × (e ≡ true) × (f ≡ true)
and_six a b c d e f h =
    let h1 = and_parts a (b && (c && (d && (e && f)))) h in let h2 = and_parts b (c && (d && (e && f))) h1.1 in let h3 = and_parts c (d && (e && f)) h2.1 in let h4 = and_parts d (e && f) h3.1 in let h5 = and_parts e f h4.1 in
    (h1.0, h2.0, h3.0, h4.0, h5.0, h5.1)

module _ {S A : Type 0} (first : S → List ℕ) (on test : S → Bool) (step : S → A → S) (p : S → List Tok → Out A)
    (nil : (s : S) → mem 0 (first s) ≡ false) (shortens : (s : S) (ts : List Tok) (x : A × List Tok) → on s ≡ true → p s ts ≡ Ok x → length x.1 < length ts) where
  abbrev run : ℕ → S → List Tok → Out (List A)
  run f s ts = run_upto f first on test step p s ts

  pub run_fuel : (f g : ℕ) (s : S) (ts : List Tok) → length ts ≤ f → length ts ≤ g → run f s ts ≡ run g s ts
  run_fuel zero zero s ts lf lg = refl
  run_fuel zero (suc g) s [] lf lg = rw (nil s) refl
  run_fuel zero (suc g) s (t ∷ ts) lf lg = absurd (let h : suc (length ts) ≤ 0 = lf in omega arith)
  run_fuel (suc f) zero s [] lf lg = rw (nil s) refl
  run_fuel (suc f) zero s (t ∷ ts) lf lg = absurd (let h : suc (length ts) ≤ 0 = lg in omega arith)
  run_fuel (suc f) (suc g) s ts lf lg = go (mem (next ts).code (first s)) (test s && on s) refl (p s ts) refl (λ x h. run_fuel f g (step s x.0) x.1 (let k = h in omega arith) (let k = h in omega arith))
    where
      go : (b c : Bool) → (test s && on s) ≡ c → (out : Out A) → p s ts ≡ out → ((x : A × List Tok) → length x.1 < length ts → run f (step s x.0) x.1 ≡ run g (step s x.0) x.1)
          → cond b (cond c (out >>= λ x. run f (step s x.0) x.1 >>= λ y. Ok (x.0 ∷ y.0, y.1)) (Err (TooDeep ts))) (Ok ([], ts)) ≡ cond b (cond c (out >>= λ x. run g (step s x.0) x.1 >>= λ y. Ok (x.0 ∷ y.0, y.1)) (Err (TooDeep ts))) (Ok ([], ts))
      go false c e out q f' = refl
      go true false e out q f' = refl
      go true true e (Err m) q f' = refl
      go true true e (Ok x) q f' = rw (f' x (shortens s ts x (and_parts (test s) (on s) e).1 q)) refl

  -- what is made of the values in the end
  module _ {B : Type 0} (make : S → List A → B) (makes : (s : S) (a : A) (bs : List A) → make s (a ∷ bs) ≡ make (step s a) bs) where
    unfoldable pub total : S → List Tok → Out B
    total s ts = run (length ts) s ts >>= λ bs. Ok (make s bs.0, bs.1)

    pub total_stop : (s : S) (ts : List Tok) → mem (next ts).code (first s) ≡ false → total s ts ≡ Ok (make s [], ts)
    unfolding total
    total_stop s [] h = refl
    total_stop s (t ∷ ts) h = rw h refl

    pub total_deep : (s : S) (t : Tok) (ts : List Tok) → Has (first s) t → (test s && on s) ≡ false → total s (t ∷ ts) ≡ Err (TooDeep (t ∷ ts))
    unfolding total
    total_deep s t ts h g = rw (h, g) refl

    pub total_fail : (s : S) (t : Tok) (ts : List Tok) (e : Miss) → Has (first s) t → (test s && on s) ≡ true → p s (t ∷ ts) ≡ Err e → total s (t ∷ ts) ≡ Err e
    unfolding total
    total_fail s t ts e h g q = rw (h, g, q) refl

    pub total_more : (s : S) (t : Tok) (ts : List Tok) (x : A × List Tok) → Has (first s) t → (test s && on s) ≡ true → p s (t ∷ ts) ≡ Ok x → total s (t ∷ ts) ≡ total (step s x.0) x.1
    unfolding total
    total_more s t ts x h g q =
        let lt : length x.1 < suc (length ts) = shortens s (t ∷ ts) x (and_parts (test s) (on s) g).1 q in
        let e : run (length ts) (step s x.0) x.1 ≡ run (length x.1) (step s x.0) x.1 = run_fuel (length ts) (length x.1) (step s x.0) x.1 (omega arith) (omega arith) in
        rw (h, g, q, e) (again (run (length x.1) (step s x.0) x.1))
      where
        again : (out : Out (List A)) → ((out >>= λ y. Ok (x.0 ∷ y.0, y.1)) >>= λ bs. Ok (make s bs.0, bs.1)) ≡ (out >>= λ bs. Ok (make (step s x.0) bs.0, bs.1))
        again (Ok y) = ap (λ (b : B). Ok (b, y.1)) (makes s x.0 y.0)
        again (Err m) = refl

module _ (N : Type 0) (V : N → Type 0) (heads : N → Info) (need : N → ℕ) (table : (n : N) → Code N V (V n)) (good : IsGood N V heads need table) where
  -- a reader takes at least a token where there is no empty text
  pub code_shortens : {A : Type 0} (c : Code N V A) → fine N V heads need c ≡ true → (info N V heads need c).null ≡ false → (d : ℕ) (ts : List Tok) (x : A × List Tok)
      → reach (least N V heads need c) d ≡ true → read N V heads need (readers N V heads need table d) d c ts ≡ Ok x → length x.1 < length ts
  code_shortens {A = A} c h full d ts x is e =
      let a = exact N V heads need table good c h d (reach-le (least N V heads need c) d is) ts in
      let r = subst (λ (out : Out A). Answer (λ k. texts N V heads need (below N V heads need table k) k c) d ts out) e a in
      go r.prefix r.parts r.word
    where
      go : (u : List Tok) → ts ≡ u ++ x.1 → texts N V heads need (below N V heads need table d) d c x.0 u (next x.1) → length x.1 < length ts
      go [] q w = absurd (no_true (info N V heads need c).null (((grammar N V heads need table good c h).facts d).empty x.0 (next x.1) w) full)
      go (k ∷ u) q w = let e : length ts ≡ suc (length u + length x.1) = rw q (ap suc (length-append u x.1)) in omega arith

  module _ {A T : Type 0} (depth : A → ℕ) (step : A → T → A) (x : Code N V A) (t : Code N V T) (h : fine N V heads need (Chain depth step x t) ≡ true) (d : ℕ) where
    abbrev I : Info
    I = info N V heads need t

    link_six : (fine N V heads need x ≡ true) × (fine N V heads need t ≡ true) × (no I.null ≡ true) × (disjoint I.cont I.first ≡ true) × (no (mem 0 I.first) ≡ true) × (disjoint (info N V heads need x).cont I.first ≡ true)
    link_six = and_six (fine N V heads need x) (fine N V heads need t) (no I.null) (disjoint I.cont I.first) (no (mem 0 I.first)) (disjoint (info N V heads need x).cont I.first) h

    link_fine : fine N V heads need t ≡ true
    link_fine = link_six.1

    link_full : (info N V heads need t).null ≡ false
    link_full = not_true (info N V heads need t).null link_six.2

    pub link_nil : mem 0 (info N V heads need t).first ≡ false
    link_nil = not_true (mem 0 (info N V heads need t).first) link_six.4

    shortens_ : (s : A) (ts : List Tok) (y : T × List Tok) → reach (least N V heads need t) d ≡ true → read N V heads need (readers N V heads need table d) d t ts ≡ Ok y → length y.1 < length ts
    shortens_ s ts y is e = code_shortens t link_fine link_full d ts y is e

    pub chain_stop : (a : A) (ts : List Tok) → mem (next ts).code (info N V heads need t).first ≡ false → chain_from N V heads need table depth step t d a ts ≡ Ok (a, ts)
    unfolding chain_from total
    chain_stop a ts g = total_stop (λ s. (info N V heads need t).first) (λ s. reach (least N V heads need t) d) (λ s. reach (suc (depth s)) d) step (λ s. read N V heads need (readers N V heads need table d) d t) (λ s. link_nil) shortens_ (fold_left step) (λ s b bs. refl) a ts g

    pub chain_deep : (a : A) (k : Tok) (ts : List Tok) → Has (info N V heads need t).first k → (reach (suc (depth a)) d && reach (least N V heads need t) d) ≡ false → chain_from N V heads need table depth step t d a (k ∷ ts) ≡ Err (TooDeep (k ∷ ts))
    unfolding chain_from total
    chain_deep a k ts g e = total_deep (λ s. (info N V heads need t).first) (λ s. reach (least N V heads need t) d) (λ s. reach (suc (depth s)) d) step (λ s. read N V heads need (readers N V heads need table d) d t) (λ s. link_nil) shortens_ (fold_left step) (λ s b bs. refl) a k ts g e

    pub chain_fail : (a : A) (k : Tok) (ts : List Tok) (m : Miss) → Has (info N V heads need t).first k → (reach (suc (depth a)) d && reach (least N V heads need t) d) ≡ true → read N V heads need (readers N V heads need table d) d t (k ∷ ts) ≡ Err m → chain_from N V heads need table depth step t d a (k ∷ ts) ≡ Err m
    unfolding chain_from total
    chain_fail a k ts m g e q = total_fail (λ s. (info N V heads need t).first) (λ s. reach (least N V heads need t) d) (λ s. reach (suc (depth s)) d) step (λ s. read N V heads need (readers N V heads need table d) d t) (λ s. link_nil) shortens_ (fold_left step) (λ s b bs. refl) a k ts m g e q

    pub chain_more : (a : A) (k : Tok) (ts : List Tok) (y : T × List Tok) → Has (info N V heads need t).first k → (reach (suc (depth a)) d && reach (least N V heads need t) d) ≡ true → read N V heads need (readers N V heads need table d) d t (k ∷ ts) ≡ Ok y → chain_from N V heads need table depth step t d a (k ∷ ts) ≡ chain_from N V heads need table depth step t d (step a y.0) y.1
    unfolding chain_from total
    chain_more a k ts y g e q = total_more (λ s. (info N V heads need t).first) (λ s. reach (least N V heads need t) d) (λ s. reach (suc (depth s)) d) step (λ s. read N V heads need (readers N V heads need table d) d t) (λ s. link_nil) shortens_ (fold_left step) (λ s b bs. refl) a k ts y g e q

  module _ {A : Type 0} (c : Code N V A) (h : fine N V heads need (Rep c) ≡ true) (d : ℕ) where
    abbrev J : Info
    J = info N V heads need c

    rep_four : (fine N V heads need c ≡ true) × (no J.null ≡ true) × (disjoint J.cont J.first ≡ true) × (no (mem 0 J.first) ≡ true)
    rep_four =
        let h1 = and_parts (fine N V heads need c) (no J.null && (disjoint J.cont J.first && no (mem 0 J.first))) h in
        let h2 = and_parts (no J.null) (disjoint J.cont J.first && no (mem 0 J.first)) h1.1 in
        let h3 = and_parts (disjoint J.cont J.first) (no (mem 0 J.first)) h2.1 in
        (h1.0, h2.0, h3.0, h3.1)

    pub rep_nil : mem 0 J.first ≡ false
    rep_nil = not_true (mem 0 J.first) rep_four.3

    pub rep_short : (s : Unit {0}) (ts : List Tok) (y : A × List Tok) → reach (least N V heads need c) d ≡ true → read N V heads need (readers N V heads need table d) d c ts ≡ Ok y → length y.1 < length ts
    rep_short s ts y is e = code_shortens c rep_four.0 (not_true J.null rep_four.1) d ts y is e

    abbrev reading : List Tok → Out A
    reading ts = read N V heads need (readers N V heads need table d) d c ts

    abbrev lists : List A → List Tok → Out (List A)
    lists prefix ts = list_from N V heads need table c d prefix ts

    pub list_is : (ts : List Tok) → read N V heads need (readers N V heads need table d) d (Rep c) ts ≡ lists [] ts
    unfolding list_from
    list_is ts = whole (read N V heads need (readers N V heads need table d) d (Rep c) ts)
      where
        whole : (o : Out (List A)) → o ≡ (o >>= λ xs. Ok ([] ++ xs.0, xs.1))
        whole (Ok x) = refl
        whole (Err m) = refl

    pub list_stop : (prefix : List A) (ts : List Tok) → mem (next ts).code J.first ≡ false → lists prefix ts ≡ Ok (prefix, ts)
    unfolding list_from
    list_stop prefix [] g = ap (λ (xs : List A). Ok (xs, [])) (append-nil prefix)
    list_stop prefix (t ∷ ts) g = rw g (ap (λ (xs : List A). Ok (xs, t ∷ ts)) (append-nil prefix))

    pub list_deep : (prefix : List A) (t : Tok) (ts : List Tok) → Has J.first t → reach (least N V heads need c) d ≡ false → lists prefix (t ∷ ts) ≡ Err (TooDeep (t ∷ ts))
    unfolding list_from
    list_deep prefix t ts g e = rw (g, e) refl

    pub list_fail : (prefix : List A) (t : Tok) (ts : List Tok) (m : Miss) → Has J.first t → reach (least N V heads need c) d ≡ true → reading (t ∷ ts) ≡ Err m → lists prefix (t ∷ ts) ≡ Err m
    unfolding list_from
    list_fail prefix t ts m g e q = rw (g, e, q) refl

    pub list_more : (prefix : List A) (t : Tok) (ts : List Tok) (y : A × List Tok) → Has J.first t → reach (least N V heads need c) d ≡ true → reading (t ∷ ts) ≡ Ok y → lists prefix (t ∷ ts) ≡ lists (prefix ++ y.0 ∷ []) y.1
    unfolding list_from
    list_more prefix t ts y g e q =
        let lt : length y.1 < suc (length ts) = rep_short tt (t ∷ ts) y e q in
        let same_run : run_upto (length ts) (λ s. J.first) (λ s. reach (least N V heads need c) d) (λ (s : Unit {0}). true) (λ s x. s) (λ s. reading) tt y.1 ≡ run_upto (length y.1) (λ s. J.first) (λ s. reach (least N V heads need c) d) (λ (s : Unit {0}). true) (λ s x. s) (λ s. reading) tt y.1 =
        run_fuel (λ s. J.first) (λ s. reach (least N V heads need c) d) (λ (s : Unit {0}). true) (λ s x. s) (λ s. reading) (λ s. rep_nil) rep_short (length ts) (length y.1) tt y.1 (omega arith) (omega arith) in
        rw (g, q, same_run, e) (again _)
      where
        again : (o : Out (List A)) → ((o >>= λ xs. Ok (y.0 ∷ xs.0, xs.1)) >>= λ xs. Ok (prefix ++ xs.0, xs.1)) ≡ (o >>= λ xs. Ok ((prefix ++ y.0 ∷ []) ++ xs.0, xs.1))
        again (Ok x) = ap (λ (xs : List A). Ok (xs, x.1)) (sym (append_assoc prefix (y.0 ∷ []) x.0))
        again (Err m) = refl

  module _ {A : Type 0} (late : A → Bool) (a b : Code N V A) (h : fine N V heads need (Items late a b) ≡ true) (d : ℕ) where
    abbrev JA : Info
    JA = info N V heads need a

    abbrev JB : Info
    JB = info N V heads need b

    pub record ItemFacts : Type 0 where
      pub fa : fine N V heads need a ≡ true
      pub fb : fine N V heads need b ≡ true
      pub na : no JA.null ≡ true
      pub nb : no JB.null ≡ true
      pub za : no (mem 0 JA.first) ≡ true
      pub zb : no (mem 0 JB.first) ≡ true

    item_facts : ItemFacts
    item_facts =
        let h1 = and_parts (fine N V heads need a) (fine N V heads need b && (no JA.null && (no JB.null && (subset JB.first JA.first && (disjoint (JA.cont ++ JB.cont) JA.first && (disjoint JA.cont JA.first && (disjoint JB.cont JA.first && (no (mem 0 JA.first) && no (mem 0 JB.first))))))))) h in
        let h2 = and_parts (fine N V heads need b) (no JA.null && (no JB.null && (subset JB.first JA.first && (disjoint (JA.cont ++ JB.cont) JA.first && (disjoint JA.cont JA.first && (disjoint JB.cont JA.first && (no (mem 0 JA.first) && no (mem 0 JB.first)))))))) h1.1 in
        let h3 = and_parts (no JA.null) (no JB.null && (subset JB.first JA.first && (disjoint (JA.cont ++ JB.cont) JA.first && (disjoint JA.cont JA.first && (disjoint JB.cont JA.first && (no (mem 0 JA.first) && no (mem 0 JB.first))))))) h2.1 in
        let h4 = and_parts (no JB.null) (subset JB.first JA.first && (disjoint (JA.cont ++ JB.cont) JA.first && (disjoint JA.cont JA.first && (disjoint JB.cont JA.first && (no (mem 0 JA.first) && no (mem 0 JB.first)))))) h3.1 in
        let h5 = and_parts (subset JB.first JA.first) (disjoint (JA.cont ++ JB.cont) JA.first && (disjoint JA.cont JA.first && (disjoint JB.cont JA.first && (no (mem 0 JA.first) && no (mem 0 JB.first))))) h4.1 in
        let h6 = and_parts (disjoint (JA.cont ++ JB.cont) JA.first) (disjoint JA.cont JA.first && (disjoint JB.cont JA.first && (no (mem 0 JA.first) && no (mem 0 JB.first)))) h5.1 in
        let h7 = and_parts (disjoint JA.cont JA.first) (disjoint JB.cont JA.first && (no (mem 0 JA.first) && no (mem 0 JB.first))) h6.1 in
        let h8 = and_parts (disjoint JB.cont JA.first) (no (mem 0 JA.first) && no (mem 0 JB.first)) h7.1 in
        let h9 = and_parts (no (mem 0 JA.first)) (no (mem 0 JB.first)) h8.1 in
        record { fa = h1.0; fb = h2.0; na = h3.0; nb = h4.0; za = h9.0; zb = h9.1 }

    abbrev kinds : Bool → List ℕ
    kinds s = (pick s JB JA).first

    abbrev able : Bool → Bool
    able s = pick s (reach (least N V heads need b) d) (reach (least N V heads need a) d)

    abbrev item : Bool → List Tok → Out A
    item s r = pick s (read N V heads need (readers N V heads need table d) d b r) (read N V heads need (readers N V heads need table d) d a r)

    item_nil : (s : Bool) → mem 0 (kinds s) ≡ false
    item_nil true = not_true (mem 0 JB.first) item_facts.zb
    item_nil false = not_true (mem 0 JA.first) item_facts.za

    pub item_short : (s : Bool) (ts : List Tok) (y : A × List Tok) → able s ≡ true → item s ts ≡ Ok y → length y.1 < length ts
    item_short true ts y is e = code_shortens b item_facts.fb (not_true JB.null item_facts.nb) d ts y is e
    item_short false ts y is e = code_shortens a item_facts.fa (not_true JA.null item_facts.na) d ts y is e

    abbrev froms : Bool → List A → List Tok → Out (List A)
    froms s prefix ts = items_from N V heads need table late a b d s prefix ts

    abbrev go_on : ℕ → Bool → List Tok → Out (List A)
    go_on f s ts = run_upto f kinds able (λ s. true) (λ s x. s || late x) item s ts

    pub items_is : (ts : List Tok) → read N V heads need (readers N V heads need table d) d (Items late a b) ts ≡ froms false [] ts
    unfolding items_from
    items_is ts = whole (go_on (length ts) false ts)
      where
        whole : (o : Out (List A)) → o ≡ (o >>= λ xs. Ok ([] ++ xs.0, xs.1))
        whole (Ok x) = refl
        whole (Err m) = refl

    pub items_stop : (s : Bool) (prefix : List A) (ts : List Tok) → mem (next ts).code (kinds s) ≡ false → froms s prefix ts ≡ Ok (prefix, ts)
    unfolding items_from
    items_stop s prefix [] g = ap (λ (xs : List A). Ok (xs, [])) (append-nil prefix)
    items_stop s prefix (t ∷ ts) g = rw g (ap (λ (xs : List A). Ok (xs, t ∷ ts)) (append-nil prefix))

    pub items_deep : (s : Bool) (prefix : List A) (t : Tok) (ts : List Tok) → Has (kinds s) t → able s ≡ false → froms s prefix (t ∷ ts) ≡ Err (TooDeep (t ∷ ts))
    unfolding items_from
    items_deep s prefix t ts g e = rw (g, e) refl

    pub items_fail : (s : Bool) (prefix : List A) (t : Tok) (ts : List Tok) (m : Miss) → Has (kinds s) t → able s ≡ true → item s (t ∷ ts) ≡ Err m → froms s prefix (t ∷ ts) ≡ Err m
    unfolding items_from
    items_fail s prefix t ts m g e q = rw (g, e, q) refl

    pub items_more : (s : Bool) (prefix : List A) (t : Tok) (ts : List Tok) (y : A × List Tok) → Has (kinds s) t → able s ≡ true → item s (t ∷ ts) ≡ Ok y → froms s prefix (t ∷ ts) ≡ froms (s || late y.0) (prefix ++ y.0 ∷ []) y.1
    unfolding items_from
    items_more s prefix t ts y g e q =
        let lt : length y.1 < suc (length ts) = item_short s (t ∷ ts) y e q in
        let same_run : go_on (length ts) (s || late y.0) y.1 ≡ go_on (length y.1) (s || late y.0) y.1 =
        run_fuel kinds able (λ s. true) (λ s x. s || late x) item item_nil item_short (length ts) (length y.1) (s || late y.0) y.1 (omega arith) (omega arith) in
        rw (g, e, q, same_run) (again (go_on (length y.1) (s || late y.0) y.1))
      where
        again : (o : Out (List A)) → ((o >>= λ xs. Ok (y.0 ∷ xs.0, xs.1)) >>= λ xs. Ok (prefix ++ xs.0, xs.1)) ≡ (o >>= λ xs. Ok ((prefix ++ y.0 ∷ []) ++ xs.0, xs.1))
        again (Ok x) = ap (λ (xs : List A). Ok (xs, x.1)) (sym (append_assoc prefix (y.0 ∷ []) x.0))
        again (Err m) = refl

-- Every grammar that passes its tests is read exactly.
use Rattle.std.proofs.Common.{◌≡◌, ℕ, zero, suc, ◌+◌, ◌≤◌, ◌<◌, Bool, true, false, cond, ◌&&◌, ◌||◌, List, [], length, Ok, inl, inr, refl, ap, subst, ◌∙◌, arith}
use Rattle.std.proofs.lemmas.List.{append-nil}
use Rattle.sv_grammar.specs.Code.{Code, reach, larger, smaller, no, fold_left, info, least, texts, read, fine, leads, below, readers, subset, pick, pick_lang, item_info}
use Rattle.sv_grammar.specs.Code.Code.{One, Done, Seq, Map, Alt, Opt, Rep, Items, Chain, Once, Inner}
use Rattle.sv_grammar.specs.Info.{Info, then_info, return_info, one_info, or_info, run_info}
use Rattle.sv_grammar.specs.Language.{Lang, Then, OneOf, Return, Or, Only, Run, Below, Out, Answer}
use Rattle.sv_grammar.specs.Reading.{◌>>=◌, either, run_upto}
use Rattle.sv_grammar.specs.Tokens.{Tok, mem, disjoint}
use Rattle.sv_grammar.proofs.Answers.{Grammar, Begins, Parts, disjoint_nil, seq_grammar, seq_begins, seq_answer, one_answer, one_begins, return_grammar, return_answer, same_answer, shift_answer, Seq as Then_}
use Rattle.sv_grammar.proofs.Budgets.{reach-le, le-reach, larger_parts, larger_of, smaller_is, not_true, first_kept, low_null, or_true, made_facts, reach_more, Sub, then_sub, run_sub, pick_sub, or_sub, within, recast, item_facts}
use Rattle.sv_grammar.proofs.Choices.{Pair, Rises, Either, When, either_grammar, either_begins, either_answer, when_grammar, when_begins, when_answer, optional_begins, optional_answer}
use Rattle.sv_grammar.proofs.Facts.{Facts, then_facts, one_facts, return_facts, or_facts, only_facts, unless_facts, run_facts, nothing_facts, and_parts}
use Rattle.sv_grammar.proofs.Loops.{Looping, Runs, run_grammar, run_begins, run_answer}

module _ (N : Type 0) (V : N → Type 0) (heads : N → Info) (need : N → ℕ) where
  abbrev inf : {A : Type 0} → Code N V A → Info
  inf c = info N V heads need c

  abbrev low : {A : Type 0} → Code N V A → ℕ
  low c = least N V heads need c

  abbrev tx : ((n : N) → Lang (V n)) → ℕ → {A : Type 0} → Code N V A → Lang A
  tx E d c = texts N V heads need E d c

  abbrev ok : {A : Type 0} → Code N V A → Type 0
  ok c = fine N V heads need c ≡ true

  pub texts_facts : (E : (n : N) → Lang (V n)) (d : ℕ) → ((n : N) → Facts (E n) (heads n) (reach (suc (need n)) d)) → {A : Type 0} (c : Code N V A) → ok c → Facts (tx E d c) (inf c) (reach (low c) d)
  texts_facts E d es (One ks) h = subst (λ (b : Bool). Facts (OneOf ks) (one_info ks) b) (and_parts _ _ h).0 (one_facts ks)
  texts_facts E d es (Done a) h = return_facts a
  texts_facts E d es (Seq a b) h =
      let h1 = and_parts _ _ h in let h2 = and_parts _ _ h1.1 in
      let fa = texts_facts E d es a h1.0 in let fb = texts_facts E d es b h2.0 in
      then_facts (tx E d a) (λ x. Then (tx E d b) (λ y. Return (x, y))) (inf a) (then_info (inf b) return_info) (reach (low a) d) (λ x. reach (low b) d) (reach (larger (low a) (low b)) d) fa
      (λ x. made_facts (λ y. (x, y)) (tx E d b) (inf b) (reach (low b) d) fb)
      (rw (first_kept (inf b)) h2.1)
      (λ e. let p = larger_parts (low a) (low b) d e in (p.0, λ x u n w. p.1))
      (λ x u n w e. larger_of (low a) (low b) d (fa.dead x u n w) e)
  texts_facts E d es (Map f a) h = made_facts f (tx E d a) (inf a) (reach (low a) d) (texts_facts E d es a h)
  texts_facts E d es (Alt a b) h =
      let h1 = and_parts _ _ h in let h2 = and_parts _ _ h1.1 in let h3 = and_parts _ _ h2.1 in let h4 = and_parts _ _ h3.1 in
      let fa = texts_facts E d es a h1.0 in let fb = texts_facts E d es b h2.0 in
      subst (λ (c : Bool). Facts (Or (tx E d a) (tx E d b)) (or_info (inf a) (inf b)) c) (smaller_is (low a) (low b) d)
      (or_facts (tx E d a) (tx E d b) (inf a) (inf b) (reach (low a) d) (reach (low b) d) fa fb (not_true _ h3.0) h4.0 (low_null (inf b).null (low b) d h4.1))
  texts_facts E d es (Opt x a) h =
      let h1 = and_parts _ _ h in
      unless_facts x (tx E d a) (inf a) (reach (low a) d) (texts_facts E d es a h1.0) (not_true _ h1.1)
  texts_facts E d es (Rep a) h =
      let h1 = and_parts _ _ h in let h2 = and_parts _ _ h1.1 in let h3 = and_parts _ _ h2.1 in
      run_facts (λ (s : Unit {0}). true) (λ s x. s) (λ s. tx E d a) (inf a) (λ s. reach (low a) d) (λ s. texts_facts E d es a h1.0) (not_true _ h2.0) h3.0 tt
  texts_facts E d es (Items late a b) h =
      let h1 = and_parts _ _ h in let h2 = and_parts _ _ h1.1 in let h3 = and_parts _ _ h2.1 in let h4 = and_parts _ _ h3.1 in let h5 = and_parts _ _ h4.1 in let h6 = and_parts _ _ h5.1 in
      run_facts (λ s. true) (λ s x. s || late x) (λ s. pick_lang s (tx E d b) (tx E d a)) (item_info (inf a) (inf b)) (λ s. pick s (reach (low b) d) (reach (low a) d))
      (item_facts (tx E d a) (tx E d b) (inf a) (inf b) (reach (low a) d) (reach (low b) d) (texts_facts E d es a h1.0) (texts_facts E d es b h2.0) (not_true _ h3.0) (not_true _ h4.0) h5.0) refl h6.0 false
  texts_facts E d es (Chain depth step x t) h =
      let h1 = and_parts _ _ h in let h2 = and_parts _ _ h1.1 in let h3 = and_parts _ _ h2.1 in let h4 = and_parts _ _ h3.1 in let h5 = and_parts _ _ h4.1 in
      let fx = texts_facts E d es x h1.0 in let ft = texts_facts E d es t h2.0 in
      let run = λ (a : _). run_facts (λ s. reach (suc (depth s)) d) step (λ s. tx E d t) (inf t) (λ s. reach (low t) d) (λ s. ft) (not_true _ h3.0) h4.0 a in
      then_facts (tx E d x) (λ a. Then (Run (λ s. reach (suc (depth s)) d) step (λ s. tx E d t) a) (λ bs. Return (fold_left step a bs))) (inf x) (then_info (run_info (inf t)) return_info) (reach (low x) d) (λ a. true) (reach (low x) d) fx
      (λ a. made_facts (fold_left step a) (Run (λ s. reach (suc (depth s)) d) step (λ s. tx E d t) a) (run_info (inf t)) true (run a))
      (rw (first_kept (run_info (inf t))) h5.1)
      (λ e. (e, λ a u n w. refl)) (λ a u n w e. fx.dead a u n w)
  texts_facts E d es (Once depth join x t) h =
      let h1 = and_parts _ _ h in let h2 = and_parts _ _ h1.1 in let h3 = and_parts _ _ h2.1 in
      let fx = texts_facts E d es x h1.0 in let ft = texts_facts E d es t h2.0 in
      then_facts (tx E d x) (λ a. Or (Only (reach (suc (depth a)) d) (Then (tx E d t) (λ y. Return (join a y)))) (Return a)) (inf x) (or_info (then_info (inf t) return_info) return_info) (reach (low x) d) (λ a. (reach (suc (depth a)) d && reach (low t) d) || true) (reach (low x) d) fx
      (λ a. or_facts (Only (reach (suc (depth a)) d) (Then (tx E d t) (λ y. Return (join a y)))) (Return a) (then_info (inf t) return_info) return_info (reach (suc (depth a)) d && reach (low t) d) true
      (only_facts (reach (suc (depth a)) d) (Then (tx E d t) (λ y. Return (join a y))) (then_info (inf t) return_info) (reach (low t) d) (made_facts (join a) (tx E d t) (inf t) (reach (low t) d) ft))
      (return_facts a)
      (let e : (inf t).null ≡ false = not_true _ h3.0 in rw e refl)
      (disjoint_nil (then_info (inf t) return_info).first)
      (λ e. refl))
      (rw (append-nil (then_info (inf t) return_info).first, first_kept (inf t)) h3.1)
      (λ e. (e, λ a u n w. or_true (reach (suc (depth a)) d && reach (low t) d))) (λ a u n w e. fx.dead a u n w)
  texts_facts E d es (Inner n) h = es n

  pub texts_mono : (E F : (n : N) → Lang (V n)) (d e : ℕ) → d ≤ e → ((n : N) → Sub (E n) (F n)) → {A : Type 0} (c : Code N V A) → Sub (tx E d c) (tx F e c)
  texts_mono E F d e le es (One ks) a u n w = w
  texts_mono E F d e le es (Done x) a u n w = w
  texts_mono E F d e le es (Seq a b) y u n w = then_sub (tx E d a) (tx F e a) (λ x. Then (tx E d b) (λ y. Return (x, y))) (λ x. Then (tx F e b) (λ y. Return (x, y))) (texts_mono E F d e le es a) (λ x. then_sub (tx E d b) (tx F e b) (λ y. Return (x, y)) (λ y. Return (x, y)) (texts_mono E F d e le es b) (λ y a u n w. w)) y u n w
  texts_mono E F d e le es (Map f a) y u n w = then_sub (tx E d a) (tx F e a) (λ x. Return (f x)) (λ x. Return (f x)) (texts_mono E F d e le es a) (λ x a u n w. w) y u n w
  texts_mono E F d e le es (Alt a b) y u n w = or_sub (tx E d a) (tx F e a) (tx E d b) (tx F e b) (texts_mono E F d e le es a) (texts_mono E F d e le es b) y u n w
  texts_mono E F d e le es (Opt x a) y u n w = (reach_more (low a) d e le w.0, elim w.1 [ inl p ↦ inl p | inr p ↦ inr (texts_mono E F d e le es a y u n p) ])
  texts_mono E F d e le es (Rep a) y u n w = run_sub (λ (s : Unit {0}). true) (λ s. true) (λ s x. s) (λ s. tx E d a) (λ s. tx F e a) (λ s h. h) (λ s. texts_mono E F d e le es a) tt y u n w
  texts_mono E F d e le es (Items late a b) y u n w = run_sub (λ s. true) (λ s. true) (λ s x. s || late x) (λ s. pick_lang s (tx E d b) (tx E d a)) (λ s. pick_lang s (tx F e b) (tx F e a)) (λ s h. h) (pick_sub (tx E d b) (tx F e b) (tx E d a) (tx F e a) (texts_mono E F d e le es b) (texts_mono E F d e le es a)) false y u n w
  texts_mono E F d e le es (Chain depth step x t) y u n w = then_sub (tx E d x) (tx F e x) (λ a. Then (Run (λ s. reach (suc (depth s)) d) step (λ s. tx E d t) a) (λ bs. Return (fold_left step a bs))) (λ a. Then (Run (λ s. reach (suc (depth s)) e) step (λ s. tx F e t) a) (λ bs. Return (fold_left step a bs))) (texts_mono E F d e le es x)
      (λ a. then_sub (Run (λ s. reach (suc (depth s)) d) step (λ s. tx E d t) a) (Run (λ s. reach (suc (depth s)) e) step (λ s. tx F e t) a) (λ bs. Return (fold_left step a bs)) (λ bs. Return (fold_left step a bs)) (run_sub (λ s. reach (suc (depth s)) d) (λ s. reach (suc (depth s)) e) step (λ s. tx E d t) (λ s. tx F e t) (λ s h. reach_more (suc (depth s)) d e le h) (λ s. texts_mono E F d e le es t) a) (λ bs a u n w. w)) y u n w
  texts_mono E F d e le es (Once depth join x t) y u n w = then_sub (tx E d x) (tx F e x) (λ a. Or (Only (reach (suc (depth a)) d) (Then (tx E d t) (λ y. Return (join a y)))) (Return a)) (λ a. Or (Only (reach (suc (depth a)) e) (Then (tx F e t) (λ y. Return (join a y)))) (Return a)) (texts_mono E F d e le es x)
      (λ a. or_sub (Only (reach (suc (depth a)) d) (Then (tx E d t) (λ y. Return (join a y)))) (Only (reach (suc (depth a)) e) (Then (tx F e t) (λ y. Return (join a y)))) (Return a) (Return a)
      (λ b u n w. (reach_more (suc (depth a)) d e le w.0, then_sub (tx E d t) (tx F e t) (λ y. Return (join a y)) (λ y. Return (join a y)) (texts_mono E F d e le es t) (λ y a u n w. w) b u n w.1)) (λ b u n w. w)) y u n w
  texts_mono E F d e le es (Inner n) y u m w = es n y u m w

  -- a table that passes the tests
  pub record IsGood (table : (n : N) → Code N V (V n)) : Type 0 where
    pub fine_ : (n : N) → ok (table n)
    pub first1 : (n : N) → subset (inf (table n)).first (heads n).first ≡ true
    pub first2 : (n : N) → subset (heads n).first (inf (table n)).first ≡ true
    pub cont_ : (n : N) → subset (inf (table n)).cont (heads n).cont ≡ true
    pub null_ : (n : N) → (inf (table n)).null ≡ (heads n).null
    pub least_ : (n : N) → low (table n) ≡ need n
    -- a production begins only with productions that come before it
    pub order : N → ℕ
    pub leads_ : (n : N) → leads N V heads need (λ m. reach (suc (order m)) (order n)) (table n) ≡ true

  module _ (table : (n : N) → Code N V (V n)) (good : IsGood table) where
    abbrev bl : ℕ → (n : N) → Lang (V n)
    bl d n = below N V heads need table d n

    pub below_facts : (d : ℕ) (n : N) → Facts (bl d n) (heads n) (reach (suc (need n)) d)
    below_facts zero n = nothing_facts (heads n)
    below_facts (suc d) n = recast (tx (below N V heads need table d) d (table n)) (inf (table n)) (heads n) (reach (low (table n)) d) (reach (need n) d)
        (good.first1 n) (good.first2 n) (good.cont_ n) (good.null_ n) (ap (λ k. reach k d) (good.least_ n)) (texts_facts (below N V heads need table d) d (below_facts d) (table n) (good.fine_ n))

    pub below_mono : (d e : ℕ) → d ≤ e → (n : N) → Sub (bl d n) (bl e n)
    below_mono zero e le n a u k w = absurd w
    below_mono (suc d) zero le n a u k w = absurd (omega arith)
    below_mono (suc d) (suc e) le n a u k w = texts_mono (below N V heads need table d) (below N V heads need table e) d e (omega arith) (below_mono d e (omega arith)) (table n) a u k w

    -- the texts of a code at each budget
    abbrev pub fam : {A : Type 0} → Code N V A → ℕ → Lang A
    fam c d = tx (below N V heads need table d) d c

    abbrev pub on : {A : Type 0} → Code N V A → ℕ → Bool
    on c d = reach (low c) d

    pub grammar : {A : Type 0} (c : Code N V A) → ok c → Grammar (fam c) (inf c) (on c)
    grammar c h = record {
      facts = λ d. texts_facts (below N V heads need table d) d (below_facts d) c h;
      mono = λ d e le a u n w. texts_mono (below N V heads need table d) (below N V heads need table e) d e le (below_mono d e le) c a u n w;
      high = λ e. (e + low c, omega arith, le-reach (low c) (e + low c) (omega arith));
    }

    -- ---- the parts of each kind of code

    abbrev Make : {A B : Type 0} → (A → B) → A → ℕ → Lang B
    Make f x d = Return (f x)

    made_parts : {A B : Type 0} (f : A → B) (c : Code N V A) → ok c → Parts (fam c) (Make f) (inf c) return_info (on c) (λ x d. true) (on c)
    made_parts f c h = record {
      left = grammar c h;
      right = λ x. return_grammar (f x);
      apart_ = disjoint_nil (inf c).cont;
      up = λ d e. (e, λ x u n w. refl);
      down = λ d x u n w e. (texts_facts (below N V heads need table d) d (below_facts d) c h).dead x u n w;
      both_high = (grammar c h).high;
    }

    made_grammar : {A B : Type 0} (f : A → B) (c : Code N V A) → ok c → Grammar (Then_ (fam c) (Make f)) (then_info (inf c) return_info) (on c)
    made_grammar f c h = seq_grammar (fam c) (Make f) (inf c) return_info (on c) (λ x d. true) (on c) (made_parts f c h)

    made_begins : {A B : Type 0} (f : A → B) (c : Code N V A) → ok c → Begins (fam c) (inf c) → Begins (Then_ (fam c) (Make f)) (then_info (inf c) return_info)
    made_begins f c h b = seq_begins (fam c) (Make f) (inf c) return_info (on c) (λ x d. true) (on c) (made_parts f c h) b (λ null x t g. absurd cc)

    abbrev Second : {A B : Type 0} → Code N V B → A → ℕ → Lang (A × B)
    Second b x = Then_ (fam b) (Make (λ y. (x, y)))

    seq_parts : {A B : Type 0} (a : Code N V A) (b : Code N V B) → ok (Seq a b) → Parts (fam a) (Second b) (inf a) (then_info (inf b) return_info) (on a) (λ x d. on b d) (on (Seq a b))
    seq_parts a b h =
        let h1 = and_parts _ _ h in let h2 = and_parts _ _ h1.1 in
        record {
          left = grammar a h1.0;
          right = λ x. made_grammar (λ y. (x, y)) b h2.0;
          apart_ = rw (first_kept (inf b)) h2.1;
          up = λ d e. (let p = larger_parts (low a) (low b) d e in (p.0, λ x u n w. p.1));
          down = λ d x u n w e. larger_of (low a) (low b) d ((texts_facts (below N V heads need table d) d (below_facts d) a h1.0).dead x u n w) e;
          both_high = (grammar (Seq a b) h).high;
        }

    abbrev Test : {A : Type 0} → (A → ℕ) → ℕ → A → Bool
    Test depth d s = reach (suc (depth s)) d

    looping : {S A : Type 0} (depth : S → ℕ) (t : Code N V A) → ok t → (inf t).null ≡ false → disjoint (inf t).cont (inf t).first ≡ true → mem 0 (inf t).first ≡ false → Looping (Test depth) (λ s. fam t) (inf t) (λ s. inf t) (λ s. on t)
    looping depth t h full dis nil = record {
      body = λ s. grammar t h;
      facts = λ d s. texts_facts (below N V heads need table d) d (below_facts d) t h;
      full = full;
      full_ = λ s. full;
      apart_ = dis;
      each_apart = λ s. dis;
      up = λ d e le s g. reach_more (suc (depth s)) d e le g;
      high = λ s e. (e + suc (depth s) + low t, omega arith, le-reach (suc (depth s)) (e + suc (depth s) + low t) (omega arith), le-reach (low t) (e + suc (depth s) + low t) (omega arith));
      nil = λ s. nil;
    }

    plain : {A : Type 0} (t : Code N V A) → ok t → (inf t).null ≡ false → disjoint (inf t).cont (inf t).first ≡ true → mem 0 (inf t).first ≡ false → Looping (λ d (s : Unit {0}). true) (λ s. fam t) (inf t) (λ s. inf t) (λ s. on t)
    plain t h full dis nil = record {
      body = λ s. grammar t h;
      facts = λ d s. texts_facts (below N V heads need table d) d (below_facts d) t h;
      full = full;
      full_ = λ s. full;
      apart_ = dis;
      each_apart = λ s. dis;
      up = λ d e le s g. refl;
      high = λ s e. (e + low t, omega arith, refl, le-reach (low t) (e + low t) (omega arith));
      nil = λ s. nil;
    }

    rep_is : {A : Type 0} (t : Code N V A) → ok (Rep t) → Looping (λ d (s : Unit {0}). true) (λ s. fam t) (inf t) (λ s. inf t) (λ s. on t)
    rep_is t h = let h1 = and_parts _ _ h in let h2 = and_parts _ _ h1.1 in let h3 = and_parts _ _ h2.1 in plain t h1.0 (not_true _ h2.0) h3.0 (not_true _ h3.1)

    module _ {A : Type 0} (late : A → Bool) (a b : Code N V A) (h : ok (Items late a b)) where
      abbrev Item : Bool → ℕ → Lang A
      Item s d = pick_lang s (fam b d) (fam a d)

      item_a : ok a
      item_a = (and_parts _ _ h).0

      item_b : ok b
      item_b = (and_parts _ _ (and_parts _ _ h).1).0

      abbrev each_info : Bool → Info
      each_info s = pick s (inf b) (inf a)

      abbrev each_on : Bool → ℕ → Bool
      each_on s d = pick s (on b d) (on a d)

      each_grammar : (s : Bool) → Grammar (Item s) (each_info s) (each_on s)
      each_grammar true = grammar b item_b
      each_grammar false = grammar a item_a

      items_is : Looping (λ d s. true) Item (item_info (inf a) (inf b)) each_info each_on
      items_is =
          let h1 = and_parts _ _ h in let h2 = and_parts _ _ h1.1 in let h3 = and_parts _ _ h2.1 in let h4 = and_parts _ _ h3.1 in let h5 = and_parts _ _ h4.1 in
          let h6 = and_parts _ _ h5.1 in let h7 = and_parts _ _ h6.1 in let h8 = and_parts _ _ h7.1 in let h9 = and_parts _ _ h8.1 in
          record {
            body = each_grammar;
            facts = λ d s. item_facts (fam a d) (fam b d) (inf a) (inf b) (on a d) (on b d) ((grammar a item_a).facts d) ((grammar b item_b).facts d) (not_true _ h3.0) (not_true _ h4.0) h5.0 s;
            full = refl;
            full_ = elim [ true ↦ not_true _ h4.0 | false ↦ not_true _ h3.0 ];
            apart_ = h6.0;
            each_apart = elim [ true ↦ h8.0 | false ↦ h7.0 ];
            up = λ d e le s g. refl;
            high = elim [ true ↦ (λ e. (e + low b, omega arith, refl, le-reach (low b) (e + low b) (omega arith))) | false ↦ (λ e. (e + low a, omega arith, refl, le-reach (low a) (e + low a) (omega arith))) ];
            nil = elim [ true ↦ not_true _ h9.1 | false ↦ not_true _ h9.0 ];
          }

    module _ {A T : Type 0} (depth : A → ℕ) (step : A → T → A) (x : Code N V A) (t : Code N V T) (h : ok (Chain depth step x t)) where
      chain_loop : Looping (Test depth) (λ s. fam t) (inf t) (λ s. inf t) (λ s. on t)
      chain_loop = let h1 = and_parts _ _ h in let h2 = and_parts _ _ h1.1 in let h3 = and_parts _ _ h2.1 in let h4 = and_parts _ _ h3.1 in let h5 = and_parts _ _ h4.1 in
          looping depth t h2.0 (not_true _ h3.0) h4.0 (not_true _ h5.0)

      chain_x : ok x
      chain_x = (and_parts _ _ h).0

      chain_dis : disjoint (inf x).cont (inf t).first ≡ true
      chain_dis =
          let h1 = and_parts (fine N V heads need x) (fine N V heads need t && (no (inf t).null && (disjoint (inf t).cont (inf t).first && (no (mem 0 (inf t).first) && disjoint (inf x).cont (inf t).first)))) h in
          let h2 = and_parts (fine N V heads need t) (no (inf t).null && (disjoint (inf t).cont (inf t).first && (no (mem 0 (inf t).first) && disjoint (inf x).cont (inf t).first))) h1.1 in
          let h3 = and_parts (no (inf t).null) (disjoint (inf t).cont (inf t).first && (no (mem 0 (inf t).first) && disjoint (inf x).cont (inf t).first)) h2.1 in
          let h4 = and_parts (disjoint (inf t).cont (inf t).first) (no (mem 0 (inf t).first) && disjoint (inf x).cont (inf t).first) h3.1 in
          (and_parts (no (mem 0 (inf t).first)) (disjoint (inf x).cont (inf t).first) h4.1).1

      abbrev Links : A → ℕ → Lang (List T)
      Links a = Runs (Test depth) step (λ s. fam t) a

      links_parts : (a : A) → Parts (Links a) (Make (fold_left step a)) (run_info (inf t)) return_info (λ d. true) (λ bs d. true) (λ d. true)
      links_parts a = record {
        left = run_grammar (Test depth) step (λ s. fam t) (inf t) (λ s. inf t) (λ s. on t) chain_loop a;
        right = λ bs. return_grammar (fold_left step a bs);
        apart_ = disjoint_nil (run_info (inf t)).cont;
        up = λ d e. (refl, λ bs u n w. refl);
        down = λ d bs u n w e. refl;
        both_high = λ e. (e, omega arith, refl);
      }

      chain_parts : Parts (fam x) (λ a. Then_ (Links a) (Make (fold_left step a))) (inf x) (then_info (run_info (inf t)) return_info) (on x) (λ a d. true) (on x)
      chain_parts =
          record {
            left = grammar x chain_x;
            right = λ a. seq_grammar (Links a) (Make (fold_left step a)) (run_info (inf t)) return_info (λ d. true) (λ bs d. true) (λ d. true) (links_parts a);
            apart_ = rw (first_kept (run_info (inf t))) chain_dis;
            up = λ d e. (e, λ a u n w. refl);
            down = λ d a u n w e. (texts_facts (below N V heads need table d) d (below_facts d) x chain_x).dead a u n w;
            both_high = (grammar x chain_x).high;
          }

    module _ {A T : Type 0} (depth : A → ℕ) (join : A → T → A) (x : Code N V A) (t : Code N V T) (h : ok (Once depth join x t)) where
      once_x : ok x
      once_x = (and_parts _ _ h).0

      once_t : ok t
      once_t = (and_parts _ _ (and_parts _ _ h).1).0

      abbrev Link : A → ℕ → Lang A
      Link a = When (λ d. reach (suc (depth a)) d) (Then_ (fam t) (Make (join a)))

      link_rises : (a : A) → Rises (λ d. reach (suc (depth a)) d) (on t)
      link_rises a = record { up = λ d e le g. reach_more (suc (depth a)) d e le g; high = λ e. (e + suc (depth a) + low t, omega arith, le-reach (suc (depth a)) (e + suc (depth a) + low t) (omega arith), le-reach (low t) (e + suc (depth a) + low t) (omega arith)) }

      link_full : (then_info (inf t) return_info).null ≡ false
      link_full = let h1 = and_parts _ _ h in let h2 = and_parts _ _ h1.1 in let h3 = and_parts _ _ h2.1 in let e : (inf t).null ≡ false = not_true _ h3.0 in rw e refl

      link_grammar : (a : A) → Grammar (Link a) (then_info (inf t) return_info) (λ d. reach (suc (depth a)) d && on t d)
      link_grammar a = when_grammar (λ d. reach (suc (depth a)) d) (Then_ (fam t) (Make (join a))) (then_info (inf t) return_info) (on t) (link_rises a) (made_grammar (join a) t once_t)

      link_pair : Begins (fam t) (inf t) → (a : A) → Pair (Link a) (λ d. Return a) (then_info (inf t) return_info) return_info (λ d. reach (suc (depth a)) d && on t d) (λ d. true)
      link_pair b a = record {
        left = link_grammar a;
        right = return_grammar a;
        full = link_full;
        apart_ = disjoint_nil (then_info (inf t) return_info).first;
        begins1 = when_begins (λ d. reach (suc (depth a)) d) (Then_ (fam t) (Make (join a))) (then_info (inf t) return_info) (on t) (link_rises a) (made_grammar (join a) t once_t) (made_begins (join a) t once_t b);
        begins2 = λ t h. absurd cc;
        always = λ d e. refl;
      }

      once_parts : Parts (fam x) (λ a. Either (Link a) (λ d. Return a)) (inf x) (or_info (then_info (inf t) return_info) return_info) (on x) (λ a d. (reach (suc (depth a)) d && on t d) || true) (on x)
      once_parts = let h1 = and_parts _ _ h in let h2 = and_parts _ _ h1.1 in let h3 = and_parts _ _ h2.1 in
          record {
            left = grammar x h1.0;
            right = λ a. either_grammar (Link a) (λ d. Return a) (then_info (inf t) return_info) return_info (λ d. reach (suc (depth a)) d && on t d) (λ d. true) (link_grammar a) (return_grammar a) link_full (disjoint_nil (then_info (inf t) return_info).first) (λ d e. refl);
            apart_ = rw (append-nil (then_info (inf t) return_info).first, first_kept (inf t)) h3.1;
            up = λ d e. (e, λ a u n w. or_true (reach (suc (depth a)) d && on t d));
            down = λ d a u n w e. (texts_facts (below N V heads need table d) d (below_facts d) x h1.0).dead a u n w;
            both_high = (grammar x h1.0).high;
          }

    -- ---- beginnings

    after_null : (b c : Bool) → cond b c true ≡ true → b ≡ true → c ≡ true
    after_null true c h e = h
    after_null false c h e = absurd cc

    pub code_begins : (okn : N → Bool) → ((n : N) → okn n ≡ true → Begins (λ d. bl d n) (heads n)) → {A : Type 0} (c : Code N V A) → ok c → leads N V heads need okn c ≡ true → Begins (fam c) (inf c)
    code_begins okn bs (One ks) h l = one_begins ks
    code_begins okn bs (Done a) h l = λ t g. absurd cc
    code_begins okn bs (Seq a b) h l =
        let h1 = and_parts _ _ h in let h2 = and_parts _ _ h1.1 in let l1 = and_parts _ _ l in
        seq_begins (fam a) (Second b) (inf a) (then_info (inf b) return_info) (on a) (λ x d. on b d) (on (Seq a b)) (seq_parts a b h) (code_begins okn bs a h1.0 l1.0)
        (λ null x. made_begins (λ y. (x, y)) b h2.0 (code_begins okn bs b h2.0 (after_null (inf a).null (leads N V heads need okn b) l1.1 null)))
    code_begins okn bs (Map f a) h l = made_begins f a h (code_begins okn bs a h l)
    code_begins okn bs (Alt a b) h l =
        let h1 = and_parts _ _ h in let h2 = and_parts _ _ h1.1 in let l1 = and_parts _ _ l in
        either_begins (fam a) (fam b) (inf a) (inf b) (code_begins okn bs a h1.0 l1.0) (code_begins okn bs b h2.0 l1.1)
    code_begins okn bs (Opt x a) h l = let h1 = and_parts _ _ h in optional_begins x (fam a) (inf a) (on a) (grammar a h1.0) (code_begins okn bs a h1.0 l)
    code_begins okn bs (Rep a) h l = let h1 = and_parts _ _ h in run_begins (λ d (s : Unit {0}). true) (λ s x. s) (λ s. fam a) (inf a) (λ s. inf a) (λ s. on a) (rep_is a h) tt (code_begins okn bs a h1.0 l)
    code_begins okn bs (Items late a b) h l = run_begins (λ d s. true) (λ s x. s || late x) (Item late a b h) (item_info (inf a) (inf b)) (each_info late a b h) (each_on late a b h) (items_is late a b h) false (code_begins okn bs a (item_a late a b h) l)
    code_begins okn bs (Chain depth step x t) h l =
        let l1 = and_parts _ _ l in let h1 = and_parts _ _ h in let h2 = and_parts _ _ h1.1 in
        seq_begins (fam x) (λ a. Then_ (Links depth step x t h a) (Make (fold_left step a))) (inf x) (then_info (run_info (inf t)) return_info) (on x) (λ a d. true) (on x) (chain_parts depth step x t h) (code_begins okn bs x h1.0 l1.0)
        (λ null a. seq_begins (Links depth step x t h a) (Make (fold_left step a)) (run_info (inf t)) return_info (λ d. true) (λ bs d. true) (λ d. true) (links_parts depth step x t h a)
        (run_begins (Test depth) step (λ s. fam t) (inf t) (λ s. inf t) (λ s. on t) (chain_loop depth step x t h) a (code_begins okn bs t h2.0 (after_null (inf x).null (leads N V heads need okn t) l1.1 null))) (λ e bs t g. absurd cc))
    code_begins okn bs (Once depth join x t) h l =
        let l1 = and_parts _ _ l in let h1 = and_parts _ _ h in let h2 = and_parts _ _ h1.1 in
        seq_begins (fam x) (λ a. Either (Link depth join x t h a) (λ d. Return a)) (inf x) (or_info (then_info (inf t) return_info) return_info) (on x) (λ a d. (reach (suc (depth a)) d && on t d) || true) (on x) (once_parts depth join x t h) (code_begins okn bs x h1.0 l1.0)
        (λ null a. either_begins (Link depth join x t h a) (λ d. Return a) (then_info (inf t) return_info) return_info (link_pair depth join x t h (code_begins okn bs t h2.0 (after_null (inf x).null (leads N V heads need okn t) l1.1 null)) a).begins1 (λ t g. absurd cc))
    code_begins okn bs (Inner n) h l = bs n l

    name_begins_upto : (k : ℕ) (n : N) → good.order n < k → Begins (λ d. bl d n) (heads n)
    name_begins_upto zero n lt = absurd (omega arith)
    name_begins_upto (suc k) n lt = λ t h.
        let b = code_begins (λ m. reach (suc (good.order m)) (good.order n)) (λ m e. name_begins_upto k m (let p = reach-le (suc (good.order m)) (good.order n) e in omega arith)) (table n) (good.fine_ n) (good.leads_ n) t (within t.code (heads n).first (inf (table n)).first (good.first2 n) h) in
        (suc b.0, b.1)

    pub name_begins : (n : N) → Begins (λ d. bl d n) (heads n)
    name_begins n = name_begins_upto (suc (good.order n)) n (omega arith)

    all_lead : {A : Type 0} (c : Code N V A) → leads N V heads need (λ m. true) c ≡ true
    all_lead (One ks) = refl
    all_lead (Done a) = refl
    all_lead (Seq a b) = rw (all_lead a, all_lead b) (two (inf a).null)
      where
        two : (c : Bool) → cond c true true ≡ true
        two true = refl
        two false = refl
    all_lead (Map f a) = all_lead a
    all_lead (Alt a b) = rw (all_lead a, all_lead b) refl
    all_lead (Opt x a) = all_lead a
    all_lead (Rep a) = all_lead a
    all_lead (Items late a b) = all_lead a
    all_lead (Chain depth step x t) = rw (all_lead x, all_lead t) (two (inf x).null)
      where
        two : (c : Bool) → cond c true true ≡ true
        two true = refl
        two false = refl
    all_lead (Once depth join x t) = rw (all_lead x, all_lead t) (two (inf x).null)
      where
        two : (c : Bool) → cond c true true ≡ true
        two true = refl
        two false = refl
    all_lead (Inner n) = refl

    pub begins : {A : Type 0} (c : Code N V A) → ok c → Begins (fam c) (inf c)
    begins c h = code_begins (λ m. true) (λ n e. name_begins n) c h (all_lead c)

    -- ---- the reader of each code answers exactly

    abbrev rd : ((n : N) → List Tok → Out (V n)) → ℕ → {A : Type 0} → Code N V A → List Tok → Out A
    rd P d c ts = read N V heads need P d c ts

    one_of_two : (a b d : ℕ) → reach (smaller a b) d ≡ true → (reach a d || reach b d) ≡ true
    one_of_two a b d h = smaller_is a b d ∙ h

    pub code_answer : (d : ℕ) (P : (n : N) → List Tok → Out (V n)) → ((n : N) → reach (suc (need n)) d ≡ true → (ts : List Tok) → Answer (λ e. bl e n) d ts (P n ts))
        → {A : Type 0} (c : Code N V A) → ok c → reach (low c) d ≡ true → (ts : List Tok) → Answer (fam c) d ts (rd P d c ts)
    code_answer d P ps (One ks) h is ts = let h1 = and_parts _ _ h in one_answer ks (not_true _ h1.1) d ts h1.0
    code_answer d P ps (Done a) h is ts = return_answer a d ts
    code_answer d P ps (Seq a b) h is ts =
        let h1 = and_parts _ _ h in let h2 = and_parts _ _ h1.1 in
        let p = larger_parts (low a) (low b) d is in
        seq_answer (fam a) (Second b) (inf a) (then_info (inf b) return_info) (on a) (λ x d. on b d) (on (Seq a b)) (seq_parts a b h) d is ts (rd P d a ts) (λ x. rd P d b x.1 >>= λ y. Ok ((x.0, y.0), y.1))
        (code_answer d P ps a h1.0 p.0 ts)
        (λ x r e reads. seq_answer (fam b) (Make (λ y. (x, y))) (inf b) return_info (on b) (λ y d. true) (on b) (made_parts (λ y. (x, y)) b h2.0) d e r (rd P d b r) (λ y. Ok ((x, y.0), y.1))
        (code_answer d P ps b h2.0 e r) (λ y q e2 reads. return_answer (x, y) d q))
    code_answer d P ps (Map f a) h is ts =
        seq_answer (fam a) (Make f) (inf a) return_info (on a) (λ y d. true) (on a) (made_parts f a h) d is ts (rd P d a ts) (λ x. Ok (f x.0, x.1))
        (code_answer d P ps a h is ts) (λ x q e reads. return_answer (f x) d q)
    code_answer d P ps (Alt a b) h is ts =
        let h1 = and_parts _ _ h in let h2 = and_parts _ _ h1.1 in let h3 = and_parts _ _ h2.1 in let h4 = and_parts _ _ h3.1 in
        let pair : Pair (fam a) (fam b) (inf a) (inf b) (on a) (on b) = record {
          left = grammar a h1.0;
          right = grammar b h2.0;
          full = not_true _ h3.0;
          apart_ = h4.0;
          begins1 = begins a h1.0;
          begins2 = begins b h2.0;
          always = λ d. low_null (inf b).null (low b) d h4.1;
        } in
        either_answer (fam a) (fam b) (inf a) (inf b) (on a) (on b) pair d ts (rd P d a) (rd P d b) (one_of_two (low a) (low b) d is)
        (λ e. code_answer d P ps a h1.0 e ts) (λ e. code_answer d P ps b h2.0 e ts)
    code_answer d P ps (Opt x a) h is ts =
        let h1 = and_parts _ _ h in
        optional_answer x (fam a) (inf a) (on a) (λ d e le g. reach_more (low a) d e le g) (not_true _ h1.1) (grammar a h1.0) d is ts (rd P d a) (code_answer d P ps a h1.0 is ts)
    code_answer d P ps (Rep a) h is ts =
        let h1 = and_parts _ _ h in
        run_answer (λ d (s : Unit {0}). true) (λ s x. s) (λ s. fam a) (inf a) (λ s. inf a) (λ s. on a) (rep_is a h) (λ s. begins a h1.0) d (λ s. rd P d a) (λ s r e. code_answer d P ps a h1.0 e r) (length ts) tt ts (omega arith)
    code_answer d P ps (Items late a b) h is ts =
        run_answer (λ d s. true) (λ s x. s || late x) (Item late a b h) (item_info (inf a) (inf b)) (each_info late a b h) (each_on late a b h) (items_is late a b h)
        (elim [ true ↦ begins b (item_b late a b h) | false ↦ begins a (item_a late a b h) ]) d (λ s r. pick s (rd P d b r) (rd P d a r))
        (elim [ true ↦ (λ r e. code_answer d P ps b (item_b late a b h) e r) | false ↦ (λ r e. code_answer d P ps a (item_a late a b h) e r) ]) (length ts) false ts (omega arith)
    code_answer d P ps (Chain depth step x t) h is ts =
        let h1 = and_parts _ _ h in let h2 = and_parts _ _ h1.1 in
        seq_answer (fam x) (λ a. Then_ (Links depth step x t h a) (Make (fold_left step a))) (inf x) (then_info (run_info (inf t)) return_info) (on x) (λ a d. true) (on x) (chain_parts depth step x t h) d is ts (rd P d x ts)
        (λ a. run_upto (length a.1) (λ s. (inf t).first) (λ s. reach (low t) d) (λ s. reach (suc (depth s)) d) step (λ s. rd P d t) a.0 a.1 >>= λ bs. Ok (fold_left step a.0 bs.0, bs.1))
        (code_answer d P ps x h1.0 is ts)
        (λ a r e reads. seq_answer (Links depth step x t h a) (Make (fold_left step a)) (run_info (inf t)) return_info (λ d. true) (λ bs d. true) (λ d. true) (links_parts depth step x t h a) d refl r
        (run_upto (length r) (λ s. (inf t).first) (λ s. reach (low t) d) (λ s. reach (suc (depth s)) d) step (λ s. rd P d t) a r) (λ bs. Ok (fold_left step a bs.0, bs.1))
        (run_answer (Test depth) step (λ s. fam t) (inf t) (λ s. inf t) (λ s. on t) (chain_loop depth step x t h) (λ s. begins t h2.0) d (λ s. rd P d t) (λ s r e. code_answer d P ps t h2.0 e r) (length r) a r (omega arith))
        (λ bs q e reads. return_answer (fold_left step a bs) d q))
    code_answer d P ps (Once depth join x t) h is ts =
        let h1 = and_parts _ _ h in let h2 = and_parts _ _ h1.1 in
        seq_answer (fam x) (λ a. Either (Link depth join x t h a) (λ d. Return a)) (inf x) (or_info (then_info (inf t) return_info) return_info) (on x) (λ a d. (reach (suc (depth a)) d && on t d) || true) (on x) (once_parts depth join x t h) d is ts (rd P d x ts)
        (λ a. either (then_info (inf t) return_info).first (reach (suc (depth a.0)) d && reach (low t) d) (λ r. rd P d t r >>= λ y. Ok (join a.0 y.0, y.1)) [] true (λ r. Ok (a.0, r)) a.1)
        (code_answer d P ps x h1.0 is ts)
        (λ a r e reads. either_answer (Link depth join x t h a) (λ d. Return a) (then_info (inf t) return_info) return_info (λ d. reach (suc (depth a)) d && on t d) (λ d. true) (link_pair depth join x t h (begins t h2.0) a) d r
        (λ r. rd P d t r >>= λ y. Ok (join a y.0, y.1)) (λ r. Ok (a, r)) e
        (λ g. let g1 = and_parts (reach (suc (depth a)) d) (reach (low t) d) g in
        when_answer (λ d. reach (suc (depth a)) d) (Then_ (fam t) (Make (join a))) (then_info (inf t) return_info) (on t) (link_rises depth join x t h a) (made_grammar (join a) t h2.0) d r (rd P d t r >>= λ y. Ok (join a y.0, y.1)) g1.0
        (seq_answer (fam t) (Make (join a)) (inf t) return_info (on t) (λ y d. true) (on t) (made_parts (join a) t h2.0) d g1.1 r (rd P d t r) (λ y. Ok (join a y.0, y.1)) (code_answer d P ps t h2.0 g1.1 r) (λ y q e reads. return_answer (join a y) d q)))
        (λ g. return_answer a d r))
    code_answer d P ps (Inner n) h is ts = ps n is ts

    pub readers_answer : (d : ℕ) (n : N) → reach (suc (need n)) d ≡ true → (ts : List Tok) → Answer (λ e. bl e n) d ts (readers N V heads need table d n ts)
    readers_answer zero n is ts = absurd cc
    readers_answer (suc d) n is ts =
        same_answer (Below (fam (table n))) (λ e. bl e n) (record { to = to; from = from }) (suc d) ts (readers N V heads need table (suc d) n ts)
        (shift_answer (fam (table n)) d ts (readers N V heads need table (suc d) n ts) (code_answer d (readers N V heads need table d) (readers_answer d) (table n) (good.fine_ n) (ap (λ k. reach k d) (good.least_ n) ∙ is) ts))
      where
        to : (e : ℕ) (a : V n) (u : List Tok) (k : Tok) → Below (fam (table n)) e a u k → bl e n a u k
        to zero a u k w = w
        to (suc e) a u k w = w

        from : (e : ℕ) (a : V n) (u : List Tok) (k : Tok) → bl e n a u k → Below (fam (table n)) e a u k
        from zero a u k w = w
        from (suc e) a u k w = w

    -- what the reader of a code answers at a budget that is enough for it
    pub exact : {A : Type 0} (c : Code N V A) → ok c → (d : ℕ) → low c ≤ d → (ts : List Tok) → Answer (fam c) d ts (rd (readers N V heads need table d) d c ts)
    exact c h d le ts = code_answer d (readers N V heads need table d) (readers_answer d) c h (le-reach (low c) d le) ts

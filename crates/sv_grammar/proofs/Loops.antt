-- Readers of any number of texts.
use Rattle.std.proofs.Common.{◌≡◌, ℕ, zero, suc, ◌+◌, ◌≤◌, Bool, true, false, ◌&&◌, ◌||◌, List, [], ◌∷◌, ◌++◌, length, Ok, inl, inr, refl, sym, ap, subst, ◌∙◌, arith}
use Rattle.std.proofs.lemmas.List.{append-nil, length-append}
use Rattle.sv_grammar.specs.Code.{read}
use Rattle.sv_grammar.specs.Info.{Info, then_info, return_info, run_info}
use Rattle.sv_grammar.specs.Language.{Lang, Return, Run, Reads, Out, Answer}
use Rattle.sv_grammar.specs.Reading.{◌>>=◌, either, run_upto}
use Rattle.sv_grammar.specs.Tokens.{Tok, next, before, mem, disjoint, Has}
use Rattle.sv_grammar.proofs.Answers.{Seq, Grammar, Begins, Parts, disjoint_nil, no_true, seq_grammar, seq_begins, seq_answer, return_grammar, return_answer, Same, same_answer, open_mono, or_right}
use Rattle.sv_grammar.proofs.Choices.{Pair, Rises, Either, When, either_answer, when_grammar, when_begins, when_answer}
use Rattle.sv_grammar.proofs.Facts.{Facts, run_facts, and_parts}

-- ---- any number of texts

-- j s: what is known in the state s. i: what is known in any state
pub record Looping {S A : Type 0} (test : ℕ → S → Bool) (l : S → ℕ → Lang A) (i : Info) (j : S → Info) (on : S → ℕ → Bool) : Type 0 where
  pub body : (s : S) → Grammar (l s) (j s) (on s)
  pub facts : (d : ℕ) (s : S) → Facts (l s d) i (on s d)
  pub full : i.null ≡ false
  pub full_ : (s : S) → (j s).null ≡ false
  pub apart_ : disjoint i.cont i.first ≡ true
  pub each_apart : (s : S) → disjoint (j s).cont i.first ≡ true
  pub up : (d e : ℕ) → d ≤ e → (s : S) → test d s ≡ true → test e s ≡ true
  pub high : (s : S) (e : ℕ) → (k : ℕ) × (e ≤ k) × (test k s ≡ true) × (on s k ≡ true)
  pub nil : (s : S) → mem 0 (j s).first ≡ false

abbrev pub Runs : {S A : Type 0} → (ℕ → S → Bool) → (S → A → S) → (S → ℕ → Lang A) → S → ℕ → Lang (List A)
Runs test step l s e = Run (test e) step (λ q. l q e) s

module _ {S A : Type 0} (test : ℕ → S → Bool) (step : S → A → S) (l : S → ℕ → Lang A) (i : Info) (j : S → Info) (on : S → ℕ → Bool) (p : Looping test l i j on) where
  run_mono : (d e : ℕ) → d ≤ e → (s : S) (xs : List A) (u : List Tok) (n : Tok) → Runs test step l s d xs u n → Runs test step l s e xs u n
  run_mono d e le s [] u n w = w
  run_mono d e le s (x ∷ xs) u n w = (p.up d e le s w.0, w.1, w.2, w.3, (p.body s).mono d e le x w.1 (before w.2 n) w.4, run_mono d e le (step s x) xs w.2 n w.5)

  pub run_grammar : (s : S) → Grammar (Runs test step l s) (run_info i) (λ e. true)
  run_grammar s = record {
    facts = λ d. run_facts (test d) step (λ q. l q d) i (λ q. on q d) (p.facts d) p.full p.apart_ s;
    mono = λ d e le xs u n w. run_mono d e le s xs u n w;
    high = λ e. (e, omega arith, refl);
  }

  -- what begins in this state
  abbrev state_info : S → Info
  state_info s = record { first = (j s).first; cont = i.cont ++ i.first; null = true }

  pub run_begins : (s : S) → Begins (l s) (j s) → Begins (Runs test step l s) (state_info s)
  run_begins s b t h = let b = b t h in let k = p.high s b.0 in let o = open_mono (l s) (j s) (on s) (p.body s) b.0 k.0 k.1 (t ∷ []) b.1 in
      (k.0, (o.0 ∷ [], o.1, λ n. (k.2, t ∷ o.1, [], sym (append-nil (t ∷ o.1)), o.2 n, refl)))

  -- a list with its prefix
  abbrev With : A → List A → ℕ → Lang (List A)
  With a bs e = Return (a ∷ bs)

  more_parts : (s : S) (a : A) → Parts (Runs test step l (step s a)) (With a) (run_info i) return_info (λ e. true) (λ x e. true) (λ e. true)
  more_parts s a = record {
    left = run_grammar (step s a);
    right = λ bs. return_grammar (a ∷ bs);
    apart_ = disjoint_nil (i.cont ++ i.first);
    up = λ d e. (refl, λ x u n w. refl);
    down = λ d x u n w e. refl;
    both_high = λ e. (e, omega arith, refl);
  }

  abbrev more_info : Info
  more_info = then_info (run_info i) return_info

  -- the list after s and a first one
  abbrev Tail : S → A → ℕ → Lang (List A)
  Tail s a = Seq (Runs test step l (step s a)) (With a)

  tail_grammar : (s : S) (a : A) → Grammar (Tail s a) more_info (λ e. true)
  tail_grammar s a = seq_grammar (Runs test step l (step s a)) (With a) (run_info i) return_info (λ e. true) (λ x e. true) (λ e. true) (more_parts s a)

  loop_parts : (s : S) → Parts (l s) (Tail s) (j s) more_info (on s) (λ a e. true) (on s)
  loop_parts s = record {
    left = p.body s;
    right = tail_grammar s;
    apart_ = rw (append-nil i.first) (p.each_apart s);
    up = λ d e. (e, λ x u n w. refl);
    down = λ d x u n w e. ((p.body s).facts d).dead x u n w;
    both_high = (p.body s).high;
  }

  abbrev loop_info : S → Info
  loop_info s = then_info (j s) more_info

  abbrev Loop : S → ℕ → Lang (List A)
  Loop s = When (λ d. test d s) (Seq (l s) (Tail s))

  rises : (s : S) → Rises (λ d. test d s) (on s)
  rises s = record { up = λ d e le h. p.up d e le s h; high = λ e. p.high s e }

  first_is : (s : S) → (loop_info s).first ≡ (j s).first
  first_is s = let e : (j s).null ≡ false = p.full_ s in rw e refl

  loop_pair : (s : S) → Begins (l s) (j s) → Pair (Loop s) (λ e. Return []) (loop_info s) return_info (λ d. test d s && on s d) (λ d. true)
  loop_pair s b = record {
    left = when_grammar (λ d. test d s) (Seq (l s) (Tail s)) (loop_info s) (on s) (rises s) (seq_grammar (l s) (Tail s) (j s) more_info (on s) (λ a e. true) (on s) (loop_parts s));
    right = return_grammar [];
    full = (let e : (j s).null ≡ false = p.full_ s in rw e refl);
    apart_ = disjoint_nil (loop_info s).first;
    begins1 = when_begins (λ d. test d s) (Seq (l s) (Tail s)) (loop_info s) (on s) (rises s) (seq_grammar (l s) (Tail s) (j s) more_info (on s) (λ a e. true) (on s) (loop_parts s)) (seq_begins (l s) (Tail s) (j s) more_info (on s) (λ a e. true) (on s) (loop_parts s) b (λ null. absurd (no_true _ null (p.full_ s))));
    begins2 = λ t h. absurd cc;
    always = λ d e. refl;
  }

  abbrev Both : S → ℕ → Lang (List A)
  Both s = Either (Loop s) (λ e. Return [])

  both_same : (s : S) → Same (Both s) (Runs test step l s)
  both_same s = record { to = to; from = from }
    where
      to : (d : ℕ) (xs : List A) (u : List Tok) (n : Tok) → Both s d xs u n → Runs test step l s d xs u n
      to d xs u n (inl w) =
          let v = w.1.two in
          let parts : u ≡ w.1.left ++ v.left = w.1.parts ∙ ap (λ (y : List Tok). w.1.left ++ y) (v.parts ∙ ap (λ (y : List Tok). v.left ++ y) v.two.1 ∙ append-nil v.left) in
          let right : w.1.right ≡ v.left = v.parts ∙ ap (λ (y : List Tok). v.left ++ y) v.two.1 ∙ append-nil v.left in
          subst (λ (ys : List A). Run (test d) step (λ q. l q d) s ys u n) (sym v.two.0)
          (w.0, w.1.left, v.left, parts, subst (λ (y : List Tok). l s d w.1.value w.1.left (before y n)) right w.1.one, subst (λ (y : List Tok). Run (test d) step (λ q. l q d) (step s w.1.value) v.value v.left (before y n)) v.two.1 v.one)
      to d xs u n (inr w) = subst (λ (ys : List A). Run (test d) step (λ q. l q d) s ys u n) (sym w.0) w.1

      from : (d : ℕ) (xs : List A) (u : List Tok) (n : Tok) → Runs test step l s d xs u n → Both s d xs u n
      from d [] u n w = inr (refl, w)
      from d (x ∷ xs) u n w = inl (w.0, record { value = x; left = w.1; right = w.2; parts = w.3; one = w.4; two = record { value = xs; left = w.2; right = []; parts = sym (append-nil w.2); one = w.5; two = (refl, refl) } })

  shorter_rest : (s : S) (d : ℕ) (ts : List Tok) (a : A) (rest : List Tok) (f : ℕ) → Reads (l s) d ts a rest → length ts ≤ suc f → length rest ≤ f
  shorter_rest s d ts a rest f r le = go r.prefix r.parts r.word
    where
      go : (u : List Tok) → ts ≡ u ++ rest → l s d a u (next rest) → length rest ≤ f
      go [] q w = absurd (no_true _ ((p.facts d s).empty a (next rest) w) p.full)
      go (k ∷ u) q w = let e : length ts ≡ suc (length u + length rest) = rw q (ap suc (length-append u rest)) in omega arith

  -- in another state what begins is no less
  state_starts : (e : ℕ) (s : S) (xs : List A) (t : Tok) (u : List Tok) (n : Tok) → Runs test step l s e xs (t ∷ u) n → Has (j s).first t
  state_starts e s [] t u n w = absurd cc
  state_starts e s (a ∷ xs) t u n w = go w.1 w.3 w.4
    where
      go : (l0 : List Tok) → t ∷ u ≡ l0 ++ w.2 → l s e a l0 (before w.2 n) → Has (j s).first t
      go [] q one = absurd (no_true _ (((p.body s).facts e).empty a (before w.2 n) one) (p.full_ s))
      go (k ∷ l0) q one = let e2 : k ≡ t = cc in subst (Has (j s).first) e2 (((p.body s).facts e).starts a k l0 (before w.2 n) one)

  stop_here : (d : ℕ) (s : S) (ts : List Tok) → mem (next ts).code (j s).first ≡ false → Reads (Runs test step l s) d ts [] ts
  stop_here d s ts no_ = record {
    prefix = [];
    parts = refl;
    viable = ([], [], λ n. refl);
    word = refl;
    stops = λ e w. no_true _ (state_starts e s w.0 (next ts) w.1 w.2 w.3) no_;
  }

  pub run_answer : ((s : S) → Begins (l s) (j s)) → (d : ℕ) (read : S → List Tok → Out A) → ((s : S) (ts : List Tok) → on s d ≡ true → Answer (l s) d ts (read s ts)) → (f : ℕ) (s : S) (ts : List Tok) → length ts ≤ f → Answer (Runs test step l s) d ts (run_upto f (λ q. (j q).first) (λ q. on q d) (test d) step read s ts)
  run_answer b d read good zero s [] le = stop_here d s [] (p.nil s)
  run_answer b d read good zero s (t ∷ ts) le = absurd (let h : suc (length ts) ≤ 0 = le in omega arith)
  run_answer b d read good (suc f) s ts le =
      same_answer (Both s) (Runs test step l s) (both_same s) d ts (run_upto (suc f) (λ q. (j q).first) (λ q. on q d) (test d) step read s ts)
      (subst (λ (fs : List ℕ). Answer (Both s) d ts (either fs (test d s && on s d) loop [] true (λ r. Ok ([], r)) ts)) (first_is s)
      (either_answer (Loop s) (λ e. Return []) (loop_info s) return_info (λ d. test d s && on s d) (λ d. true) (loop_pair s (b s)) d ts loop (λ r. Ok ([], r)) is_on
      (λ e. when_answer (λ d. test d s) (Seq (l s) (Tail s)) (loop_info s) (on s) (rises s) (seq_grammar (l s) (Tail s) (j s) more_info (on s) (λ a e. true) (on s) (loop_parts s)) d ts (loop ts) (and_parts (test d s) (on s d) e).0
      (seq_answer (l s) (Tail s) (j s) more_info (on s) (λ a e. true) (on s) (loop_parts s) d (and_parts (test d s) (on s d) e).1 ts (read s ts) (λ x. rest x) (good s ts (and_parts (test d s) (on s d) e).1)
      (λ a r is reads. seq_answer (Runs test step l (step s a)) (With a) (run_info i) return_info (λ e. true) (λ x e. true) (λ e. true) (more_parts s a) d refl r (run_upto f (λ q. (j q).first) (λ q. on q d) (test d) step read (step s a) r) (λ y. Ok (a ∷ y.0, y.1))
      (run_answer b d read good f (step s a) r (shorter_rest s d ts a r f reads le))
      (λ bs q is reads. return_answer (a ∷ bs) d q))))
      (λ e. return_answer [] d ts)))
    where
      rest : A × List Tok → Out (List A)
      rest x = run_upto f (λ q. (j q).first) (λ q. on q d) (test d) step read (step s x.0) x.1 >>= λ y. Ok (x.0 ∷ y.0, y.1)

      loop : List Tok → Out (List A)
      loop r = read s r >>= λ x. run_upto f (λ q. (j q).first) (λ q. on q d) (test d) step read (step s x.0) x.1 >>= λ y. Ok (x.0 ∷ y.0, y.1)

      is_on : ((test d s && on s d) || true) ≡ true
      is_on = or_right (test d s && on s d) true refl

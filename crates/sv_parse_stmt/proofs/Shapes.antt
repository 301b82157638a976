-- What reading gives of parts in a row, part by part.
use Rattle.std.proofs.Common.{◌≡◌, ℕ, true, false, List, Ok, Err, refl, ap, ◌∙◌}
use Rattle.sv_grammar.specs.Tokens.{Tok, next, mem}
use Rattle.sv_grammar.specs.Language.{Out, TooDeep}
use Rattle.sv_grammar.specs.Reading.{◌>>=◌}
use Rattle.sv_grammar.specs.Info.{Info}
use Rattle.sv_grammar.specs.Code.{reach}
use Rattle.sv_grammar.specs.Code.Code.{Alt}
use Rattle.sv_tree.specs.Forms.{C, pair, triple, then_}
use Rattle.sv_tree.specs.Grammar.{reads}
use Rattle.sv_tree.proofs.Known.{IsKnown}
use Rattle.sv_parse.specs.Outcome.{Fails}
use Rattle.sv_parse.specs.declared.tokens.ReadError.{ReadError}
use Rattle.sv_parse.specs.declared.tokens.ReadError.TheVariants as errors
use Rattle.sv_parse_type.specs.Applied.{applied}

-- f of what was read
abbrev pub made : {A B : Type 0} → (A → B) → Out A → Out B
made f o = o >>= λ x. Ok (f x.0, x.1)

-- x, and what was read after it
abbrev pub beside : {A B : Type 0} → A → Out B → Out (A × B)
beside x o = o >>= λ y. Ok ((x, y.0), y.1)

-- what was read, and what is read after it
abbrev pub row : {A B : Type 0} → Out A → (List Tok → Out B) → Out (A × B)
row o f = o >>= λ x. beside x.0 (f x.1)

pub made_beside : {A B D : Type 0} (g : A × B → D) (x : A) (o : Out B) → made g (beside x o) ≡ made (λ y. g (x, y)) o
made_beside g x (Ok y) = refl
made_beside g x (Err m) = refl

pub made_row : {A B D : Type 0} (g : A × B → D) (o : Out A) (f : List Tok → Out B) → made g (row o f) ≡ (o >>= λ x. made (λ y. g (x.0, y)) (f x.1))
made_row g (Ok x) f = made_beside g x.0 (f x.1)
made_row g (Err m) f = refl

-- parts after what was made
pub after_made : {A B D : Type 0} (g : A → B) (o : Out A) (f : B × List Tok → Out D) → (made g o >>= f) ≡ (o >>= λ x. f (g x.0, x.1))
after_made g (Ok x) f = refl
after_made g (Err m) f = refl

-- a function of what was read, applied
pub applied_made : {A R S : Type 0} (r : R) (g : A → R → S) (o : Out A) → applied r (made g o) ≡ made (λ x. g x r) o
applied_made r g (Ok x) = refl
applied_made r g (Err m) = refl

pub applied_after : {A R S : Type 0} (r : R) (o : Out A) (f : A × List Tok → Out (R → S)) → applied r (o >>= f) ≡ (o >>= λ x. applied r (f x))
applied_after r (Ok x) f = refl
applied_after r (Err m) f = refl

-- where the first part fails, all fails
pub fails_after : {A B : Type 0} (e : ReadError) (o : Out A) (f : A × List Tok → Out B) → Fails e o → Fails e (o >>= f)
fails_after errors.Memory o f h = tt
fails_after (errors.TooDeep rest) o f h = rw h refl
fails_after (errors.Unexpected rest) o f h = rw h refl

-- one after the other
pub pair_is : {A B D : Type 0} (g : A → B → D) (a : C A) (b : C B) (d : ℕ) (ts : List Tok) → reads d (pair g a b) ts ≡ (reads d a ts >>= λ x. made (λ y. g x.0 y) (reads d b x.1))
pair_is g a b d ts = made_row (λ p. g p.0 p.1) (reads d a ts) (λ r. reads d b r)

-- three, one after the other
pub triple_is : {A B D R : Type 0} (g : A → B → D → R) (a : C A) (b : C B) (c : C D) (d : ℕ) (ts : List Tok) → reads d (triple g a b c) ts ≡ (reads d a ts >>= λ x. reads d b x.1 >>= λ y. made (λ z. g x.0 y.0 z) (reads d c y.1))
triple_is g a b c d ts = made_row (λ p. g p.0 p.1.0 p.1.1) (reads d a ts) (λ q. row (reads d b q) (λ s. reads d c s)) ∙ (λ i. reads d a ts >>= λ x. made_row (λ p. g x.0 p.0 p.1) (reads d b x.1) (λ s. reads d c s) i)

-- a front, and what takes it in
pub then_is : {A B : Type 0} (a : C A) (f : C (A → B)) (d : ℕ) (ts : List Tok) → reads d (then_ a f) ts ≡ (reads d a ts >>= λ x. applied x.0 (reads d f x.1))
then_is a f d ts = made_row (λ p. p.1 p.0) (reads d a ts) (λ r. reads d f r)

-- one after the other, that make a function
pub pair_applied : {A B R S : Type 0} (g : A → B → R → S) (r : R) (a : C A) (b : C B) (d : ℕ) (ts : List Tok)
    → applied r (reads d (pair g a b) ts) ≡ (reads d a ts >>= λ x. made (λ y. g x.0 y r) (reads d b x.1))
pair_applied g r a b d ts =
    (λ i. applied r (pair_is g a b d ts i)) ∙ applied_after r (reads d a ts) (λ x. made (λ y. g x.0 y) (reads d b x.1)) ∙ (λ i. reads d a ts >>= λ x. applied_made r (λ y. g x.0 y) (reads d b x.1) i)

-- triple in a row that make a function: after the first, two in a row
pub triple_applied : {A B D R S : Type 0} (g : A → B → D → R → S) (r : R) (a : C A) (b : C B) (c : C D) (d : ℕ) (ts : List Tok)
    → applied r (reads d (triple g a b c) ts) ≡ (reads d a ts >>= λ x. reads d (pair (λ y z. g x.0 y z r) b c) x.1)
triple_applied g r a b c d ts =
    (λ i. applied r (made_row (λ p. g p.0 p.1.0 p.1.1) (reads d a ts) (λ q. row (reads d b q) (λ s. reads d c s)) i))
    ∙ applied_after r (reads d a ts) (λ x. made (λ y. g x.0 y.0 y.1) (row (reads d b x.1) (λ s. reads d c s)))
    ∙ (λ i. reads d a ts >>= λ x. applied_made r (λ y. g x.0 y.0 y.1) (row (reads d b x.1) (λ s. reads d c s)) i)

-- ---- choices

module _ {A : Type 0} (a b : C A) (d : ℕ) (ts : List Tok) where
  -- the first of two, where one of its kinds is next
  pub alt_first : (first : List ℕ) (low : ℕ) → IsKnown a first false low → mem (next ts).code first ≡ true → reach low d ≡ true → reads d (Alt a b) ts ≡ reads d a ts
  alt_first first low known h fits = rw (ap (λ (i : Info). i.first) known.info_is, known.low_is, h, fits) refl

  -- where trees of it are too deep
  pub alt_deep : (first : List ℕ) (low : ℕ) → IsKnown a first false low → mem (next ts).code first ≡ true → reach low d ≡ false → reads d (Alt a b) ts ≡ Err (TooDeep ts)
  alt_deep first low known h fits = rw (ap (λ (i : Info). i.first) known.info_is, known.low_is, h, fits) refl

  -- the second of two, where none of the kinds of the first is next
  pub alt_second : (first second : List ℕ) (low low2 : ℕ) → IsKnown a first false low → IsKnown b second false low2 → mem (next ts).code first ≡ false → reach low2 d ≡ true → reads d (Alt a b) ts ≡ reads d b ts
  alt_second first second low low2 known known2 h fits = rw (ap (λ (i : Info). i.first) known.info_is, known2.low_is, h, fits) refl

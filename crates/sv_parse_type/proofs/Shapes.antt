-- What reading gives of parts in a row, part by part.
use Rattle.std.proofs.Common.{◌≡◌, ℕ, suc, ◌+◌, Bool, true, false, cond, eqb, List, [], ◌∷◌, Ok, Err, refl, subst, ◌∙◌, arith}
use Rattle.std.proofs.lemmas.Bool.{eqb-true}
use Rattle.sv_grammar.specs.Tokens.{Tok, next, mem}
use Rattle.sv_grammar.specs.Language.{TooDeep, Out}
use Rattle.sv_grammar.specs.Reading.{◌>>=◌}
use Rattle.sv_grammar.specs.Code.{info, least, reach}
use Rattle.sv_grammar.specs.Code.Code.{Alt, Inner}
use Rattle.sv_tree.specs.Forms.{Production, Value, C, pair, triple, then_}
use Rattle.sv_tree.specs.Grammar.{heads, need, table, reads}
use Rattle.sv_parse.specs.Outcome.{Fails}
use Rattle.sv_parse.specs.declared.tokens.ReadError.{ReadError}
use Rattle.sv_parse.specs.declared.tokens.ReadError.TheVariants as errors
use Rattle.sv_parse_type.specs.Applied.{applied}

-- f of what was read
abbrev pub made : {A B : Type 0} → (A → B) → Out A → Out B
made f o = o >>= λ x. Ok (f x.0, x.1)

-- x, and what was read after it
abbrev pub beside : {A B : Type 0} → A → Out B → Out (A × B)
beside x o = o >>= λ y. Ok ((x, y.0), y.1)

-- what was read, and what is read after it
abbrev pub row : {A B : Type 0} → Out A → (List Tok → Out B) → Out (A × B)
row o f = o >>= λ x. beside x.0 (f x.1)

pub made_beside : {A B D : Type 0} (g : A × B → D) (x : A) (o : Out B) → made g (beside x o) ≡ made (λ y. g (x, y)) o
made_beside g x (Ok y) = refl
made_beside g x (Err m) = refl

pub made_row : {A B D : Type 0} (g : A × B → D) (o : Out A) (f : List Tok → Out B) → made g (row o f) ≡ (o >>= λ x. made (λ y. g (x.0, y)) (f x.1))
made_row g (Ok x) f = made_beside g x.0 (f x.1)
made_row g (Err m) f = refl

-- parts after what was made
pub after_made : {A B D : Type 0} (g : A → B) (o : Out A) (f : B × List Tok → Out D) → (made g o >>= f) ≡ (o >>= λ x. f (g x.0, x.1))
after_made g (Ok x) f = refl
after_made g (Err m) f = refl

-- a function of what was read, applied
pub applied_made : {A R S : Type 0} (r : R) (g : A → R → S) (o : Out A) → applied r (made g o) ≡ made (λ x. g x r) o
applied_made r g (Ok x) = refl
applied_made r g (Err m) = refl

pub applied_after : {A R S : Type 0} (r : R) (o : Out A) (f : A × List Tok → Out (R → S)) → applied r (o >>= f) ≡ (o >>= λ x. applied r (f x))
applied_after r (Ok x) f = refl
applied_after r (Err m) f = refl

-- where the first part fails, all fails
pub fails_after : {A B : Type 0} (e : ReadError) (o : Out A) (f : A × List Tok → Out B) → Fails e o → Fails e (o >>= f)
fails_after errors.Memory o f h = tt
fails_after (errors.TooDeep rest) o f h = rw h refl
fails_after (errors.Unexpected rest) o f h = rw h refl

-- one after the other
pub pair_is : {A B D : Type 0} (g : A → B → D) (a : C A) (b : C B) (d : ℕ) (ts : List Tok) → reads d (pair g a b) ts ≡ (reads d a ts >>= λ x. made (λ y. g x.0 y) (reads d b x.1))
pair_is g a b d ts = made_row (λ p. g p.0 p.1) (reads d a ts) (λ r. reads d b r)

-- a front, and what takes it in
pub then_is : {A B : Type 0} (a : C A) (f : C (A → B)) (d : ℕ) (ts : List Tok) → reads d (then_ a f) ts ≡ (reads d a ts >>= λ x. applied x.0 (reads d f x.1))
then_is a f d ts = made_row (λ p. p.1 p.0) (reads d a ts) (λ r. reads d f r)

-- one after the other, that make a function
pub pair_applied : {A B R S : Type 0} (g : A → B → R → S) (r : R) (a : C A) (b : C B) (d : ℕ) (ts : List Tok)
    → applied r (reads d (pair g a b) ts) ≡ (reads d a ts >>= λ x. made (λ y. g x.0 y r) (reads d b x.1))
pair_applied g r a b d ts =
    (λ i. applied r (pair_is g a b d ts i)) ∙ applied_after r (reads d a ts) (λ x. made (λ y. g x.0 y) (reads d b x.1)) ∙ (λ i. reads d a ts >>= λ x. applied_made r (λ y. g x.0 y) (reads d b x.1) i)

-- three in a row that make a function: after the first, two in a row
pub triple_applied : {A B D R S : Type 0} (g : A → B → D → R → S) (r : R) (a : C A) (b : C B) (c : C D) (d : ℕ) (ts : List Tok)
    → applied r (reads d (triple g a b c) ts) ≡ (reads d a ts >>= λ x. reads d (pair (λ y z. g x.0 y z r) b c) x.1)
triple_applied g r a b c d ts =
    (λ i. applied r (made_row (λ p. g p.0 p.1.0 p.1.1) (reads d a ts) (λ q. row (reads d b q) (λ s. reads d c s)) i))
    ∙ applied_after r (reads d a ts) (λ x. made (λ y. g x.0 y.0 y.1) (row (reads d b x.1) (λ s. reads d c s)))
    ∙ (λ i. reads d a ts >>= λ x. applied_made r (λ y. g x.0 y.0 y.1) (row (reads d b x.1) (λ s. reads d c s)) i)

-- ---- choices

-- a kind in a list of one is that one
pub is_one : (n m : ℕ) → mem n (m ∷ []) ≡ true → n ≡ m
is_one n m h = go (eqb n m) refl h
  where
    go : (b : Bool) → eqb n m ≡ b → cond b true false ≡ true → n ≡ m
    go true e h = eqb-true n m e
    go false e h = absurd cc

-- the first of two, where one of its kinds is next
pub alt_first : {A : Type 0} (a b : C A) (ks : List ℕ) (d : ℕ) (ts : List Tok) → (info Production Value heads need a).first ≡ ks → least Production Value heads need a ≡ 0 → mem (next ts).code ks ≡ true → reads d (Alt a b) ts ≡ reads d a ts
alt_first a b ks d ts is low h = rw (is, low, h) refl

-- the second of two, where none of the kinds of the first is next
pub alt_second : {A : Type 0} (a b : C A) (ks : List ℕ) (d : ℕ) (ts : List Tok) → (info Production Value heads need a).first ≡ ks → least Production Value heads need b ≡ 0 → mem (next ts).code ks ≡ false → reads d (Alt a b) ts ≡ reads d b ts
alt_second a b ks d ts is low h = rw (is, low, h) refl

-- which of the two, where the second need not be deep
pub alt_is : {A : Type 0} (a b : C A) (ks : List ℕ) (n d : ℕ) (ts : List Tok) → (info Production Value heads need a).first ≡ ks → least Production Value heads need a ≡ n → least Production Value heads need b ≡ 0
    → reads d (Alt a b) ts ≡ cond (mem (next ts).code ks) (cond (reach n d) (reads d a ts) (Err (TooDeep ts))) (reads d b ts)
alt_is a b ks n d ts is la lb = rw (is, la, lb) refl

-- one of which the first need not be deep
pub alt_low : {A : Type 0} (a b : C A) → least Production Value heads need a ≡ 0 → least Production Value heads need (Alt a b) ≡ 0
alt_low a b low = rw low refl

-- ---- one deeper

pub one_deeper : (b d : ℕ) (n : Production) (ts : List Tok) → b + 1 ≡ d → reads d (Inner n) ts ≡ reads b (table n) ts
one_deeper b d n ts e = let s : suc b ≡ d = omega arith in subst (λ d. reads d (Inner n) ts ≡ reads b (table n) ts) s refl

pub has_one : (b d : ℕ) → b + 1 ≡ d → reach 1 d ≡ true
has_one b d e = let s : suc b ≡ d = omega arith in subst (λ d. reach 1 d ≡ true) s refl

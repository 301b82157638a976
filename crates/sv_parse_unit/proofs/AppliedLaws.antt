-- What is read of a code that gives a function, on what stood before it.
use Rattle.std.proofs.Common.{◌≡◌, ℕ, List, Ok, Err, refl}
use Rattle.sv_grammar.specs.Tokens.{Tok}
use Rattle.sv_grammar.specs.Language.{Out}
use Rattle.sv_grammar.specs.Reading.{◌>>=◌}
use Rattle.sv_grammar.specs.Code.Code.{Map}
use Rattle.sv_tree.specs.declared.kind.Kind.{Kind}
use Rattle.sv_tree.specs.Forms.{C, ◌◂◌, pair, triple, quadruple, then_, tok}
use Rattle.sv_tree.specs.Grammar.{reads}
use Rattle.sv_parse_type.specs.Applied.{applied}

-- x, and then what is read
abbrev pub paired : {A B : Type 0} → A → Out B → Out (A × B)
paired x o = o >>= λ y. Ok ((x, y.0), y.1)

after : {A B R : Type 0} (g : A → B → R) (x : A) (o : Out B) → (paired x o >>= λ p. Ok (g p.0.0 p.0.1, p.1)) ≡ (o >>= λ y. Ok (g x y.0, y.1))
after g x (Ok y) = refl
after g x (Err m) = refl

-- one part after another
pub pair_is : {A B R : Type 0} (g : A → B → R) (a : C A) (b : C B) (d : ℕ) (ts : List Tok) → reads d (pair g a b) ts ≡ (reads d a ts >>= λ x. reads d b x.1 >>= λ y. Ok (g x.0 y.0, y.1))
pair_is {A = A} {B = B} g a b d ts = go (reads d a ts)
  where
    go : (o : Out A) → ((o >>= λ x. paired x.0 (reads d b x.1)) >>= λ p. Ok (g p.0.0 p.0.1, p.1)) ≡ (o >>= λ x. reads d b x.1 >>= λ y. Ok (g x.0 y.0, y.1))
    go (Ok x) = after g x.0 (reads d b x.1)
    go (Err m) = refl

-- a part, and what follows it, which takes it in
pub then_is : {A B : Type 0} (a : C A) (f : C (A → B)) (d : ℕ) (ts : List Tok) → reads d (then_ a f) ts ≡ (reads d a ts >>= λ x. applied x.0 (reads d f x.1))
then_is a f d ts = pair_is (λ x g. g x) a f d ts

-- what is read, as g makes it
abbrev pub made : {A R : Type 0} → (A → R) → Out A → Out R
made g o = o >>= λ x. Ok (g x.0, x.1)

-- the first of two parts
abbrev pub first_of : {A B : Type 0} → Out (A × B) → Out A
first_of o = o >>= λ p. Ok (p.0.0, p.1)

-- a part, and then a token
pub ended_is : {A R : Type 0} (g : A → R) (a : C A) (t : Kind) (d : ℕ) (ts : List Tok) → reads d (Map g (a ◂ t)) ts ≡ (reads d a ts >>= λ x. reads d (tok t) x.1 >>= λ y. Ok (g x.0, y.1))
ended_is {A = A} {R = R} g a t d ts = go (reads d a ts)
  where
    last : (x : A) (o : Out Tok) → made g (first_of (paired x o)) ≡ (o >>= λ y. Ok (g x, y.1))
    last x (Ok y) = refl
    last x (Err m) = refl

    go : (o : Out A) → made g (first_of (o >>= λ x. paired x.0 (reads d (tok t) x.1))) ≡ (o >>= λ x. reads d (tok t) x.1 >>= λ y. Ok (g x.0, y.1))
    go (Ok x) = last x.0 (reads d (tok t) x.1)
    go (Err m) = refl

-- a function of two
pub twice : {A B R : Type 0} (a : A) (b : B) (o : Out (A → B → R)) → (o >>= λ f. Ok (f.0 a b, f.1)) ≡ applied b (applied a o)
twice a b (Ok f) = refl
twice a b (Err m) = refl

-- three in a row
pub triple_is : {A B F R : Type 0} (g : A → B → F → R) (a : C A) (b : C B) (f : C F) (d : ℕ) (ts : List Tok) → reads d (triple g a b f) ts ≡ (reads d a ts >>= λ x. reads d b x.1 >>= λ y. reads d f y.1 >>= λ z. Ok (g x.0 y.0 z.0, z.1))
triple_is {A = A} {B = B} {F = F} g a b f d ts = go (reads d a ts)
  where
    last : (x : A) (y : B) (o : Out F) → (paired x (paired y o) >>= λ p. Ok (g p.0.0 p.0.1.0 p.0.1.1, p.1)) ≡ (o >>= λ z. Ok (g x y z.0, z.1))
    last x y (Ok z) = refl
    last x y (Err m) = refl

    more : (x : A) (o : Out B) → (paired x (o >>= λ y. paired y.0 (reads d f y.1)) >>= λ p. Ok (g p.0.0 p.0.1.0 p.0.1.1, p.1)) ≡ (o >>= λ y. reads d f y.1 >>= λ z. Ok (g x y.0 z.0, z.1))
    more x (Ok y) = last x y.0 (reads d f y.1)
    more x (Err m) = refl

    go : (o : Out A) → ((o >>= λ x. paired x.0 (reads d b x.1 >>= λ y. paired y.0 (reads d f y.1))) >>= λ p. Ok (g p.0.0 p.0.1.0 p.0.1.1, p.1)) ≡ (o >>= λ x. reads d b x.1 >>= λ y. reads d f y.1 >>= λ z. Ok (g x.0 y.0 z.0, z.1))
    go (Ok x) = more x.0 (reads d b x.1)
    go (Err m) = refl

-- four in a row
pub quadruple_is : {A B F H R : Type 0} (g : A → B → F → H → R) (a : C A) (b : C B) (f : C F) (h : C H) (d : ℕ) (ts : List Tok) → reads d (quadruple g a b f h) ts ≡ (reads d a ts >>= λ x. reads d b x.1 >>= λ y. reads d f y.1 >>= λ z. reads d h z.1 >>= λ w. Ok (g x.0 y.0 z.0 w.0, w.1))
quadruple_is {A = A} {B = B} {F = F} {H = H} {R = R} g a b f h d ts = go (reads d a ts)
  where
    last : (x : A) (y : B) (z : F) (o : Out H) → (paired x (paired y (paired z o)) >>= λ p. Ok (g p.0.0 p.0.1.0 p.0.1.1.0 p.0.1.1.1, p.1)) ≡ (o >>= λ w. Ok (g x y z w.0, w.1))
    last x y z (Ok w) = refl
    last x y z (Err m) = refl

    third : (x : A) (y : B) (o : Out F) → (paired x (paired y (o >>= λ z. paired z.0 (reads d h z.1))) >>= λ p. Ok (g p.0.0 p.0.1.0 p.0.1.1.0 p.0.1.1.1, p.1)) ≡ (o >>= λ z. reads d h z.1 >>= λ w. Ok (g x y z.0 w.0, w.1))
    third x y (Ok z) = last x y z.0 (reads d h z.1)
    third x y (Err m) = refl

    second : (x : A) (o : Out B) → (paired x (o >>= λ y. paired y.0 (reads d f y.1 >>= λ z. paired z.0 (reads d h z.1))) >>= λ p. Ok (g p.0.0 p.0.1.0 p.0.1.1.0 p.0.1.1.1, p.1)) ≡ (o >>= λ y. reads d f y.1 >>= λ z. reads d h z.1 >>= λ w. Ok (g x y.0 z.0 w.0, w.1))
    second x (Ok y) = third x y.0 (reads d f y.1)
    second x (Err m) = refl

    go : (o : Out A) → ((o >>= λ x. paired x.0 (reads d b x.1 >>= λ y. paired y.0 (reads d f y.1 >>= λ z. paired z.0 (reads d h z.1)))) >>= λ p. Ok (g p.0.0 p.0.1.0 p.0.1.1.0 p.0.1.1.1, p.1)) ≡ (o >>= λ x. reads d b x.1 >>= λ y. reads d f y.1 >>= λ z. reads d h z.1 >>= λ w. Ok (g x.0 y.0 z.0 w.0, w.1))
    go (Ok x) = second x.0 (reads d b x.1)
    go (Err m) = refl

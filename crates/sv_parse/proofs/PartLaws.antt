-- What is read of lists, repetitions and options of a part, by what is known of the part.
use Rattle.std.proofs.Common.{◌≡◌, ℕ, true, false, List, [], ◌∷◌, ◌++◌, Some, None, Ok, Err, refl}
use Rattle.sv_grammar.specs.Tokens.{Tok, next, mem}
use Rattle.sv_grammar.specs.Language.{Out}
use Rattle.sv_grammar.specs.Reading.{◌>>=◌}
use Rattle.sv_grammar.specs.Code.{list_from}
use Rattle.sv_tree.specs.declared.kind.Kind.TheVariants as k
use Rattle.sv_tree.specs.Codes.{code}
use Rattle.sv_tree.specs.Forms.{C, comma, commas, list, optional}
use Rattle.sv_tree.specs.Grammar.{reads}
use Rattle.sv_parse.specs.Parts.{IsKnown, IsListed, IsRepeated, from}
use Rattle.sv_parse.proofs.Loops.{IsLoop}

-- a first one and others, read one after the other
in_front : {A : Type 0} (x : A) (o : Out (List A)) → (◌>>=◌ {A = A × List A} {B = List A} (◌>>=◌ {B = A × List A} o (λ y. Ok ((x, y.0), y.1))) (λ p. Ok (p.0.0 ∷ p.0.1, p.1))) ≡ (◌>>=◌ {B = List A} o (λ xs. Ok ((x ∷ []) ++ xs.0, xs.1)))
in_front x (Ok y) = refl
in_front x (Err m) = refl

in_a_row : {A : Type 0} (o : Out A) (f : List Tok → Out (List A)) → (◌>>=◌ {A = A × List A} {B = List A} (◌>>=◌ {B = A × List A} o (λ x. ◌>>=◌ {B = A × List A} (f x.1) (λ y. Ok ((x.0, y.0), y.1)))) (λ p. Ok (p.0.0 ∷ p.0.1, p.1))) ≡ (◌>>=◌ {B = List A} o (λ x. ◌>>=◌ {B = List A} (f x.1) (λ xs. Ok ((x.0 ∷ []) ++ xs.0, xs.1))))
in_a_row (Ok x) f = in_front x.0 (f x.1)
in_a_row (Err m) f = refl

module _ {A : Type 0} (c : C A) (first : List ℕ) (known : IsKnown c first) where
  -- ---- lists

  pub listed_loop : IsListed c → IsLoop (comma c) (code k.Comma ∷ []) 0
  listed_loop apart = record {
    passes = rw (known.passes, known.some, apart) refl;
    begins = refl;
    needs = known.low;
  }

  pub list_is : (d : ℕ) (ts : List Tok) → reads d (list c) ts ≡ (reads d c ts >>= λ x. from (comma c) d (x.0 ∷ []) x.1)
  unfolding list_from
  list_is d ts = in_a_row (reads d c ts) (reads d (commas c))

  -- ---- repetitions

  pub repeated_loop : IsRepeated c → IsLoop c first 0
  repeated_loop apart = record {
    passes = rw (known.passes, known.some, apart, known.begins, known.kinds) refl;
    begins = known.begins;
    needs = known.low;
  }

  -- ---- options

  pub optional_some : (d : ℕ) (ts : List Tok) → mem (next ts).code first ≡ true → reads d (optional c) ts ≡ (reads d c ts >>= λ x. Ok (Some x.0, x.1))
  optional_some d ts h = rw (known.some, known.begins, known.low, h) refl

  pub optional_none : (d : ℕ) (ts : List Tok) → mem (next ts).code first ≡ false → reads d (optional c) ts ≡ Ok (None, ts)
  optional_none d ts h = rw (known.some, known.begins, known.low, h) refl

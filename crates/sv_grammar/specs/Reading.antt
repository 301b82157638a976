-- Readers of languages: functions on the tokens that are left.
use Rattle.std.specs.Prelude.{ℕ, zero, suc, Bool, List, [], ◌∷◌, Ok, Err, if◌then◌else◌, ◌&&◌}
use Rattle.sv_grammar.specs.Tokens.{Tok, next, mem}
use Rattle.sv_grammar.specs.Language.{TooDeep, Unexpected, Out}

-- one reader, and then another on what is left
infixl 10 ◌>>=◌
abbrev pub ◌>>=◌ : {A B : Type 0} → Out A → (A × List Tok → Out B) → Out B
(Ok x) >>= f = f x
(Err e) >>= f = Err e

-- one token of these kinds
abbrev pub one_of : List ℕ → List Tok → Out Tok
one_of ks [] = Err (Unexpected [])
one_of ks (t ∷ ts) = if mem t.code ks then Ok (t, ts) else Err (Unexpected (t ∷ ts))

-- the first reader where one of its kinds is next, else the second
abbrev pub either : {A : Type 0} → List ℕ → Bool → (List Tok → Out A) → List ℕ → Bool → (List Tok → Out A) → List Tok → Out A
either first on p first2 on2 q ts =
    if mem (next ts).code first
    then (if on then p ts else Err (TooDeep ts))
    else (if on2 then q ts else if mem (next ts).code first2 then Err (TooDeep ts) else Err (Unexpected ts))

-- the reader where one of its kinds is next, else nothing is read
abbrev pub maybe : {A : Type 0} → List ℕ → A → (List Tok → Out A) → List Tok → Out A
maybe first none p ts = if mem (next ts).code first then p ts else Ok (none, ts)

-- as often as one of its kinds is next; the first number bounds the turns
abbrev pub run_upto : {S A : Type 0} → ℕ → (S → List ℕ) → (S → Bool) → (S → Bool) → (S → A → S) → (S → List Tok → Out A) → S → List Tok → Out (List A)
run_upto zero first on test step p s ts = Ok ([], ts)
run_upto (suc f) first on test step p s ts =
    if mem (next ts).code (first s)
    then (if test s && on s then (p s ts >>= λ x. run_upto f first on test step p (step s x.0) x.1 >>= λ y. Ok (x.0 ∷ y.0, y.1)) else Err (TooDeep ts))
    else Ok ([], ts)

-- What is read of parts in a row.
use Rattle.std.proofs.Common.{List, Ok, refl}
use Rattle.sv_grammar.specs.Tokens.{Tok}
use Rattle.sv_grammar.specs.Language.{Out}
use Rattle.sv_grammar.specs.Reading.{◌>>=◌}
use Rattle.sv_parse.specs.Outcome.{Fails}
use Rattle.sv_parse.specs.declared.tokens.ReadError.{ReadError}
use Rattle.sv_parse.specs.declared.tokens.ReadError.TheVariants as errors

-- f of what was read
abbrev pub made : {A B : Type 0} → (A → B) → Out A → Out B
made f o = o >>= λ x. Ok (f x.0, x.1)

-- x, and what was read after it
abbrev pub beside : {A B : Type 0} → A → Out B → Out (A × B)
beside x o = o >>= λ y. Ok ((x, y.0), y.1)

-- what was read, and what is read after it
abbrev pub row : {A B : Type 0} → Out A → (List Tok → Out B) → Out (A × B)
row o f = o >>= λ x. beside x.0 (f x.1)

-- where the first part fails, all fails
pub fails_after : {A B : Type 0} (e : ReadError) (o : Out A) (f : A × List Tok → Out B) → Fails e o → Fails e (o >>= f)
fails_after errors.Memory o f h = tt
fails_after (errors.TooDeep rest) o f h = rw h refl
fails_after (errors.Unexpected rest) o f h = rw h refl

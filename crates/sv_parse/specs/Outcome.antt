-- What a reader answers, and what reading gives.
use Rattle.std.specs.Prelude.{◌≡◌, ℕ, false, true, List, Option, Some, None, Result, Ok, Err, Vec, map}
use Rattle.std.specs.Borrow.{Bor}
use Rattle.std.specs.Global.{Global}
use Rattle.sv_grammar.specs.Tokens.{Tok, mem}
use Rattle.sv_grammar.specs.Language.{Out, TooDeep, Unexpected}
use Rattle.sv_tree.specs.Codes.{toks}
use Rattle.sv_tree.specs.declared.token.Token.{Token}
use Rattle.sv_tree.specs.Forms.{C, Words, chosen, kinds_of}
use Rattle.sv_tree.specs.Grammar.{reads}
use Rattle.sv_parse.specs.declared.tokens.ReadError.{ReadError}
use Rattle.sv_parse.specs.declared.tokens.ReadError.TheVariants as errors

-- the error is what reading gives, unless memory ran out
abbrev pub Fails : {Y : Type 0} → ReadError → Out Y → Type 0
Fails errors.Memory read = Unit {0}
Fails (errors.TooDeep rest) read = read ≡ Err (TooDeep (toks rest.now))
Fails (errors.Unexpected rest) read = read ≡ Err (Unexpected (toks rest.now))

-- what a reader answers, seen by view, is what reading gives, unless memory ran out
abbrev pub Gives : {X Y : Type 0} → (X → Y × List Tok) → Result X ReadError → Out Y → Type 0
Gives view (Ok x) read = read ≡ Ok (view x)
Gives view (Err e) read = Fails e read

-- the word of a kind by its number, or none
abbrev pub IsWordOf : {W : Type 0} → Option W → W → Words W → ℕ → Type 0
IsWordOf None w ws n = mem n (kinds_of ws) ≡ false
IsWordOf (Some x) w ws n = (mem n (kinds_of ws) ≡ true) × (chosen w ws n ≡ x)

-- what a reader answers, a tree and the tokens after it, is what reading a production at a budget gives, unless memory ran out
abbrev pub Reads : {X Y : Type 0} → (X → Y) → ℕ → C Y → List Token → Result (X × Bor (List Token)) ReadError → Type 0
Reads view d c ts result = Gives (λ x. (view x.0, toks x.1.now)) result (reads d c (toks ts))

-- a vector of trees as the list of what each stands for
abbrev pub seen : {X Y : Type 0} → (X → Y) → Vec X Global → List Y
seen view v = map view v.items

-- What is answered where the tokens from a place on spell a tree (own).
use Rattle.std.specs.Prelude.{◌≡◌, ℕ, Result, Ok, Err}
use Rattle.sv_parse.specs.declared.fault.SyntaxFault.{SyntaxFault}
use Rattle.sv_parse.specs.declared.fault.SyntaxFault.TheVariants as faults

-- this tree up to this place is answered, unless memory ran out
abbrev pub Answers : {X Y : Type 0} → (X → Y) → Y → ℕ → Result (X × ℕ) SyntaxFault → Type 0
Answers view y end (Ok x) = (view x.0 ≡ y) × (x.1 ≡ end)
Answers view y end (Err faults.Memory) = Unit {0}
Answers view y end (Err (faults.Bad at kind)) = ⊥

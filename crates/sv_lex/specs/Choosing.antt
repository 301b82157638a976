-- The kind of the longest token, by which of its forms is as long.
use Rattle.std.specs.Prelude.{ℕ, List, Option, Some, if◌then◌else◌, ◌==◌}
use Rattle.sv_tree.specs.declared.kind.Kind.{Kind}
use Rattle.sv_tree.specs.declared.kind.Kind.TheVariants as kinds
use Rattle.sv_tree.specs.Tokens.{kind_of_name, spelled, signs}

-- n: the length of the longest token, whose bytes are w; then the lengths of the longest of each form
abbrev pub chosen : ℕ → List ℕ → ℕ → ℕ → ℕ → ℕ → ℕ → ℕ → Option Kind
chosen n w name system number time step string =
    if name == n then Some (kind_of_name w)
    else (if system == n then Some kinds.SystemName
    else (if number == n then Some kinds.Number
    else (if time == n then Some kinds.TimeLiteral
    else (if step == n then Some kinds.OneStep
    else (if string == n then Some kinds.StringLiteral
    else spelled signs w)))))

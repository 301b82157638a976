-- Arguments taken from a list (IEEE 1800-2017, 13.5).
use Rattle.std.specs.Prelude.{List, ◌∷◌, Option, Some, None}
use Rattle.sv_names.specs.declared.argument.Arg.{Arg}

-- the first two arguments, where there are so many
abbrev pub first_two : List Arg → Option (Arg × Arg)
first_two (a ∷ b ∷ as') = Some (a, b)
first_two as' = None

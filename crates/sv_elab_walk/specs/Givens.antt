-- The values that connections give to parameters, as the code keeps them (IEEE 1800-2017, 23.10).
use Rattle.std.specs.Prelude.{List, [], ◌∷◌, Option, Some, None}
use Rattle.sv_names.specs.Entries as entries
use Rattle.sv_names.specs.Instances.{Givens}
use Rattle.sv_elab_walk.specs.declared.givens.KeptValue.{KeptValue}

-- the values by the names of their parameters
abbrev pub kept_in : List KeptValue → Givens
kept_in [] = []
kept_in (k ∷ ks) = (k.name, entries.Given k.at k.value) ∷ kept_in ks

-- the value that one connection gives
abbrev pub given_at : Option KeptValue → Givens
given_at None = []
given_at (Some k) = kept_in (k ∷ [])

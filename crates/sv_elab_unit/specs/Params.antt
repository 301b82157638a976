-- The names of parameters.
use Rattle.std.specs.Prelude.{ℕ, List, map}
use Rattle.sv_tree.specs.Units.{Param}

-- those of a declaration
abbrev pub param_texts : Param → List (List ℕ)
param_texts p = map (λ x. x.name.text) p.names

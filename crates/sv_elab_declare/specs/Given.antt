-- The values that an instance gives to parameters.
use Rattle.std.specs.Prelude.{List, [], ◌∷◌, map}
use Rattle.sv_tree.specs.Units.{Param, ParamItem}
use Rattle.sv_names.specs.Entries as entries
use Rattle.sv_names.specs.Instances.{Givens, param_source}
use Rattle.sv_elab_scope.specs.Views.{source_in}
use Rattle.sv_elab_declare.specs.declared.params.GivenValue.{GivenValue}

-- the values by the names of their parameters
abbrev pub givens_in : List GivenValue → Givens
givens_in [] = []
givens_in (g ∷ gs) = (g.name.now, source_in g.source) ∷ givens_in gs

-- parameters of one declaration
abbrev pub param_names : Givens → Param → List ParamItem → List entries.Entry
param_names gs p xs = map (λ x. entries.entry x.name (entries.A_parameter p.of (param_source p.word x.value x.name.text gs))) xs

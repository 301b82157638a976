-- The variables of activations, by what names stand for.
use Rattle.std.specs.Prelude.{List, [], replicate}
use Rattle.sv_value.specs.declared.place.Place.{Place}
use Rattle.sv_flat.specs.declared.object.Declared.{Declared}
use Rattle.sv_names.specs.declared.named.ResultVariable.{ResultVariable}
use Rattle.sv_names.specs.declared.named.ResultVariable.TheVariants as result_variable
use Rattle.sv_names.specs.Types.{Numbers, data_of, size_of_type}

-- for the result of a function
abbrev pub of_result : Numbers → Place → ResultVariable → List Declared
of_result ns at (result_variable.Local u p t) = replicate (size_of_type t) (record { at = at; ty = data_of ns t })
of_result ns at (result_variable.Object p t) = []

-- What the statements of a function see (IEEE 1800-2017, 13.4.1).
use Rattle.std.specs.Prelude.{Bool, true}
use Rattle.sv_names.specs.declared.checked.Checked.{Checked}
use Rattle.sv_names.specs.declared.named.Callee.{Callee}
use Rattle.sv_names.specs.declared.named.Kind.TheVariants.{Object as Of_object}
use Rattle.sv_names.specs.declared.named.Known.{Known}
use Rattle.sv_names.specs.declared.named.Named.{Named}
use Rattle.sv_names.specs.declared.named.Named.TheVariants.{Itself}
use Rattle.sv_names.specs.declared.scope.Scope.{Scope}
use Rattle.sv_names.specs.Checked.{given}
use Rattle.sv_names.specs.Declarations.{result_of_life}
use Rattle.sv_names.specs.Subroutines.{body_scope, result_path}
use Rattle.sv_names.specs.Types.{Path}

-- what the name of a function stands for inside it
abbrev pub itself_value : Path → Bool → Callee → Checked Named
itself_value p auto c = given (λ t. Itself c (result_of_life auto (result_path p) t)) c.result

-- a function by its own name
abbrev pub itself : Path → Bool → Callee → Known
itself p auto c = record { name = c.name; kind = Of_object; value = itself_value p auto c }

-- what its statements see
abbrev pub function_scope : Scope → Bool → Callee → Scope
function_scope s auto c = body_scope s c auto true

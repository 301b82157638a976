-- Results of functions, by the variables that they are (IEEE 1800-2017, 13.4.1).
use Rattle.std.specs.Prelude.{ℕ, List, [], ◌∷◌, Option, Some, None}
use Rattle.sv_flat.specs.declared.class.Direction.TheVariants as way
use Rattle.sv_flat.specs.declared.class.Formal.{Formal}
use Rattle.sv_flat.specs.declared.class.Variable.TheVariants as variable
use Rattle.sv_names.specs.declared.checked.Checked.{Checked}
use Rattle.sv_names.specs.declared.checked.Checked.TheVariants.{Good}
use Rattle.sv_names.specs.declared.named.Known.{Known}
use Rattle.sv_names.specs.declared.named.Named.{Named}
use Rattle.sv_names.specs.declared.named.Named.TheVariants.{Itself}
use Rattle.sv_names.specs.declared.named.ResultVariable.{ResultVariable}
use Rattle.sv_names.specs.declared.named.ResultVariable.TheVariants as result_variable
use Rattle.sv_names.specs.Named.{Around}
use Rattle.sv_names.specs.Statements as statements
use Rattle.sv_names.specs.Subroutines.{formal_of}
use Rattle.sv_names.specs.Types.{data_of}

-- a result variable, where the variable of an activation stands at this place
abbrev pub result_of : Around → ℕ → ResultVariable → Formal
result_of ar place (result_variable.Object p t) =
    record { direction = way.Output; variable = variable.Object (ar.numbers.object p); ty = data_of ar.numbers t }
result_of ar place (result_variable.Local u p t) =
    record { direction = way.Output; variable = variable.Local place; ty = data_of ar.numbers t }

-- the result by what a declaration stands for
abbrev pub result_known : Around → ℕ → Checked Named → Option Formal
result_known ar place (Good (Itself c v)) = Some (result_of ar place v)
result_known ar place c = None

-- the first of some, where there is one
abbrev pub first_of : List Formal → Option Formal
first_of [] = None
first_of (f ∷ fs) = Some f

-- the result by what it stands for, where it is there
abbrev pub listed : Around → Option Named → List Formal
listed ar None = []
listed ar (Some n) = formal_of ar way.Output n

-- the result by declarations of which the first stands at this place
abbrev pub result_from : Around → ℕ → List Known → Option Formal
result_from ar place ks = first_of (listed ar (statements.result_variable 0 place ks))

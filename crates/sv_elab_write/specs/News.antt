-- `new` of a class, piece by piece (IEEE 1800-2017, 8.7 and 8.17).
use Rattle.std.specs.Prelude.{List}
use Rattle.sv_value.specs.declared.place.Place.{Place}
use Rattle.sv_flat.specs.declared.call.Argument.{Argument}
use Rattle.sv_flat.specs.declared.call.CallForm.{CallForm}
use Rattle.sv_flat.specs.declared.call.CallForm.TheVariants as call
use Rattle.sv_names.specs.declared.argument.Arg.{Arg}
use Rattle.sv_names.specs.declared.around.ClassInfo.{ClassInfo}
use Rattle.sv_names.specs.declared.checked.Checked.{Checked}
use Rattle.sv_names.specs.declared.hoisted.Hoisted.{Hoisted}
use Rattle.sv_names.specs.Assignments.{with_constructor, constructor_in}
use Rattle.sv_names.specs.Checked.{given}
use Rattle.sv_names.specs.Hoisted.{mapped, in_row}
use Rattle.sv_names.specs.Named.{Around}
use Rattle.sv_names.specs.Types.{Path}

-- the call of a constructor
abbrev pub new_form : Around → Path → List (Hoisted Argument) → Hoisted CallForm
new_form ar p xs = mapped (call.New (ar.numbers.class p)) (in_row xs)

-- the same over its arguments
abbrev pub new_called : Around → Place → Path → List Arg → ClassInfo → Checked (Hoisted CallForm)
new_called ar at p as' k = given (new_form ar p) (with_constructor ar at p as' (constructor_in k))

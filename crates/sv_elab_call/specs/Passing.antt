-- Arguments of subroutines, one after another (IEEE 1800-2017, 13.5).
use Rattle.std.specs.Prelude.{true, false, List, [], ◌∷◌, Option, Some, None}
use Rattle.sv_value.specs.declared.place.Place.{Place}
use Rattle.sv_flat.specs.declared.call.Argument.{Argument}
use Rattle.sv_flat.specs.declared.target.Lvalue.{Lvalue}
use Rattle.sv_flat.specs.Expr as flat
use Rattle.sv_names.specs.declared.argument.Arg.{Arg}
use Rattle.sv_names.specs.declared.checked.Checked.{Checked}
use Rattle.sv_names.specs.declared.checked.Checked.TheVariants.{Good}
use Rattle.sv_names.specs.declared.hoisted.Hoisted.{Hoisted}
use Rattle.sv_names.specs.declared.named.Formal.{Formal}
use Rattle.sv_names.specs.declared.ty.Ty.{Ty}
use Rattle.sv_names.specs.declared.typed.Typed.{Typed}
use Rattle.sv_names.specs.Arguments.{values_stand}
use Rattle.sv_names.specs.Calls.{as_input, written_argument, argument, left_out}
use Rattle.sv_names.specs.Checked.{◌▷◌, given, broken_at, fine, put_before, ◌where_also◌}
use Rattle.sv_names.specs.Hoisted.{mapped}
use Rattle.sv_names.specs.Named.{Around}
use Rattle.sv_names.specs.Targets.{Spot, lvalues, takes, read_of}
use Rattle.sv_names.specs.Values.{assigned}

-- E16, E17, E42: a value for an input of a type
abbrev pub input_of : Around → Place → Ty → Typed → Checked (Hoisted Argument)
input_of ar at t e = given as_input (assigned (record ar { takes_events = true }) t at e)

-- E16, E17, E42: the target of an output
abbrev pub output_of : Around → Place → Ty → List Spot → Checked (Hoisted Argument)
output_of ar at t ss = written_argument ar false at t ss

-- E16, E17, E42: the value of an inout, whose target also gets one
abbrev pub inout_value : Around → Place → Ty → List Spot → Checked (Hoisted flat.Expr)
inout_value ar at t ss = assigned ar t at (read_of at ss) where_also takes ar at t ss

-- targets beside a value that has their calls
abbrev pub as_inout : List Lvalue → Hoisted flat.Expr → Hoisted Argument
as_inout ls e = mapped (λ x. record { value = Some x; targets = Some ls }) e

-- E16, E17, E42: the target of an inout, with its calls once
abbrev pub inout_of : Around → Place → Ty → List Spot → Checked (Hoisted Argument)
inout_of ar at t ss = inout_value ar at t ss ▷ (λ e. Good (as_inout (lvalues ar ss).value e))

-- the next argument, where one is left
abbrev pub next_argument : Around → Place → Formal → List Arg → Checked (Hoisted Argument)
next_argument ar at f [] = left_out ar at f
next_argument ar at f (a ∷ as') = argument ar f.direction f.ty a

-- the arguments behind it
abbrev pub behind_next : List Arg → List Arg
behind_next [] = []
behind_next (a ∷ as') = as'

-- an argument for each formal argument, where so many are given
abbrev pub passed : Around → Place → List Formal → List Arg → Checked (List (Hoisted Argument))
passed ar at [] as' = Good []
passed ar at (f ∷ fs) as' = put_before (next_argument ar at f as') (passed ar at fs (behind_next as'))

-- E31: too many arguments, and what they break by themselves
abbrev pub none_left : Place → List Arg → Checked (Unit {0})
none_left at [] = fine
none_left at (a ∷ as') = broken_at 31 at where_also values_stand (a ∷ as')

-- What the code's things stand for, which hold references.
use Rattle.std.specs.Prelude.{Option, Some, None}
use Rattle.sv_value.specs.declared.place.Place.{Place}
use Rattle.sv_names.specs.declared.checked.Fault.{Fault}
use Rattle.sv_names.specs.declared.checked.Checked.{Checked}
use Rattle.sv_names.specs.declared.checked.Checked.TheVariants.{Good, Broken}
use Rattle.sv_elab_name.specs.declared.thing.Thing as code
use Rattle.sv_elab_name.specs.declared.thing.Thing.TheVariants as thing
use Rattle.sv_names.specs.Things.{Thing, A_value, A_subroutine, A_method, Its_result, A_block, The_signal, A_type, thing_place}

-- what a name with its members and calls stands for
abbrev pub thing_in : code.Thing → Thing
thing_in (thing.Value t) = A_value t
thing_in (thing.Subroutine c o direct at) = A_subroutine c.now o direct at
thing_in (thing.Method m o at) = A_method m o.value at
thing_in (thing.ItsResult c o v at) = Its_result c.now o v.value at
thing_in (thing.Block p ss at) = A_block p.now ss.now at
thing_in (thing.Signal b i s at) = The_signal b.now i s.now at
thing_in (thing.TypeName t at) = A_type t at

-- a thing, or else the rule that an earlier one breaks
abbrev pub or_broken : Option Fault → Checked Thing → Checked Thing
or_broken None c = c
or_broken (Some f) (Good t) = Good t
or_broken (Some f) (Broken g) = Broken f

-- E7, E18: the rule that a thing breaks which is to be a target and is none
abbrev pub no_target : Place → Thing → Fault
no_target pe (A_method m o at) = record { at = pe; rule = 18 }
no_target pe th = record { at = thing_place th; rule = 7 }

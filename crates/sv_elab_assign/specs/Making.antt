-- What `new` of mailboxes and semaphores makes, in steps (IEEE 1800-2017, 15.3.1 and 15.4.1).
use Rattle.std.specs.Prelude.{true, List, [], ◌∷◌, Option, Some, None}
use Rattle.sv_value.specs.declared.place.Place.{Place}
use Rattle.sv_value.specs.Vector.{vector, symbols_of}
use Rattle.sv_flat.specs.declared.call.CallForm.TheVariants as call
use Rattle.sv_flat.specs.Expr as flat
use Rattle.sv_names.specs.declared.argument.Arg.{Arg}
use Rattle.sv_names.specs.declared.checked.Checked.{Checked}
use Rattle.sv_names.specs.declared.checked.Checked.TheVariants.{Good}
use Rattle.sv_names.specs.declared.hoisted.Hoisted.{Hoisted}
use Rattle.sv_names.specs.declared.ty.Ty.TheVariants.{Mailbox, Semaphore}
use Rattle.sv_names.specs.Arguments.{value_of_arg, values_stand}
use Rattle.sv_names.specs.Assignments.{no_object, bound_given}
use Rattle.sv_names.specs.Checked.{◌▷◌, given, broken_at, ◌where_also◌}
use Rattle.sv_names.specs.Hoisted.{pure, mapped, result_of}
use Rattle.sv_names.specs.Named.{Around}
use Rattle.sv_names.specs.Targets.{Spot}
use Rattle.sv_names.specs.Types.{int_type, data_of}
use Rattle.sv_names.specs.Values.{exactly}

-- ---- arguments

-- the first argument, where there is one
abbrev pub first_of : List Arg → Option Arg
first_of [] = None
first_of (a ∷ as') = Some a

-- E31: at most one argument
abbrev pub at_most_one : Place → List Arg → Checked (Option Arg)
at_most_one at [] = Good None
at_most_one at (a ∷ []) = Good (Some a)
at_most_one at as' = broken_at 31 at where_also values_stand as'

-- 0 where nothing is given
abbrev pub nothing_given : Hoisted flat.Expr
nothing_given = pure (flat.Literal (vector true (symbols_of 32 0 0)) None)

-- E16, E42: an argument as a number
abbrev pub number_given : Around → Arg → Checked (Hoisted flat.Expr)
number_given ar a = value_of_arg a ▷ exactly ar int_type a.at

-- the same, or 0
abbrev pub number_or_nothing : Around → Option Arg → Checked (Hoisted flat.Expr)
number_or_nothing ar None = Good nothing_given
number_or_nothing ar (Some a) = number_given ar a

-- ---- what is made

-- a mailbox
abbrev pub mailbox_made : Around → Place → List Arg → Checked (Hoisted flat.Expr)
mailbox_made ar at as' =
    given (λ n. result_of ar.first (data_of ar.numbers Mailbox) (mapped call.NewMailbox n)) (bound_given ar at as')

-- a semaphore
abbrev pub semaphore_made : Around → Place → List Arg → Checked (Hoisted flat.Expr)
semaphore_made ar at as' =
    given (λ n. result_of ar.first (data_of ar.numbers Semaphore) (mapped call.NewSemaphore n)) (bound_given ar at as')

-- E16, E42: nothing
abbrev pub nothing_made : Place → List Spot → List Arg → Checked (Hoisted flat.Expr)
nothing_made at ss as' = no_object at ss where_also values_stand as'

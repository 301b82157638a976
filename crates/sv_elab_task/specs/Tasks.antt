-- System tasks over their arguments (IEEE 1800-2017, 20.2, 21.2 and 24.7).
use Rattle.std.specs.Prelude.{ℕ, Bool, true, not, List, [], ◌∷◌, Option, Some, None, if◌then◌else◌, nat_lt, ℤ, pos, negsuc}
use Rattle.sv_value.specs.declared.place.Place.{Place}
use Rattle.sv_flat.specs.declared.stmt.Form.{Form}
use Rattle.sv_flat.specs.declared.stmt.Form.TheVariants as form
use Rattle.sv_flat.specs.declared.stmt.PrintKind.{PrintKind}
use Rattle.sv_tree.specs.Expr as tree
use Rattle.sv_names.specs.declared.argument.Arg.{Arg}
use Rattle.sv_names.specs.declared.checked.Checked.{Checked}
use Rattle.sv_names.specs.declared.checked.Checked.TheVariants.{Good}
use Rattle.sv_names.specs.declared.hoisted.Hoisted.{Hoisted}
use Rattle.sv_names.specs.declared.system.System.{System}
use Rattle.sv_names.specs.declared.system.System.TheVariants as system
use Rattle.sv_names.specs.Arguments.{value_of_arg, values_stand}
use Rattle.sv_names.specs.Calls.{cast_called}
use Rattle.sv_names.specs.Checked.{◌▷◌, given, broken_at, rule, ◌where_also◌}
use Rattle.sv_names.specs.Events.{print_of, newline, no_arguments, call_statement, evaluated}
use Rattle.sv_names.specs.Expressions.{actual_args, first_type, outputs_of_system, system_value}
use Rattle.sv_names.specs.Hoisted.{pure}
use Rattle.sv_names.specs.Named.{Around}
use Rattle.sv_names.specs.Values.{constant_number}

-- a line that is printed
abbrev pub line : PrintKind → Around → tree.Actuals → Checked (Hoisted Form)
line k ar a = print_of k newline (actual_args ar [] a)

-- where no call stands
abbrev pub without_calls : Around → Around
without_calls ar = record ar { call_rule = Some 25 }

-- where only what lasts is named
abbrev pub lasting : Around → Around
lasting ar = record ar { call_rule = Some 25; is_printed_later = true }

-- E12: 0, 1 or 2
abbrev pub finish_within : Place → ℤ → Checked (Hoisted Form)
finish_within at (pos n) = if nat_lt n 3 then Good (pure form.Finish) else broken_at 12 at
finish_within at (negsuc n) = broken_at 12 at

-- `$finish` with one argument
abbrev pub finish_with : Arg → Checked (Hoisted Form)
finish_with a = value_of_arg a ▷ constant_number a.at ▷ finish_within a.at

-- the first argument
abbrev pub first_of : List Arg → Option Arg
first_of [] = None
first_of (a ∷ as') = Some a

-- `$finish` with at most one argument
abbrev pub finish_first : Option Arg → Checked (Hoisted Form)
finish_first None = Good (pure form.Finish)
finish_first (Some a) = finish_with a

-- a rule that a task breaks
abbrev pub refused : ℕ → Place → List Arg → Checked (Hoisted Form)
refused n at as' = broken_at n at where_also values_stand as'

-- `$exit`
abbrev pub exit : Around → Place → List Arg → Checked (Hoisted Form)
exit ar at as' = Good (pure form.Exit) where_also no_arguments at as' where_also rule 49 at (not ar.is_program)

-- `$cast`
abbrev pub cast_of : Around → (answers : Bool) → Place → tree.Actuals → Checked (Hoisted Form)
cast_of ar answers at a = given call_statement (cast_called ar answers at (actual_args ar (outputs_of_system system.Cast a) a))

-- a system function whose value is dropped
abbrev pub value_of : Around → Place → tree.Actuals → System → Checked (Hoisted Form)
value_of ar at a s = given evaluated (system_value ar at (first_type ar a) (actual_args ar (outputs_of_system s a) a) s)

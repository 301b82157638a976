-- What a call that stands as a statement calls, by its last suffix (IEEE 1800-2017, 8, 13 and 15).
use Rattle.std.specs.Prelude.{◌≡◌, Bool, [], Option, Some, None}
use Rattle.sv_value.specs.declared.place.Place.{Place}
use Rattle.sv_flat.specs.declared.stmt.Form.{Form}
use Rattle.sv_tree.specs.declared.expr.Root.{Root}
use Rattle.sv_tree.specs.Expr as tree
use Rattle.sv_tree.specs.Expr.{place_of_root}
use Rattle.sv_names.specs.declared.checked.Checked.{Checked}
use Rattle.sv_names.specs.declared.hoisted.Hoisted.{Hoisted}
use Rattle.sv_names.specs.declared.method.Called.{Called}
use Rattle.sv_names.specs.Checked.{◌▷◌, given, broken_at}
use Rattle.sv_names.specs.Events.{call_statement}
use Rattle.sv_names.specs.Expressions as expressions
use Rattle.sv_names.specs.Expressions.{args, things, called_bare, called_in}
use Rattle.sv_names.specs.Named.{Around, behind}
use Rattle.sv_names.specs.Things.{Thing, Its_result, root_thing, called_thing, hidden_before, outputs_of_thing}

-- the name of a function inside itself
abbrev pub own_name : Thing → Option Place
own_name (Its_result c o v at) = Some at
own_name th = None

-- a call without brackets, where it is known whether it is such a name
abbrev pub bare_by : Around → Place → (is_value : Bool) → Thing → Option Place → Checked Called
bare_by ar pe v th (Some at) = broken_at 7 at
bare_by ar pe v th None = called_thing ar pe v th []

-- a call with its arguments
abbrev pub last_call : Around → Place → (is_value : Bool) → Checked Thing → tree.Exprs → Checked Called
last_call ar pe v th es = expressions.last_call ar pe v th (args (behind (hidden_before th) ar) (outputs_of_thing th) es)

-- a call without brackets behind a thing and what follows it
abbrev pub bare_behind : Around → Place → (is_value : Bool) → Checked Thing → tree.Suffixes → Checked Called
bare_behind ar pe v th ss = things ar pe th ss ▷ called_bare ar pe v

-- a call behind a thing and what follows it
abbrev pub call_behind : Around → Place → (is_value : Bool) → Checked Thing → tree.Suffixes → tree.Exprs → Checked Called
call_behind ar pe v th ss es = last_call ar pe v (things ar pe th ss) es

-- suffixes that end with a call, what stands before it, and its arguments
abbrev pub EndsWithCall : tree.Suffixes → (front : tree.Suffixes) → tree.Exprs → Type 0
EndsWithCall ss front es =
    (ar : Around) (pe : Place) (v : Bool) (th : Checked Thing) → called_in ar pe v th ss ≡ call_behind ar pe v th front es

-- suffixes that end otherwise
abbrev pub EndsBare : tree.Suffixes → Type 0
EndsBare ss = (ar : Around) (pe : Place) (v : Bool) (th : Checked Thing) → called_in ar pe v th ss ≡ bare_behind ar pe v th ss

-- what a name with what follows it calls
abbrev pub called_of : Around → (is_value : Bool) → Root → tree.Suffixes → Checked Called
called_of ar v r s = called_in ar (place_of_root r) v (root_thing ar r) s

-- a call as a statement
abbrev pub call_once : (is_value : Bool) → Root → tree.Suffixes → Around → Checked (Hoisted Form)
call_once v r s ar = given call_statement (called_of ar v r s)

-- How names with what follows them, and arguments, are walked over.
use Rattle.std.specs.Prelude.{Bool, true, false, List, Option, Some, None, option_map}
use Rattle.sv_value.specs.declared.place.Place.{Place}
use Rattle.sv_tree.specs.declared.expr.Root.{Root}
use Rattle.sv_tree.specs.Expr as tree
use Rattle.sv_tree.specs.Expr.{place_of, place_of_root}
use Rattle.sv_names.specs.declared.argument.Arg.{Arg}
use Rattle.sv_names.specs.declared.argument.Taken.{Taken}
use Rattle.sv_names.specs.declared.typed.How.{How}
use Rattle.sv_names.specs.declared.typed.How.TheVariants.{Statement}
use Rattle.sv_names.specs.declared.typed.Typed.{Typed}
use Rattle.sv_names.specs.declared.checked.Checked.{Checked}
use Rattle.sv_names.specs.Checked.{◌▷◌}
use Rattle.sv_names.specs.Named.{Around}
use Rattle.sv_names.specs.Targets.{Spot}
use Rattle.sv_names.specs.Things.{Thing, root_thing, after_dot, thing_value, thing_target}
use Rattle.sv_names.specs.Expressions.{expr, target_in, taken, literal_text, things, called_with, selected_by, part_by, or_before, before_select, as_called, as_selected, as_target}

-- a thing behind the first suffix
abbrev pub stepped : Around → Place → Checked Thing → tree.Suffixes → Checked Thing
stepped ar pe th tree.NoSuffix = th
stepped ar pe th (tree.Member n rest) = th ▷ after_dot ar pe n
stepped ar pe th (tree.Call at es rest) = called_with ar pe th es
stepped ar pe th (tree.Select at i rest) = selected_by ar pe th at i
stepped ar pe th (tree.Part at w l r rest) = part_by ar pe th at w l r

-- what stands in a target before the first suffix
abbrev pub before_suffix : Around → Place → Checked Thing → tree.Suffixes → Option Typed
before_suffix ar pe th tree.NoSuffix = None
before_suffix ar pe th (tree.Member n rest) = None
before_suffix ar pe th (tree.Call at es rest) = as_called pe th rest
before_suffix ar pe th (tree.Select at i rest) = option_map as_selected (as_target ar th)
before_suffix ar pe th (tree.Part at w l r rest) = option_map as_selected (as_target ar th)

-- whether nothing follows
abbrev pub is_end : tree.Suffixes → Bool
is_end tree.NoSuffix = true
is_end ss = false

-- a name with what follows it, as a value
abbrev pub name_as_value : Around → Root → tree.Suffixes → Checked Typed
name_as_value ar r s = things ar (place_of_root r) (root_thing ar r) s ▷ thing_value ar (place_of_root r)

-- a name with what follows it, as a target
abbrev pub name_as_target : How → Around → Root → tree.Suffixes → Checked (List Spot)
name_as_target h ar r s =
    or_before h (place_of_root r)
    (things ar (place_of_root r) (root_thing ar r) s ▷ thing_target ar h (place_of_root r))
    (λ _. before_select ar (place_of_root r) (root_thing ar r) s)

-- what an argument is taken as
abbrev pub taken_of : Around → (is_output : Bool) → tree.Expr → Taken
taken_of ar o e = taken o (λ _. target_in Statement ar e) (λ _. expr ar e)

-- an argument
abbrev pub arg_of : Around → (is_output : Bool) → tree.Expr → Arg
arg_of ar o e = record { at = place_of e; text = literal_text e; taken = taken_of ar o e }

-- a target where one is wanted
abbrev pub target_if : Around → (is_wanted : Bool) → tree.Expr → Option (Checked (List Spot))
target_if ar true e = target_in Statement ar e
target_if ar false e = None

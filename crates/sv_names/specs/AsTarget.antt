-- What an expression is as a target, as the code keeps it.
use Rattle.std.specs.Prelude.{Option, Some, None, Box}
use Rattle.sv_names.specs.declared.typed.Target.{Target}
use Rattle.sv_names.specs.Values.{no_target}

-- no target, or the one that is kept
abbrev pub target_in : {A : Type 0} → Option (Box Target A) → Target
target_in None = no_target
target_in (Some t) = t.value

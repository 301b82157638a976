-- When declarations are evaluated.
use Rattle.std.specs.Prelude.{Bool, true, false}
use Rattle.sv_elab_scope.specs.declared.stage.Stage.{Stage}
use Rattle.sv_elab_scope.specs.declared.stage.Stage.TheVariants.{Rounds, End}

-- whether it is after all rounds
abbrev pub is_last : Stage → Bool
is_last Rounds = false
is_last End = true

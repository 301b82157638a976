use Rattle.std.proofs.Common.{◌≡◌, ◌++◌, drop}
use Rattle.std.specs.Prelude.{flat_map}
use Rattle.sv_names.specs.Code.{declared_known}
use Rattle.sv_names.specs.Views.{around_in}
use Rattle.sv_elab_object.proofs.locals.locals_of.Given as goal

abbrev pub invariant-loop-known : goal.invariant-loop-known
invariant-loop-known l =
    l.locals ++ flat_map (declared_known (around_in l.around).numbers) (drop l.known-index l.known-items)
    ≡ flat_map (declared_known (around_in l.around).numbers) l.known-items

use Rattle.std.proofs.Common.{◌≡◌, drop}
use Rattle.sv_names.specs.Views.{around_in}
use Rattle.sv_elab_subroutine.specs.Results.{result_from}
use Rattle.sv_elab_subroutine.proofs.results.result_formal.Given as goal

abbrev pub invariant-loop-known : goal.invariant-loop-known
invariant-loop-known l = result_from (around_in l.around) l.place (drop l.known-index l.list) ≡ result_from (around_in l.around) 0 l.list

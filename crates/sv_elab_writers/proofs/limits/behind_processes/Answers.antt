use Rattle.std.proofs.Common.{◌∷◌, [], ◌∙◌, map, refl, sym}
use Rattle.sv_elab_writers.specs.declared.touch.Process.{Process}
use Rattle.sv_elab_writers.specs.Views.{process_in}
use Rattle.sv_elab_writers.specs.Counting.{at_most_of}
use Rattle.sv_elab_writers.proofs.LimitLaws.{one_counted}
use Rattle.sv_elab_writers.proofs.limits.behind_processes.Goals as goal

pub loop-process-preserved : goal.loop-process-preserved
loop-process-preserved c ps =
    one_counted at_most_of (map process_in) (λ (p : Process). process_in p ∷ []) (λ p ps. refl) c.args.processes.now
    c.loop-process.process-index c.process-item.result c.loop-process.left c.in-Good.fewer c.loop-process-test.true (sym c.process-item.is)
    c.in-Good.ensures ps
    ∙ c.loop-process.invariant ps

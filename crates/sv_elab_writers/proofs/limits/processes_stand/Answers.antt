use Rattle.std.proofs.Common.{◌++◌, ◌∙◌, List, map, refl, sym, ap}
use Rattle.std.specs.Prelude.{flat_map}
use Rattle.sv_elab_writers.specs.declared.touch.Met.{Met}
use Rattle.sv_elab_writers.specs.Views.{process_in, met_in}
use Rattle.sv_elab_writers.specs.Counting.{at_most_of}
use Rattle.sv_elab_writers.proofs.LimitLaws.{last_counted}
use Rattle.sv_elab_writers.proofs.limits.processes_stand.Goals as goal

pub loop-met-preserved : goal.loop-met-preserved
loop-met-preserved c =
    last_counted at_most_of (λ (ms : List Met). flat_map (λ m. m.processes) (map met_in ms)) (λ (m : Met). map process_in m.processes)
    (λ m ms. refl) c.args.mets.now c.loop-met.met-index c.met-item.result c.loop-met.left c.in-Good.fewer c.loop-met-test.true
    (sym c.met-item.is)
    (λ ps. ap (λ l. at_most_of c.loop-met.left (map process_in l ++ ps)) (sym c.as_slice.ensures) ∙ c.in-Good.ensures ps)
    ∙ c.loop-met.invariant

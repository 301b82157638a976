use Rattle.std.proofs.Common.{◌∙◌, List, map, refl, sym}
use Rattle.std.specs.Prelude.{flat_map}
use Rattle.sv_elab_writers.specs.declared.touch.Met.{Met}
use Rattle.sv_names.specs.Sources.{touches_in}
use Rattle.sv_elab_writers.specs.Views.{met_in}
use Rattle.sv_elab_writers.specs.Counting.{counted_from}
use Rattle.sv_elab_writers.proofs.LimitLaws.{last_counted}
use Rattle.sv_elab_writers.proofs.limits.all_counted.Goals as goal

pub loop-met-preserved : goal.loop-met-preserved
loop-met-preserved c =
    last_counted counted_from (λ (ms : List Met). flat_map touches_in (map met_in ms)) (λ (m : Met). touches_in (met_in m)) (λ m ms. refl)
    c.args.mets.now c.loop-met.met-index c.met-item.result c.loop-met.counts c.in-Good.more c.loop-met-test.true (sym c.met-item.is)
    c.in-Good.ensures
    ∙ c.loop-met.invariant

use Rattle.std.proofs.Common.{◌++◌, ◌∙◌, List, map, refl, sym, ap}
use Rattle.std.specs.Prelude.{flat_map}
use Rattle.sv_elab_writers.specs.declared.touch.Process.{Process}
use Rattle.sv_elab_writers.specs.Views.{touch_in, process_in}
use Rattle.sv_names.specs.declared.checked.Checked.TheVariants.{Broken}
use Rattle.sv_elab_writers.specs.Counting.{counted_from}
use Rattle.sv_elab_writers.proofs.LimitLaws.{one_counted, one_stops}
use Rattle.sv_elab_writers.proofs.limits.count_processes.Goals as goal

pub loop-process-preserved : goal.loop-process-preserved
loop-process-preserved c ts =
    one_counted counted_from (λ (xs : List Process). flat_map (λ p. p.touches) (map process_in xs)) (λ (x : Process). map touch_in x.touches) (λ x xs. refl) c.args.processes.now
    c.loop-process.process-index c.process-item.result c.loop-process.counts c.in-Good.more c.loop-process-test.true (sym c.process-item.is)
    (λ us. ap (λ l. counted_from c.loop-process.counts (map touch_in l ++ us)) (sym c.as_slice.ensures) ∙ c.in-Good.ensures us) ts
    ∙ c.loop-process.invariant ts

pub returns-in-Broken : goal.returns-in-Broken
returns-in-Broken c ts =
    sym (c.loop-process.invariant ts)
    ∙ one_stops counted_from (λ (xs : List Process). flat_map (λ p. p.touches) (map process_in xs)) (λ (x : Process). map touch_in x.touches) (λ x xs. refl) c.args.processes.now
    c.loop-process.process-index c.process-item.result c.loop-process.counts (Broken c.in-Broken.f) c.loop-process-test.true (sym c.process-item.is)
    (λ us. ap (λ l. counted_from c.loop-process.counts (map touch_in l ++ us)) (sym c.as_slice.ensures) ∙ c.in-Broken.ensures us) ts

use Rattle.std.proofs.Common.{◌++◌, ◌∙◌, List, map, refl, sym, ap}
use Rattle.std.specs.Prelude.{flat_map}
use Rattle.sv_elab_writers.specs.declared.touch.Routine.{Routine}
use Rattle.sv_elab_writers.specs.Views.{touch_in, routine_in}
use Rattle.sv_names.specs.declared.checked.Checked.TheVariants.{Broken}
use Rattle.sv_elab_writers.specs.Counting.{counted_from}
use Rattle.sv_elab_writers.proofs.LimitLaws.{one_counted, one_stops}
use Rattle.sv_elab_writers.proofs.limits.count_routines.Goals as goal

pub loop-routine-preserved : goal.loop-routine-preserved
loop-routine-preserved c ts =
    one_counted counted_from (λ (xs : List Routine). flat_map (λ e. e.1) (map routine_in xs)) (λ (x : Routine). map touch_in x.touches) (λ x xs. refl) c.args.table.now
    c.loop-routine.routine-index c.routine-item.result c.loop-routine.counts c.in-Good.more c.loop-routine-test.true (sym c.routine-item.is)
    (λ us. ap (λ l. counted_from c.loop-routine.counts (map touch_in l ++ us)) (sym c.as_slice.ensures) ∙ c.in-Good.ensures us) ts
    ∙ c.loop-routine.invariant ts

pub returns-in-Broken : goal.returns-in-Broken
returns-in-Broken c ts =
    sym (c.loop-routine.invariant ts)
    ∙ one_stops counted_from (λ (xs : List Routine). flat_map (λ e. e.1) (map routine_in xs)) (λ (x : Routine). map touch_in x.touches) (λ x xs. refl) c.args.table.now
    c.loop-routine.routine-index c.routine-item.result c.loop-routine.counts (Broken c.in-Broken.f) c.loop-routine-test.true (sym c.routine-item.is)
    (λ us. ap (λ l. counted_from c.loop-routine.counts (map touch_in l ++ us)) (sym c.as_slice.ensures) ∙ c.in-Broken.ensures us) ts

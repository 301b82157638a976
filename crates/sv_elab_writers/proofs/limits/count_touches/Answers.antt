use Rattle.std.proofs.Common.{◌∷◌, [], ◌∙◌, map, refl, sym}
use Rattle.sv_elab_writers.specs.declared.touch.Touch.{Touch}
use Rattle.sv_elab_writers.specs.Views.{touch_in}
use Rattle.sv_elab_writers.specs.Counting.{counted_from}
use Rattle.sv_elab_writers.proofs.LimitLaws.{one_counted}
use Rattle.sv_elab_writers.proofs.limits.count_touches.Goals as goal

pub loop-touch-preserved : goal.loop-touch-preserved
loop-touch-preserved c ts =
    one_counted counted_from (map touch_in) (λ (x : Touch). touch_in x ∷ []) (λ x xs. refl) c.args.touches.now c.loop-touch.touch-index
    c.touch-item.result c.loop-touch.counts c.in-Good.more c.loop-touch-test.true (sym c.touch-item.is) c.in-Good.ensures ts
    ∙ c.loop-touch.invariant ts

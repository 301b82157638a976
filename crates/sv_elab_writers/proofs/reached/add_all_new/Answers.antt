use Rattle.std.proofs.Common.{◌∙◌, sym, ap}
use Rattle.std.specs.Vec.Iter.{into_iter_items}
use Rattle.sv_names.specs.Writers.{with_new}
use Rattle.sv_elab_writers.proofs.ReachedLaws.{new_first}
use Rattle.sv_elab_writers.proofs.reached.add_all_new.Goals as goal

pub loop-path-preserved : goal.loop-path-preserved
loop-path-preserved c =
    let rest = into_iter_items c.next.new.self in
    ap (λ ps. with_new ps rest) c.in_ok-add_new.ensures
    ∙ new_first c.loop-path.paths rest c.in-Some.path
    ∙ ap (with_new c.loop-path.paths) (sym c.in-Some.ensures.items)
    ∙ c.loop-path.invariant

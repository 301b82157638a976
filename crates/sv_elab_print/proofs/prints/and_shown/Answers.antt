use Rattle.std.specs.Vec.Iter.{into_iter_items}
use Rattle.sv_elab_print.proofs.PrintLaws.{shown_step, shown_fewer}
use Rattle.sv_elab_print.proofs.prints.and_shown.Goals as goal

pub returns-clause-ok : goal.returns-clause-ok
returns-clause-ok c =
    shown_step c.in_ok-printed.printed c.args.done c.args.a (into_iter_items c.args.args.now) (into_iter_items c.shown_alone.new.args) c.in_ok-format.format
    c.in_ok-format.ensures.ok c.in_ok-printed.ensures.ok c.in_ok-printed.ensures.rest

pub returns-clause-fewer : goal.returns-clause-fewer
returns-clause-fewer c =
    shown_fewer (into_iter_items c.args.args.now) (into_iter_items c.shown_alone.new.args) c.in_ok-format.format c.in_ok-printed.ensures.rest

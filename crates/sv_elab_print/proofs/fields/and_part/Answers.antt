use Rattle.std.specs.Vec.Iter.{into_iter_items}
use Rattle.sv_elab_print.specs.Printing.{part_filled}
use Rattle.sv_elab_print.proofs.PrintLaws.{part_step, rest_step}
use Rattle.sv_elab_print.proofs.fields.and_part.Goals as goal

pub returns-clause-ok : goal.returns-clause-ok
returns-clause-ok c ss =
    let args = into_iter_items c.args.args.now in
    part_step c.args.at c.in_ok-printed.printed c.args.done c.args.piece ss args (into_iter_items c.part_filled-more.new.args)
    (c.in_ok-printed.ensures.ok (part_filled c.args.at c.args.piece args) c.part_filled-more.ensures.gives) c.part_filled-more.ensures.rest

pub returns-clause-rest : goal.returns-clause-rest
returns-clause-rest c ss =
    rest_step c.args.piece ss (into_iter_items c.args.args.now) (into_iter_items c.part_filled-more.new.args) c.part_filled-more.ensures.rest

pub returns-in_err-printed-clause-rest : goal.returns-in_err-printed-clause-rest
returns-in_err-printed-clause-rest c ss =
    rest_step c.args.piece ss (into_iter_items c.args.args.now) (into_iter_items c.part_filled-more.new.args) c.part_filled-more.ensures.rest

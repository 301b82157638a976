use Rattle.std.specs.Vec.Iter.{into_iter_items}
use Rattle.sv_names.specs.Views.{around_in}
use Rattle.sv_elab_call.specs.Passing.{next_argument}
use Rattle.sv_elab_call.proofs.PassingLaws.{and_passed}
use Rattle.sv_elab_call.proofs.passing.and_argument.Goals as goal

pub returns-clause-ok : goal.returns-clause-ok
returns-clause-ok c =
    let ar = around_in c.args.around.now in
    let old = into_iter_items c.args.args.now in
    and_passed ar c.args.at c.args.formal.now c.args.list old _ c.in_ok-next.next c.and_next.result
    (c.in_ok-next.ensures.ok (next_argument ar c.args.at c.args.formal.now old) c.next_argument.ensures.argument) c.next_argument.ensures.rest c.and_next.ensures.ok

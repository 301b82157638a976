use Rattle.sv_elab_print.specs.Printing.{arg_unprinted}
use Rattle.sv_elab_print.proofs.TextLaws.{left_step}
use Rattle.sv_elab_print.proofs.strings.and_unprinted.Goals as goal

pub returns-clause-ok : goal.returns-clause-ok
returns-clause-ok c as' =
    left_step c.in_ok-printed.printed c.args.done c.args.a as'
    (c.in_ok-printed.ensures.ok (arg_unprinted c.args.a) c.arg_unprinted-more.ensures)

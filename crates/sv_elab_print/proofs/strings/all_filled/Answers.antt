use Rattle.std.proofs.Common.{subst}
use Rattle.std.specs.Vec.Iter.{into_iter_items}
use Rattle.sv_names.specs.declared.checked.Checked.{Checked}
use Rattle.sv_names.specs.Formats.{Printed}
use Rattle.sv_names.specs.Given.{Gives}
use Rattle.sv_elab_print.proofs.TextLaws.{all_is}
use Rattle.sv_elab_print.proofs.strings.all_filled.Goals as goal

pub returns : goal.returns
returns c =
    subst (λ (p : Checked Printed). Gives c.answer.result p)
    (all_is c.args.at c.args.pieces (into_iter_items c.args.args) (into_iter_items c.filled.new.args) c.nothing.result c.in_ok-printed.printed c.in_ok-printed-2.printed
    c.nothing.ensures c.in_ok-printed.ensures.ok c.in_ok-printed.ensures.rest c.in_ok-printed-2.ensures.ok)
    c.answer.ensures

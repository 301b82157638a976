use Rattle.std.proofs.Common.{List, ap, sym, ◌∙◌}
use Rattle.sv_flat.specs.Expr as flat
use Rattle.sv_elab_print.specs.Printing.{texts_before}
use Rattle.sv_elab_print.proofs.TextLaws.{last_before}
use Rattle.sv_elab_print.proofs.strings.texts_before.Goals as goal

pub loop-high-preserved : goal.loop-high-preserved
loop-high-preserved c =
    let es = c.pop.new.self.items in
    let whole = c.loop-high.whole in
    ap (texts_before es) c.in_ok-whole.ensures.ok
    ∙ sym (last_before es c.in-Some.high whole)
    ∙ sym (ap (λ (ts : List flat.Expr). texts_before ts whole) c.in-Some.ensures.items)
    ∙ c.loop-high.invariant

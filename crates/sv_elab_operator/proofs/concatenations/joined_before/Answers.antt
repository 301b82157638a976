use Rattle.std.proofs.Common.{List, ap, sym, ◌∙◌}
use Rattle.sv_names.specs.Operators.{Placed}
use Rattle.sv_elab_operator.specs.Concatenations.{joined_before}
use Rattle.sv_elab_operator.proofs.InRow.{last_before}
use Rattle.sv_elab_operator.proofs.concatenations.joined_before.Goals as goal

pub loop-part-preserved : goal.loop-part-preserved
loop-part-preserved c =
    let xs = c.pop.new.self.items in
    let whole = c.loop-part.whole in
    ap (joined_before xs) c.in_ok-whole.ensures.ok
    ∙ sym (last_before xs (c.in-Some.field-0-0, c.in-Some.part) whole)
    ∙ sym (ap (λ (ps : List Placed). joined_before ps whole) c.in-Some.ensures.items)
    ∙ c.loop-part.invariant

use Rattle.std.proofs.Common.{rules, ◌++◌, ap, sym, ◌∙◌, append-nil}
use Rattle.sv_stack.specs.Effects.{effects_in}
use Rattle.sv_process.proofs.assigns.write_all.Goals as goal

pub loop-out-preserved : goal.loop-out-preserved
loop-out-preserved c = λ d. c.in_ok-write_first.ensures.wrote d ∙ c.loop-out.invariant d

pub returns : goal.returns
returns c = λ d.
    sym (append-nil (effects_in d c.loop-out.out.items)) ∙ ap (λ u. effects_in d c.loop-out.out.items ++ u) (sym (c.has_both.ensures.none (search rules)))
    ∙ c.loop-out.invariant d

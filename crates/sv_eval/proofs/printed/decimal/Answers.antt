use Rattle.std.proofs.Common.{◌++◌, ◌∙◌}
use Rattle.sv_digits.proofs.TextLaws.{written_is}
use Rattle.sv_eval.proofs.printed.decimal.Goals as goal

pub returns : goal.returns
returns c =
    let digits = c.as_bytes.ensures.value ∙ c.in_ok-digits.ensures.ok ∙ written_is c.args.number in
    c.in_ok-push_all.ensures.ok ∙ (λ i. c.new-text.ensures i ++ digits i)

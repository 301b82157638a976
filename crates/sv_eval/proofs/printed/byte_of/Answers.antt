use Rattle.std.proofs.Common.{ℕ, take, drop, min, length, ap, ◌∙◌}
use Rattle.sv_value.specs.Vector.{Vector, unsigned}
use Rattle.sv_eval.proofs.PrintLaws.{byte_is}
use Rattle.sv_eval.proofs.printed.byte_of.Goals as goal

pub returns : goal.returns
returns c =
    let two = c.to_two_state-two_state.ensures in
    byte_is c.args.value.symbols c.min.result c.words-byte.result.0 c.words-byte.result.1 c.slice.result
    (c.slice.ensures ∙ ap (λ (v : Vector). unsigned (take c.min.result (drop 0 v.symbols))) two)
    (c.min.ensures ∙ ap (λ (n : ℕ). min n 8) c.width-width.ensures.value ∙ ap (λ (v : Vector). min (length v.symbols) 8) two)
    c.words-byte.ensures

use Rattle.std.proofs.Common.{◌-◌, ◌∙◌, false, take, drop}
use Rattle.sv_value.specs.Vector.{vector, unsigned, resized}
use Rattle.sv_value.proofs.Words.{same_vector}
use Rattle.sv_assign.proofs.PieceLaws.{piece_inside}
use Rattle.sv_assign.proofs.pieces.tail.Goals as goal

pub returns : goal.returns
returns c w enough longer =
    c.resize-2.ensures ∙ (λ i. vector false (resized c.args.width (c.resize.ensures i)))
    ∙ (λ i. vector false (resized c.args.width (vector c.signed.result (resized (c.width-own.result - c.args.low) (c.slice.ensures i)))))
    ∙ (λ i. vector false (resized c.args.width (vector (c.signed.ensures i)
    (resized (c.width-own.ensures.value i - c.args.low) (unsigned (take (c.width-own.ensures.value i - c.args.low) (drop c.args.low c.args.value.symbols)))))))
    ∙ same_vector (piece_inside c.args.value.signed c.args.value.symbols c.args.low c.args.width w c.requires.within enough)

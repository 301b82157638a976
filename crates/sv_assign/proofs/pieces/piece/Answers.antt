use Rattle.std.proofs.Common.{◌∙◌, arith, replicate}
use Rattle.sv_value.specs.Vector.{unsigned}
use Rattle.sv_value.proofs.Words.{same_vector}
use Rattle.sv_assign.proofs.PieceLaws.{piece_outside}
use Rattle.sv_assign.proofs.pieces.piece.Goals as goal

pub returns-else-low-from : goal.returns-else-low-from
returns-else-low-from c w enough longer =
    c.copies.ensures ∙ (λ i. unsigned (replicate c.args.width (c.filling.ensures i)))
    ∙ same_vector (piece_outside c.args.value c.args.low c.args.width w (omega arith) enough)

use Rattle.std.proofs.Common.{◌∙◌}
use Rattle.sv_tree.specs.Codes.{toks}
use Rattle.sv_parse_expr.proofs.Operands.{cast_is}
use Rattle.sv_parse_expr.proofs.Outcomes.{fails_after}
use Rattle.sv_parse_expr.proofs.casts.cast_operand.Goals as goal

pub returns-in-Err-expression-clause-reads : goal.returns-in-Err-expression-clause-reads
returns-in-Err-expression-clause-reads c =
    rw (cast_is c.args.to c.args.budget c.in-Ok.read c.in-Ok.ensures.0 (toks c.args.tokens.now), c.in-Ok-expect.ensures, c.in-Ok-expect-2.ensures) (fails_after c.in-Err-expression.error _ _ c.in-Err-expression.ensures.reads)

pub returns-in-Err-expect-3-clause-reads : goal.returns-in-Err-expect-3-clause-reads
returns-in-Err-expect-3-clause-reads c =
    rw (cast_is c.args.to c.args.budget c.in-Ok.read c.in-Ok.ensures.0 (toks c.args.tokens.now), c.in-Ok-expect.ensures, c.in-Ok-expect-2.ensures, c.in-Ok-expression.ensures.reads) (fails_after c.in-Err-expect-3.error _ _ c.in-Err-expect-3.ensures)

pub returns-clause-reads : goal.returns-clause-reads
returns-clause-reads c =
    cast_is c.args.to c.args.budget c.in-Ok.read c.in-Ok.ensures.0 (toks c.args.tokens.now) ∙ rw (c.in-Ok-expect.ensures, c.in-Ok-expect-2.ensures, c.in-Ok-expression.ensures.reads, c.in-Ok-expect-3.ensures) (search c.in-Ok-new.ensures.ok)

use Rattle.std.proofs.Common.{length, arith}
use Rattle.sv_tree.specs.Lexing.{reading}
use Rattle.sv_lex.specs.Going.{joined}
use Rattle.sv_lex.proofs.Steps.{lexes_end, scales_end}
use Rattle.sv_lex.proofs.Ends.{lexed_closed}
use Rattle.sv_lex.proofs.lexer.lex.Goals as goal

pub loop-i-init : goal.loop-i-init
loop-i-init c = record {
  within = omega arith;
  same = λ i. joined (c.new-tokens.ensures.items i) (c.new-scales.ensures.items i) (reading (length (c.new-tokens.ensures.items i)) 0 (c.start-at.ensures.value i) c.args.text.now);
  line = omega arith;
  col = omega arith;
}

pub returns-clause-tokens : goal.returns-clause-tokens
returns-clause-tokens c =
    lexes_end c.args.file c.args.text.now c.loop-i.tokens.items c.push.new.self.items c.loop-i.scales.items c.loop-i.at c.loop-i.i c.in_ok-end_of_text.field-0
    c.loop-i-test.false c.loop-i.invariant.same c.in_ok-push.ensures.items c.in_ok-end_of_text.ensures

pub returns-clause-closed : goal.returns-clause-closed
returns-clause-closed c =
    lexed_closed c.args.file c.args.text.now c.push.new.self.items
    (lexes_end c.args.file c.args.text.now c.loop-i.tokens.items c.push.new.self.items c.loop-i.scales.items c.loop-i.at c.loop-i.i c.in_ok-end_of_text.field-0
    c.loop-i-test.false c.loop-i.invariant.same c.in_ok-push.ensures.items c.in_ok-end_of_text.ensures)

pub returns-clause-scales : goal.returns-clause-scales
returns-clause-scales c =
    scales_end c.args.file c.args.text.now c.loop-i.tokens.items c.loop-i.scales.items c.loop-i.at c.loop-i.i c.loop-i-test.false c.loop-i.invariant.same

use Rattle.std.proofs.Common.{length, drop, arith}
use Rattle.std.proofs.lemmas.List.{length-drop}
use Rattle.sv_lex.proofs.Steps.{passed_joined, scale_joined, token_joined, token_stops, nothing_stops}
use Rattle.sv_lex.proofs.lexer.step.Goals as goal

pub returns-then-len-eq-MOST_TOKENS-clause-stops : goal.returns-then-len-eq-MOST_TOKENS-clause-stops
returns-then-len-eq-MOST_TOKENS-clause-stops c =
    token_stops (length c.args.tokens.now.items) c.args.at (drop c.args.i c.args.text.now) c.in-Token.kind c.in-Token.n c.in-Token.ensures.value (omega (arith, length-drop c.args.i c.args.text.now)) (omega arith)

pub returns-in-Passed-clause-goes : goal.returns-in-Passed-clause-goes
returns-in-Passed-clause-goes c =
    passed_joined c.args.tokens.now.items c.args.scales.now.items c.args.at (drop c.args.i c.args.text.now) c.in-Passed.n c.in-Passed.ensures.value c.in-Passed.ensures.fits.0 c.in-Passed.ensures.fits.1

pub returns-in_ok-push-in-Scale-clause-goes : goal.returns-in_ok-push-in-Scale-clause-goes
returns-in_ok-push-in-Scale-clause-goes c =
    scale_joined c.args.tokens.now.items c.args.scales.now.items c.push.new.self.items c.args.at (drop c.args.i c.args.text.now) c.in-Scale.unit c.in-Scale.precision c.in-Scale.length
    c.in-Scale.ensures.value c.in-Scale.ensures.fits.0 c.in-Scale.ensures.fits.1 c.in_ok-push-in-Scale.ensures.items

pub returns-in_ok-push-in-Token-clause-goes : goal.returns-in_ok-push-in-Token-clause-goes
returns-in_ok-push-in-Token-clause-goes c =
    token_joined c.args.tokens.now.items c.push-in-Token.new.self.items c.args.scales.now.items c.args.at (drop c.args.i c.args.text.now) c.in-Token.kind c.in-Token.n _ c.in_ok-token-in-Token.field-0
    c.in-Token.ensures.value c.in-Token.ensures.fits.0 c.in-Token.ensures.fits.1 (λ e. absurd (omega arith)) c.in_ok-push-in-Token.ensures.items c.in_ok-token-in-Token.ensures (omega arith)

pub returns-in-Nothing-clause-stops : goal.returns-in-Nothing-clause-stops
returns-in-Nothing-clause-stops c =
    nothing_stops (length c.args.tokens.now.items) c.args.at (drop c.args.i c.args.text.now) c.in-Nothing.kind c.in-Nothing.ensures.value (omega (arith, length-drop c.args.i c.args.text.now))

use Rattle.std.proofs.Common.{◌≡◌, ℕ, ◌-◌, List, drop, Ok, subst}
use Rattle.std.proofs.lemmas.List.{take_rest}
use Rattle.sv_tree.specs.declared.token.Token.{Token}
use Rattle.sv_tree.specs.Codes.{toks}
use Rattle.sv_tree.specs.Depth.{most_depth}
use Rattle.sv_tree.specs.View.{expr}
use Rattle.sv_tree.specs.Grammar.{reads}
use Rattle.sv_tree.specs.ExprGrammar as grammar
use Rattle.sv_parse.specs.Outcome.{Fails}
use Rattle.sv_parse.proofs.ExprParts.{expr_known}
use Rattle.sv_parse_expr.proofs.Exact.{code_to, code_shorter, code_fault, code_only, no_fault}
use Rattle.sv_parse_expr.proofs.whole.expr.Goals as goal

pub overflow_sub-result : goal.overflow_sub-result
overflow_sub-result c =
    code_shorter grammar.expr expr_known.passes expr_known.low c.at.result c.args.from c.args.tokens.now c.in-Ok.rest.now (expr c.in-Ok.tree)
    (subst (λ (ts : List Token). reads c.at.result grammar.expr (toks ts) ≡ Ok (expr c.in-Ok.tree, toks c.in-Ok.rest.now)) (take_rest c.args.tokens.now c.args.from) c.in-Ok.ensures)

pub returns-in-Ok : goal.returns-in-Ok
returns-in-Ok c =
    let read = subst (λ (d : ℕ). reads d grammar.expr (toks (drop c.args.from c.args.tokens.now)) ≡ Ok (expr c.in-Ok.tree, toks c.in-Ok.rest.now)) c.at.ensures (subst (λ (ts : List Token). reads c.at.result grammar.expr (toks ts) ≡ Ok (expr c.in-Ok.tree, toks c.in-Ok.rest.now)) (take_rest c.args.tokens.now c.args.from) c.in-Ok.ensures) in
    record {
      told = code_to grammar.expr expr_known.passes expr_known.low (most_depth - c.args.depth) c.args.from c.args.tokens.now c.in-Ok.rest.now (expr c.in-Ok.tree) c.requires.place read;
      only = λ y end r. code_only grammar.expr expr_known.passes expr_known.low (most_depth - c.args.depth) c.args.from c.args.tokens.now c.in-Ok.rest.now (expr c.in-Ok.tree) y end read r;
    }

pub returns-in-Err : goal.returns-in-Err
returns-in-Err c =
    let failed = subst (λ (d : ℕ). Fails c.in-Err.error (reads d grammar.expr (toks (drop c.args.from c.args.tokens.now)))) c.at.ensures (subst (λ (ts : List Token). Fails c.in-Err.error (reads c.at.result grammar.expr (toks ts))) (take_rest c.args.tokens.now c.args.from) c.in-Err.ensures) in
    record {
      told = code_fault grammar.expr expr_known.passes expr_known.low (most_depth - c.args.depth) c.args.from c.args.tokens.now expr c.in-Err.error c.fault_of.result failed c.fault_of.ensures;
      only = λ y end r. no_fault grammar.expr expr_known.passes expr_known.low (most_depth - c.args.depth) c.args.from c.args.tokens.now expr c.in-Err.error c.fault_of.result y end failed c.fault_of.ensures r;
    }

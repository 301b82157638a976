use Rattle.std.proofs.Common.{◌≡◌, ℕ, ◌-◌, ◌≤◌, List, drop, Ok, refl, subst, arith}
use Rattle.std.proofs.lemmas.List.{take_rest}
use Rattle.sv_tree.specs.declared.token.Token.{Token}
use Rattle.sv_tree.specs.Codes.{toks}
use Rattle.sv_tree.specs.Depth.{most_depth}
use Rattle.sv_tree.specs.StmtView.{stmt}
use Rattle.sv_tree.specs.Forms.{statement}
use Rattle.sv_tree.specs.Grammar.{reads}
use Rattle.sv_parse.specs.Outcome.{Fails}
use Rattle.sv_parse_stmt.proofs.Exact.{code_to, code_shorter, code_fault, code_only, no_fault}
use Rattle.sv_parse_stmt.proofs.whole.stmt.Goals as goal

pub overflow_sub-result : goal.overflow_sub-result
overflow_sub-result c =
    let low : 1 ≤ c.at.result = omega arith in
    code_shorter statement refl c.at.result c.args.from low c.args.tokens.now c.in-Ok.rest.now (stmt c.in-Ok.tree)
    (subst (λ (ts : List Token). reads c.at.result statement (toks ts) ≡ Ok (stmt c.in-Ok.tree, toks c.in-Ok.rest.now)) (take_rest c.args.tokens.now c.args.from) c.in-Ok.ensures)

pub returns-in-Ok : goal.returns-in-Ok
returns-in-Ok c =
    let low : 1 ≤ most_depth - c.args.depth = omega arith in
    let read = subst (λ (d : ℕ). reads d statement (toks (drop c.args.from c.args.tokens.now)) ≡ Ok (stmt c.in-Ok.tree, toks c.in-Ok.rest.now)) c.at.ensures (subst (λ (ts : List Token). reads c.at.result statement (toks ts) ≡ Ok (stmt c.in-Ok.tree, toks c.in-Ok.rest.now)) (take_rest c.args.tokens.now c.args.from) c.in-Ok.ensures) in
    record {
      told = code_to statement refl (most_depth - c.args.depth) c.args.from low c.args.tokens.now c.in-Ok.rest.now (stmt c.in-Ok.tree) c.requires.place read;
      only = λ y end r. code_only statement refl (most_depth - c.args.depth) c.args.from low c.args.tokens.now c.in-Ok.rest.now (stmt c.in-Ok.tree) y end read r;
    }

pub returns-in-Err : goal.returns-in-Err
returns-in-Err c =
    let low : 1 ≤ most_depth - c.args.depth = omega arith in
    let failed = subst (λ (d : ℕ). Fails c.in-Err.error (reads d statement (toks (drop c.args.from c.args.tokens.now)))) c.at.ensures (subst (λ (ts : List Token). Fails c.in-Err.error (reads c.at.result statement (toks ts))) (take_rest c.args.tokens.now c.args.from) c.in-Err.ensures) in
    record {
      told = code_fault statement refl (most_depth - c.args.depth) c.args.from low c.args.tokens.now stmt c.in-Err.error c.fault_of.result failed c.fault_of.ensures;
      only = λ y end r. no_fault statement refl (most_depth - c.args.depth) c.args.from low c.args.tokens.now stmt c.in-Err.error c.fault_of.result y end failed c.fault_of.ensures r;
    }

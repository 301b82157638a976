use Rattle.std.proofs.Common.{rules, [], ◌∷◌, map, refl}
use Rattle.std.proofs.lemmas.List.{map_push}
use Rattle.sv_tree.specs.declared.kind.Kind.TheVariants as k
use Rattle.sv_tree.specs.Codes.{code, toks}
use Rattle.sv_tree.specs.ExprGrammar as grammar
use Rattle.sv_tree.specs.Forms.{comma, list}
use Rattle.sv_tree.specs.StmtView.{lval}
use Rattle.sv_tree.specs.Grammar.{reads}
use Rattle.sv_parse.proofs.Loops.{loop_ends, loop_goes_on, loop_shorter}
use Rattle.sv_parse_expr.proofs.TargetLaws.{commas_loop}
use Rattle.sv_parse_expr.proofs.target.+target.Goals as goal

pub target_list-commas-preserved : goal.target_list-commas-preserved
target_list-commas-preserved t c = loop_goes_on (comma grammar.lval) (code k.Comma ∷ []) 0 commas_loop c.args.budget (map lval c.commas.targets.items) (map lval c.push-in-commas.new.self.items) (toks c.commas.rest.now) (lval c.in-Ok-comma_target.read.0, toks c.in-Ok-comma_target.read.1.now) (reads c.args.budget (list grammar.lval) (toks c.args.tokens.now)) (search rules) refl c.in-Ok-comma_target.ensures (rw c.in-Ok-push-2.ensures.items (map_push lval c.commas.targets.items c.in-Ok-comma_target.read.0)) c.commas.invariant

pub target_list-commas-smaller : goal.target_list-commas-smaller
target_list-commas-smaller t c = loop_shorter (comma grammar.lval) (code k.Comma ∷ []) 0 commas_loop c.args.budget c.commas.rest.now c.in-Ok-comma_target.read.1.now (lval c.in-Ok-comma_target.read.0, toks c.in-Ok-comma_target.read.1.now) refl c.in-Ok-comma_target.ensures refl

pub target_list-returns-in-Err-comma_target : goal.target_list-returns-in-Err-comma_target
target_list-returns-in-Err-comma_target t c =
    (loop_ends (comma grammar.lval) (code k.Comma ∷ []) 0 commas_loop c.args.budget c.in-Err-comma_target.error (map lval c.commas.targets.items) (toks c.commas.rest.now) (reads c.args.budget (list grammar.lval) (toks c.args.tokens.now)) (search rules) refl c.in-Err-comma_target.ensures c.commas.invariant)

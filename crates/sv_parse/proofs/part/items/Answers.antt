use Rattle.std.proofs.Common.{rules, map, refl, sym, ◌∙◌}
use Rattle.std.proofs.lemmas.Result.{err_from_is_err_and}
use Rattle.std.proofs.lemmas.List.{map_push}
use Rattle.sv_grammar.specs.Code.Code.{Rep}
use Rattle.sv_tree.specs.Codes.{toks}
use Rattle.sv_tree.specs.Grammar.{reads}
use Rattle.sv_parse.proofs.Loops.{loop_is, loop_stop, loop_ends, loop_goes_on, loop_shorter}
use Rattle.sv_parse.proofs.PartLaws.{repeated_loop}
use Rattle.sv_parse.proofs.part.items.Goals as goal

pub items-init : goal.items-init
items-init g c =
    let loop = repeated_loop g.P.Part.production g.P.Part.first g.met.P.Part.is_known g.met.P.Repeated.is_repeated in
    rw c.new-list.ensures.items (sym (loop_is g.P.Part.production g.P.Part.first 0 loop c.args.budget (toks c.args.tokens.now)))

pub returns-in_err-part : goal.returns-in_err-part
returns-in_err-part g c =
    let loop = repeated_loop g.P.Part.production g.P.Part.first g.met.P.Part.is_known g.met.P.Repeated.is_repeated in
    let p = err_from_is_err_and c.from_residual.result c.from_residual.ensures.1 in
    rw (p.1, p.2) (loop_ends g.P.Part.production g.P.Part.first 0 loop c.args.budget c.in_err-part.field-0.0 (map g.P.Part.view c.items.list.items) (toks c.items.rest.now) (reads c.args.budget (Rep g.P.Part.production) (toks c.args.tokens.now)) (search rules) refl c.in_err-part.ensures c.items.invariant)

pub items-smaller : goal.items-smaller
items-smaller g c =
    let loop = repeated_loop g.P.Part.production g.P.Part.first g.met.P.Part.is_known g.met.P.Repeated.is_repeated in
    loop_shorter g.P.Part.production g.P.Part.first 0 loop c.args.budget c.items.rest.now c.in_ok-part.after.now (g.P.Part.view c.in_ok-part.part, toks c.in_ok-part.after.now) refl c.in_ok-part.ensures refl

pub items-preserved : goal.items-preserved
items-preserved g c =
    let loop = repeated_loop g.P.Part.production g.P.Part.first g.met.P.Part.is_known g.met.P.Repeated.is_repeated in
    loop_goes_on g.P.Part.production g.P.Part.first 0 loop c.args.budget (map g.P.Part.view c.items.list.items) (map g.P.Part.view c.push.new.self.items) (toks c.items.rest.now) (g.P.Part.view c.in_ok-part.part, toks c.in_ok-part.after.now) (reads c.args.budget (Rep g.P.Part.production) (toks c.args.tokens.now)) (search rules) refl c.in_ok-part.ensures (rw c.in_ok-push.ensures.items (map_push g.P.Part.view c.items.list.items c.in_ok-part.part)) c.items.invariant

pub returns : goal.returns
returns g c =
    let loop = repeated_loop g.P.Part.production g.P.Part.first g.met.P.Part.is_known g.met.P.Repeated.is_repeated in
    sym {b = reads c.args.budget (Rep g.P.Part.production) (toks c.args.tokens.now)} c.items.invariant ∙ loop_stop g.P.Part.production g.P.Part.first 0 loop c.args.budget (map g.P.Part.view c.items.list.items) (toks c.items.rest.now) (search rules)

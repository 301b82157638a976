use Rattle.std.proofs.Common.{rules, [], ◌∷◌, map, refl, sym, ◌∙◌}
use Rattle.std.proofs.lemmas.Result.{err_from_is_err_and}
use Rattle.std.proofs.lemmas.List.{map_push}
use Rattle.sv_tree.specs.declared.kind.Kind.TheVariants as k
use Rattle.sv_tree.specs.Codes.{code, toks}
use Rattle.sv_tree.specs.Forms.{comma}
use Rattle.sv_parse.specs.Parts.{from}
use Rattle.sv_parse.proofs.Loops.{loop_stop, loop_ends, loop_goes_on, loop_shorter}
use Rattle.sv_parse.proofs.PartLaws.{listed_loop}
use Rattle.sv_parse.proofs.part.list_after.Goals as goal

pub returns-in_err-part : goal.returns-in_err-part
returns-in_err-part g c =
    let loop = listed_loop g.P.Part.production g.P.Part.first g.met.P.Part.is_known g.met.P.Listed.is_listed in
    let p = err_from_is_err_and c.from_residual-in_err-part.result c.from_residual-in_err-part.ensures.1 in
    rw (p.1, p.2) (loop_ends (comma g.P.Part.production) (code k.Comma ∷ []) 0 loop c.args.budget c.in_err-part.field-0.0 (map g.P.Part.view c.commas.list.items) (toks c.commas.rest.now) (from (comma g.P.Part.production) c.args.budget (g.P.Part.view c.args.first ∷ []) (toks c.args.tokens.now)) (search rules) refl c.in_err-part.ensures c.commas.invariant)

pub commas-smaller : goal.commas-smaller
commas-smaller g c =
    let loop = listed_loop g.P.Part.production g.P.Part.first g.met.P.Part.is_known g.met.P.Listed.is_listed in
    loop_shorter (comma g.P.Part.production) (code k.Comma ∷ []) 0 loop c.args.budget c.commas.rest.now c.in_ok-part.after.now (g.P.Part.view c.in_ok-part.part, toks c.in_ok-part.after.now) refl c.in_ok-part.ensures refl

pub commas-preserved : goal.commas-preserved
commas-preserved g c =
    let loop = listed_loop g.P.Part.production g.P.Part.first g.met.P.Part.is_known g.met.P.Listed.is_listed in
    loop_goes_on (comma g.P.Part.production) (code k.Comma ∷ []) 0 loop c.args.budget (map g.P.Part.view c.commas.list.items) (map g.P.Part.view c.push-in-commas.new.self.items) (toks c.commas.rest.now) (g.P.Part.view c.in_ok-part.part, toks c.in_ok-part.after.now) (from (comma g.P.Part.production) c.args.budget (g.P.Part.view c.args.first ∷ []) (toks c.args.tokens.now)) (search rules) refl c.in_ok-part.ensures (rw c.in_ok-push-2.ensures.items (map_push g.P.Part.view c.commas.list.items c.in_ok-part.part)) c.commas.invariant

pub returns : goal.returns
returns g c =
    let loop = listed_loop g.P.Part.production g.P.Part.first g.met.P.Part.is_known g.met.P.Listed.is_listed in
    sym {b = from (comma g.P.Part.production) c.args.budget (g.P.Part.view c.args.first ∷ []) (toks c.args.tokens.now)} c.commas.invariant ∙ loop_stop (comma g.P.Part.production) (code k.Comma ∷ []) 0 loop c.args.budget (map g.P.Part.view c.commas.list.items) (toks c.commas.rest.now) (search rules)

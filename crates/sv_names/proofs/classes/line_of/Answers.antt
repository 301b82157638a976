use Rattle.std.proofs.Common.{◌≡◌, ◌++◌, length, map, option_map, ap, ◌∙◌, arith}
use Rattle.std.proofs.lemmas.List.{length-map, map-append}
use Rattle.std.proofs.lemmas.Grind.{common_steps}
use Rattle.sv_names.specs.Lines.{up_from}
use Rattle.sv_names.proofs.ClassLines.{line_first, line_step}
use Rattle.sv_names.proofs.classes.line_of.Goals as goal

pub loop-left-init : goal.loop-left-init
loop-left-init c =
    let same : length c.args.classes.now ≡ length (map (λ k. k.now) c.args.classes.now) = simp length-map in
    ap (λ line. map (λ k. k.now) line ++ up_from (length c.args.classes.now) (map (λ k. k.now) c.args.classes.now) (option_map (λ k. k.now) c.class_in-next.result)) c.new-line.ensures.items
    ∙ line_first _ _ _ _ same c.class_in-next.ensures

pub loop-left-preserved : goal.loop-left-preserved
loop-left-preserved c = grind (arith, common_steps, line_step, map-append)

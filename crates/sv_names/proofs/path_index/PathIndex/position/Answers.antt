use Rattle.std.proofs.Common.{length, drop, None, Some, ap, ◌∙◌}
use Rattle.sv_names.specs.Types.{position_of}
use Rattle.sv_names.proofs.MarkLemmas.{found-from}
use Rattle.sv_names.proofs.path_index.PathIndex.position.Goals as goal

pub returns-in-None : goal.returns-in-None
returns-in-None c =
    ap length c.as_slice-paths.ensures
    ∙ found-from c.self.inside.first c.args.path.now c.self.inside.paths c.self.invariant c.mark_of.result None c.mark_of.ensures c.in-None.ensures.value
    ∙ ap (position_of 0 c.args.path.now) c.self.view_is

pub returns-in-Some : goal.returns-in-Some
returns-in-Some c =
    let n = c.in-Some.first.now in
    c.position_from.ensures ∙ ap (λ qs. position_of n c.args.path.now (drop n qs)) c.as_slice-paths.ensures
    ∙ found-from c.self.inside.first c.args.path.now c.self.inside.paths c.self.invariant c.mark_of.result (Some n) c.mark_of.ensures c.in-Some.ensures.value
    ∙ ap (position_of 0 c.args.path.now) c.self.view_is

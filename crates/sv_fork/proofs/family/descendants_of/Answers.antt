use Rattle.std.proofs.Common.{rules, ◌∙◌, Some, length, slice_get}
use Rattle.std.proofs.lemmas.Fn.{filter_same}
use Rattle.sv_fork.specs.Tree.{Member, descends_in, is_living_descendant}
use Rattle.sv_fork.proofs.TreeLaws.{tested_over}
use Rattle.sv_fork.proofs.LivingLaws.{found}
use Rattle.sv_fork.proofs.family.descendants_of.Goals as goal

pub returns : goal.returns
returns c =
    let ms = c.args.members.now in
    filter_same _ (is_living_descendant ms c.args.process) _ (λ x b f' k. search rules) _ _ c.retain.ensures.filtered
    ∙ found (is_living_descendant ms c.args.process) ms c.args.candidates.items c.requires.living
    (λ q. tested_over (λ (m : Member). descends_in (length ms) ms (Some q) c.args.process) (slice_get ms q.0))

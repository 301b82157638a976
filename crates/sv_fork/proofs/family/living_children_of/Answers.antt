use Rattle.std.proofs.Common.{rules, ◌∙◌}
use Rattle.std.proofs.lemmas.Fn.{filter_same}
use Rattle.sv_fork.specs.Tree.{is_living_child}
use Rattle.sv_fork.proofs.TreeLaws.{living_over}
use Rattle.sv_fork.proofs.LivingLaws.{found}
use Rattle.sv_fork.proofs.family.living_children_of.Goals as goal

pub returns : goal.returns
returns c =
    filter_same _ (is_living_child c.args.members.now c.args.process) _ (λ x b f' k. search rules) _ _ c.retain.ensures.filtered
    ∙ found (is_living_child c.args.members.now c.args.process) c.args.members.now c.args.candidates.items c.requires (living_over c.args.members.now c.args.process)

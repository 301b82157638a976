use Rattle.std.proofs.Common.{◌∙◌, sym, ap, subst, List, Some, false}
use Rattle.std.specs.List.{list_all}
use Rattle.sv_fork.specs.Tree.{IsTree, Join, Member, awaiting_in, is_living_child}
use Rattle.sv_fork.proofs.TreeLaws.{few_then, length-waits, tree_waits}
use Rattle.sv_fork.proofs.LivingLaws.{revived}
use Rattle.sv_fork.proofs.tree.Tree.join.Goals as goal

pub invariant_of-self : goal.invariant_of-self
invariant_of-self c =
    let ms = c.self.inside.members.items in
    let p = c.args.process in
    let cs = c.args.children.items in
    let j : Join = record { all = c.args.all; children = cs } in
    let e = c.wait_in.ensures ∙ ap (λ (i : Join). awaiting_in p i ms) c.new.ensures in (
      few_then ms _ (awaiting_in p j ms) 262144 e (length-waits p j ms) c.self.invariant.0,
      subst IsTree (sym e) (tree_waits ms p j c.self.invariant.1 c.requires.some (ap (λ (xs : List Member). list_all (is_living_child xs p) cs) c.self.view_is ∙ c.requires.living)),
      revived ms _ _ (λ (m : Member). record m { over = false; join = Some j }) p c.self.inside.living _ c.as_slice.ensures.value c.revive.ensures e c.self.invariant.2,
    )

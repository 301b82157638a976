use Rattle.std.proofs.Common.{sym, subst}
use Rattle.sv_fork.specs.Tree.{IsTree, ready_in}
use Rattle.sv_fork.proofs.TreeLaws.{few_then, length-goes, ready_one, tree_goes}
use Rattle.sv_fork.proofs.LivingLaws.{revived}
use Rattle.sv_fork.proofs.tree.Tree.go_on.Goals as goal

pub invariant_of-self : goal.invariant_of-self
invariant_of-self c =
    let ms = c.self.inside.members.items in
    let p = c.args.process in
    let is = c.go_on_in.ensures in (
      few_then ms _ (ready_in p ms) 262144 is (length-goes p ms) c.self.invariant.0,
      subst IsTree (sym is) (tree_goes ms p c.self.invariant.1),
      revived ms _ _ ready_one p c.self.inside.living _ c.as_slice.ensures.value c.revive.ensures is c.self.invariant.2,
    )

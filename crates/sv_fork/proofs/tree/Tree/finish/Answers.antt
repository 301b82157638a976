use Rattle.std.proofs.Common.{arith}
use Rattle.sv_fork.proofs.LivingLaws.{lost}
use Rattle.sv_fork.proofs.tree.Tree.finish.Goals as goal

pub invariant_of-self : goal.invariant_of-self
invariant_of-self c =
    let told = c.finish_in-told.ensures in
    let few = c.self.invariant.0 in (
      omega (arith, told.count, few),
      told.tree,
      lost c.self.inside.members.items _ _ c.self.inside.living _ c.as_slice.ensures.value told.over told.count c.self.invariant.2 c.lose.ensures,
    )

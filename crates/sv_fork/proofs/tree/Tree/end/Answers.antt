use Rattle.std.proofs.Common.{◌∙◌, sym, ap, subst, List, length}
use Rattle.sv_fork.specs.Living.{OverLess}
use Rattle.sv_fork.specs.Tree.{IsTree, Member, ended_in, is_awaited}
use Rattle.sv_fork.proofs.TreeLaws.{few_then, length-ends, over_ended, tree_ends}
use Rattle.sv_fork.proofs.LivingLaws.{lost}
use Rattle.sv_fork.proofs.tree.Tree.end.Goals as goal

pub invariant_of-self : goal.invariant_of-self
invariant_of-self c =
    let ms = c.self.inside.members.items in
    let p = c.args.process in
    let is = c.end_in.ensures in
    let same = ap (λ (xs : List Member). length xs) is ∙ length-ends p ms in (
      few_then ms _ (ended_in p ms) 262144 is (length-ends p ms) c.self.invariant.0,
      subst IsTree (sym is) (tree_ends ms p c.self.invariant.1 (ap (λ (xs : List Member). is_awaited xs p) c.self.view_is ∙ c.requires)),
      lost ms _ _ c.self.inside.living _ c.as_slice.ensures.value (subst (OverLess ms) (sym is) (over_ended ms p)) same c.self.invariant.2 c.lose.ensures,
    )

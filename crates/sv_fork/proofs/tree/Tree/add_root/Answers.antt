use Rattle.std.proofs.Common.{rules, ◌≡◌, ◌∙◌, sym, ap, subst, arith, List, length, refl}
use Rattle.sv_fork.specs.Tree.{IsTree, Member, with_root}
use Rattle.sv_fork.proofs.TreeLaws.{length-more, tree_root}
use Rattle.sv_fork.proofs.LivingLaws.{living_more}
use Rattle.sv_fork.proofs.tree.Tree.add_root.Goals as goal

pub invariant_of-self-2 : goal.invariant_of-self-2
invariant_of-self-2 c =
    let ms = c.self.inside.members.items in
    let e : c.push.new.self.items ≡ with_root c.args.side ms = search rules in
    let count = ap (λ (xs : List Member). length xs) e ∙ length-more ms _ in
    let room = c.requires in
    let same = ap (λ (xs : List Member). length xs) c.self.view_is in (
      omega (arith, count, room, same),
      subst IsTree (sym e) (tree_root ms c.args.side c.self.invariant.1),
      living_more ms _ _ c.self.inside.living _ _ e (omega arith) refl c.add.ensures c.self.invariant.2,
    )

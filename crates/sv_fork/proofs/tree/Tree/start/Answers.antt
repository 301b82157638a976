use Rattle.std.proofs.Common.{rules, ◌≡◌, ◌∙◌, ◌∷◌, ◌++◌, [], sym, ap, subst, arith, List, length, slice_get, Some, refl}
use Rattle.sv_fork.specs.Tree.{IsTree, Member, child_in, started_in}
use Rattle.sv_fork.proofs.PlaceLaws.{get_is}
use Rattle.sv_fork.proofs.TreeLaws.{length-more, tree_child}
use Rattle.sv_fork.proofs.LivingLaws.{living_more}
use Rattle.sv_fork.proofs.tree.Tree.start.Goals as goal

pub invariant_of-self-2 : goal.invariant_of-self-2
invariant_of-self-2 c =
    let ms = c.self.inside.members.items in
    let p = c.args.parent in
    let m = c.index.result.now in
    let e : c.push.new.self.items ≡ ms ++ child_in p m ∷ [] = search rules in
    let count = ap (λ (xs : List Member). length xs) e ∙ length-more ms _ in
    let same = ap (λ (xs : List Member). length xs) c.self.view_is in
    let known = c.requires in (
      omega (arith, count),
      subst IsTree (sym e) (tree_child ms p m c.self.invariant.1 (omega (arith, known, same))),
      living_more ms _ _ c.self.inside.living _ _ e (omega arith) refl c.add.ensures c.self.invariant.2,
    )

pub returns-clause-ok : goal.returns-clause-ok
returns-clause-ok c =
    let ms = c.self.inside.members.items in
    let p = c.args.parent in
    let m = c.index.result.now in
    let same = ap (λ (xs : List Member). length xs) c.self.view_is in
    let known = c.requires in
    let here : slice_get ms p.0 ≡ Some m = get_is ms p.0 m (omega (arith, known, same)) c.index.ensures in
    let e : c.push.new.self.items ≡ ms ++ child_in p m ∷ [] = search rules in
    e ∙ ap (λ o. started_in p o ms) (sym here) ∙ ap (λ (xs : List Member). started_in p (slice_get xs p.0) xs) c.self.view_is

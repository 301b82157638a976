-- One class after another.
use Rattle.std.proofs.Common.{◌≡◌, List, [], ◌∷◌, ◌∙◌, map, length, sym, ap, subst, arith}
use Rattle.std.specs.List.{between}
use Rattle.std.proofs.lemmas.Grind.{common_steps}
use Rattle.std.proofs.lemmas.Slice.{first_rest}
use Rattle.sv_elab_scope.specs.Views.{entry_in}
use Rattle.sv_elab_class.specs.declared.heads.ClassHead.{ClassHead}
use Rattle.sv_elab_class.specs.Heads.{head_in}
use Rattle.sv_elab_class.specs.Lists.{members_of, KeepsWith}
use Rattle.sv_elab_class.proofs.ListLaws.{keep_all}
use Rattle.sv_elab_class.proofs.lists.lists_of.Goals as goal

pub loop-left-preserved : goal.loop-left-preserved
loop-left-preserved c =
    let ess = map entry_in c.args.names ∷ members_of (map head_in c.args.heads.now) in
    let rest = between 1 (length c.loop-left.left.now) c.loop-left.left.now in
    let whole = first_rest c.loop-left.left.now c.one-item.result c.in-len1-up.len_at_least ∙ ap (λ p. p ∷ rest) (sym c.one-item.is) in
    c.in_ok-add_members.ensures ess (map head_in rest)
    (subst (λ (hs : List ClassHead). KeepsWith c.loop-left.lists ess (map head_in hs)) whole c.loop-left.invariant)

pub returns : goal.returns
returns c =
    let ess = map entry_in c.args.names ∷ members_of (map head_in c.args.heads.now) in
    let none : c.loop-left.left.now ≡ [] = grind (arith, common_steps) in
    keep_all c.loop-left.lists ess (subst (λ (hs : List ClassHead). KeepsWith c.loop-left.lists ess (map head_in hs)) none c.loop-left.invariant)

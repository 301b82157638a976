use Rattle.std.proofs.Common.{◌∙◌, sym, ap, subst}
use Rattle.sv_fork.specs.Living.{OverLess}
use Rattle.sv_fork.specs.Tree.{IsTree, ready_in}
use Rattle.sv_fork.proofs.FinishLaws.{told_none, told_not, told_one}
use Rattle.sv_fork.proofs.members.finish_in.Goals as goal

pub returns-in_default-clause-joined : goal.returns-in_default-clause-joined
returns-in_default-clause-joined c =
    (told_none c.args.members.now.items _ _ c.args.process _ c.requires c.end_in.ensures c.as_slice.ensures.value c.parent_of.ensures c.in_default.is).joined

pub returns-in_default-clause-tree : goal.returns-in_default-clause-tree
returns-in_default-clause-tree c =
    subst IsTree (sym c.end_in.ensures)
    (told_none c.args.members.now.items _ _ c.args.process _ c.requires c.end_in.ensures c.as_slice.ensures.value c.parent_of.ensures c.in_default.is).tree

pub returns-in_default-clause-over : goal.returns-in_default-clause-over
returns-in_default-clause-over c =
    subst (OverLess c.args.members.now.items) (sym c.end_in.ensures)
    (told_none c.args.members.now.items _ _ c.args.process _ c.requires c.end_in.ensures c.as_slice.ensures.value c.parent_of.ensures c.in_default.is).over

pub returns-then-joins-clause-joined : goal.returns-then-joins-clause-joined
returns-then-joins-clause-joined c =
    (told_one c.args.members.now.items _ _ _ c.args.process c.in-Some.parent _ _ c.requires c.end_in.ensures c.as_slice.ensures.value c.parent_of.ensures c.in-Some.is
    c.as_slice-2.ensures.value c.joins.ensures c.if-joins.true).joined

pub returns-then-joins-clause-tree : goal.returns-then-joins-clause-tree
returns-then-joins-clause-tree c =
    subst IsTree (sym (c.go_on_in.ensures ∙ ap (ready_in c.in-Some.parent) c.end_in.ensures))
    (told_one c.args.members.now.items _ _ _ c.args.process c.in-Some.parent _ _ c.requires c.end_in.ensures c.as_slice.ensures.value c.parent_of.ensures c.in-Some.is
    c.as_slice-2.ensures.value c.joins.ensures c.if-joins.true).tree

pub returns-then-joins-clause-over : goal.returns-then-joins-clause-over
returns-then-joins-clause-over c =
    subst (OverLess c.args.members.now.items) (sym (c.go_on_in.ensures ∙ ap (ready_in c.in-Some.parent) c.end_in.ensures))
    (told_one c.args.members.now.items _ _ _ c.args.process c.in-Some.parent _ _ c.requires c.end_in.ensures c.as_slice.ensures.value c.parent_of.ensures c.in-Some.is
    c.as_slice-2.ensures.value c.joins.ensures c.if-joins.true).over

pub returns-clause-joined : goal.returns-clause-joined
returns-clause-joined c =
    (told_not c.args.members.now.items _ _ _ c.args.process c.in-Some.parent _ _ c.requires c.end_in.ensures c.as_slice.ensures.value c.parent_of.ensures c.in-Some.is
    c.as_slice-2.ensures.value c.joins.ensures c.if-joins.false).joined

pub returns-clause-tree : goal.returns-clause-tree
returns-clause-tree c =
    subst IsTree (sym c.end_in.ensures)
    (told_not c.args.members.now.items _ _ _ c.args.process c.in-Some.parent _ _ c.requires c.end_in.ensures c.as_slice.ensures.value c.parent_of.ensures c.in-Some.is
    c.as_slice-2.ensures.value c.joins.ensures c.if-joins.false).tree

pub returns-clause-over : goal.returns-clause-over
returns-clause-over c =
    subst (OverLess c.args.members.now.items) (sym c.end_in.ensures)
    (told_not c.args.members.now.items _ _ _ c.args.process c.in-Some.parent _ _ c.requires c.end_in.ensures c.as_slice.ensures.value c.parent_of.ensures c.in-Some.is
    c.as_slice-2.ensures.value c.joins.ensures c.if-joins.false).over

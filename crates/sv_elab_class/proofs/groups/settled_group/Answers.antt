-- The group that is settled is that of the definition.
use Rattle.std.proofs.Common.{List, ◌∷◌, map, sym, subst}
use Rattle.sv_names.specs.Views.{around_in}
use Rattle.sv_elab_scope.specs.declared.declared.Entry.{Entry}
use Rattle.sv_elab_scope.specs.Rows.{group_in}
use Rattle.sv_elab_scope.specs.Views.{entry_in}
use Rattle.sv_elab_class.specs.Heads.{head_in}
use Rattle.sv_elab_class.specs.Lists.{AllKeep, members_of}
use Rattle.sv_elab_class.proofs.GroupLaws.{settled-is}
use Rattle.sv_elab_class.proofs.groups.settled_group.Goals as goal

pub returns : goal.returns
returns g c = λ is.
    let es = map entry_in c.args.names in
    let hs = map head_in c.args.heads.now in
    let keep = subst (λ (lists : List (List Entry)). AllKeep lists (es ∷ members_of hs)) (sym c.as_slice-entries.ensures) c.in_ok-lists.ensures in
    settled-is (around_in c.args.around.now) c.args.path.now es hs c.as_slice-entries.result.now keep g.M.Means.meant
    (group_in c.in_ok-waiting.waiting) (group_in c.in_ok-group.group) is c.in_ok-waiting.ensures c.in_ok-group.ensures

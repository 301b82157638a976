use Rattle.std.proofs.Common.{◌≡◌, ◌++◌, drop}
use Rattle.sv_names.specs.Views.{around_in}
use Rattle.sv_elab_scope.specs.Rows.{group_in}
use Rattle.sv_elab_scope.specs.Needs.{needed_from, left_over}
use Rattle.sv_elab_scope.proofs.needs.needed.Given as goal

abbrev pub invariant-loop-id : goal.invariant-loop-id
invariant-loop-id g l = record {
  found :
      l.needed ++ needed_from g.M.Means.meant (around_in l.around) l.path l.entries l.marks (drop l.id-index l.ids) (group_in l.group)
      ≡ needed_from g.M.Means.meant (around_in l.around) l.path l.entries l.marks l.ids (group_in l.initial.group);
  left :
      left_over l.entries l.marks (drop l.id-index l.ids) (group_in l.group)
      ≡ left_over l.entries l.marks l.ids (group_in l.initial.group);
}

use Rattle.std.proofs.Common.{◌≡◌, List, drop, map}
use Rattle.sv_flat.specs.declared.object.Object.{Object}
use Rattle.sv_tree.specs.StmtView.{declarator}
use Rattle.sv_names.specs.declared.checked.Checked.{Checked}
use Rattle.sv_names.specs.Joined as lists
use Rattle.sv_names.specs.Views.{around_in}
use Rattle.sv_elab_member.specs.Statics.{static_names}
use Rattle.sv_elab_member.specs.Putting.{Placing}
use Rattle.sv_elab_member.proofs.statics.static_names.Given as goal

abbrev pub invariant-loop-one : goal.invariant-loop-one
invariant-loop-one l =
    (c : Checked (List Object)) × Placing l.fn.objects l.objects l.done c
    × (lists.joined c (static_names (around_in l.around) l.class (map declarator (drop l.one-index l.names)))
    ≡ static_names (around_in l.around) l.class (map declarator l.names))

use Rattle.std.proofs.Common.{◌≡◌, List, drop, map}
use Rattle.sv_flat.specs.declared.object.Object.{Object}
use Rattle.sv_elab_unit.specs.Ports.{port_in}
use Rattle.sv_names.specs.declared.checked.Checked.{Checked}
use Rattle.sv_names.specs.Groups.{Group}
use Rattle.sv_names.specs.Joined.{joined}
use Rattle.sv_names.specs.Views.{around_in}
use Rattle.sv_elab_plain.specs.Adding.{AddsObjects}
use Rattle.sv_elab_plain.specs.Parts.{ports_in}
use Rattle.sv_elab_plain.proofs.objects.add_ports.Given as goal

abbrev pub invariant-loop-one : goal.invariant-loop-one
invariant-loop-one l =
    (g : Group) → g.scope ≡ l.scope
    → (c : Checked (List Object)) × AddsObjects l.fn.objects l.objects l.done c
    × (joined c (ports_in (around_in l.around) g (map port_in (drop l.one-index l.all))) ≡ ports_in (around_in l.around) g (map port_in l.all))

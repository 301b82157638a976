use Rattle.std.proofs.Common.{◌≡◌, ◌++◌, drop}
use Rattle.std.specs.Prelude.{flat_map}
use Rattle.sv_names.specs.Classes.{property_entry}
use Rattle.sv_names.specs.Views.{around_in}
use Rattle.sv_elab_member.proofs.flat.add_properties.Given as goal

abbrev pub invariant-loop-one : goal.invariant-loop-one
invariant-loop-one l =
    l.variables ++ flat_map (property_entry (around_in l.around)) (drop l.one-index l.known)
    ≡ l.fn.variables ++ flat_map (property_entry (around_in l.around)) l.known

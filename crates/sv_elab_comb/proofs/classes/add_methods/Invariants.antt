use Rattle.std.proofs.Common.{◌≡◌, ◌++◌, drop}
use Rattle.std.specs.Prelude.{flat_map}
use Rattle.sv_flat.specs.Names.{method_in, derived_from, derived_classes}
use Rattle.sv_elab_comb.proofs.classes.add_methods.Given as goal

abbrev pub invariant-loop-number : goal.invariant-loop-number
invariant-loop-number l =
    l.ids ++ flat_map (method_in l.slot) (derived_from l.parts l.base l.number (drop l.number l.parts.classes))
    ≡ l.initial.ids ++ flat_map (method_in l.slot) (derived_classes l.parts l.base)

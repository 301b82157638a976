use Rattle.std.proofs.Common.{◌≡◌, ◌++◌, map}
use Rattle.sv_names.specs.Design.{with_drivers}
use Rattle.sv_elab_whole.proofs.finishing.add_driven.Given as goal

abbrev pub invariant-loop-object : goal.invariant-loop-object
invariant-loop-object l =
    l.list ++ map (with_drivers l.drives) l.object-iterator.rest.items ≡ l.fn.list ++ map (with_drivers l.drives) l.fn.objects

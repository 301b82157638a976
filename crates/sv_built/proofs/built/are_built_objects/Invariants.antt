use Rattle.std.proofs.Common.{◌↔◌, drop}
use Rattle.std.specs.List.{AllByRecursion}
use Rattle.sv_built.specs.Built.{IsBuiltObject}
use Rattle.sv_built.proofs.built.are_built_objects.Given as goal

-- the rest decides
abbrev pub invariant-loop-object : goal.invariant-loop-object
invariant-loop-object l = AllByRecursion IsBuiltObject l.objects ↔ AllByRecursion IsBuiltObject (drop l.object-index l.objects)

-- Instances, and what is met on the walk, as the code has them (IEEE 1800-2017, 23.3).
use Rattle.std.specs.Prelude.{List, map}
use Rattle.sv_tree.specs.UnitView.{item, connection}
use Rattle.sv_names.specs.Instances as instances
use Rattle.sv_elab_scope.specs.Rows.{group_in}
use Rattle.sv_elab_unit.specs.Definitions.{definition_in, names_in}
use Rattle.sv_elab_walk.specs.declared.instance.Inst.{Inst}
use Rattle.sv_elab_walk.specs.declared.instance.Walked.{Walked}
use Rattle.sv_elab_walk.specs.declared.instance.Walked.TheVariants as walks

-- an instance
abbrev pub inst_in : Inst → instances.Inst
inst_in i =
    record {
      path = i.path;
      unit = definition_in i.unit;
      at = i.at;
      chain = names_in i.chain;
      group = group_in i.group;
      stands = i.stands;
    }

-- what is met
abbrev pub walked_in : Walked → instances.Walked
walked_in (walks.Enter i) = instances.Enter (inst_in i.value)
walked_in (walks.Meet i b one) = instances.Meet (inst_in i.value) b (item one.now)
walked_in (walks.Connect i c cs) = instances.Connect (inst_in i.value) (inst_in c.value) (map connection cs.now)
walked_in (walks.Pass at) = instances.Pass at

-- all that is met so far
abbrev pub all_walked : List Walked → List instances.Walked
all_walked ws = map walked_in ws

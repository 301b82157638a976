use Rattle.std.proofs.Common.{◌≡◌, ◌++◌, map, drop}
use Rattle.sv_tree.specs.UnitView.{connection, design_element}
use Rattle.sv_names.specs.Instances.{ports_of}
use Rattle.sv_names.specs.Views.{around_in}
use Rattle.sv_elab_unit.specs.Ports.{port_in}
use Rattle.sv_elab_writers.specs.Views.{process_in}
use Rattle.sv_elab_met.specs.Met as words
use Rattle.sv_elab_met.proofs.ports.port_processes.Given as goal

abbrev pub invariant-loop-port : goal.invariant-loop-port
invariant-loop-port l =
    map process_in l.done ++ words.port_processes (around_in l.around) (design_element l.fn.of) (map connection l.all) (map port_in (drop l.port-index l.list))
    ≡ words.port_processes (around_in l.around) (design_element l.fn.of) (map connection l.all) (ports_of (design_element l.fn.of))

use Rattle.std.proofs.Common.{◌≡◌, None, drop, map}
use Rattle.sv_flat.specs.Config.{Config}
use Rattle.sv_flat.specs.Steps.{strobes_printed}
use Rattle.sv_machine.specs.Machine.{strobe_at}
use Rattle.sv_machine.specs.Strobes.{Shows, with_printed}
use Rattle.sv_machine.proofs.strobes.print_strobes.Given as goal

-- the strobes before have been printed
abbrev pub invariant-loop-kept : goal.invariant-loop-kept
invariant-loop-kept l = (c : Config) → Shows l.machine c
    → strobes_printed l.design (map (strobe_at l.design) (drop l.kept-index l.machine.strobes.items)) (with_printed c l.lines.items None) ≡ strobes_printed l.design (map (strobe_at l.design) l.machine.strobes.items) c

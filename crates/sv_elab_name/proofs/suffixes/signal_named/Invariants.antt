use Rattle.std.proofs.Common.{◌≡◌, drop}
use Rattle.sv_names.specs.Things.{signal_named}
use Rattle.sv_elab_name.specs.Things.{or_broken}
use Rattle.sv_elab_name.proofs.suffixes.signal_named.Given as goal

abbrev pub invariant-loop-i : goal.invariant-loop-i
invariant-loop-i l = or_broken l.broken (signal_named l.path l.name l.i (drop l.i l.signals)) ≡ signal_named l.path l.name 0 l.signals

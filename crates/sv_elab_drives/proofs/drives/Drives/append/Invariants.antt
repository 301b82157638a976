use Rattle.std.proofs.Common.{◌≡◌, ◌++◌}
use Rattle.sv_elab_drives.proofs.drives.Drives.append.Given as goal

abbrev pub invariant-loop-net : goal.invariant-loop-net
invariant-loop-net l = l.self ++ l.net-iterator.rest.items ≡ l.initial.self ++ l.fn.nets

use Rattle.std.proofs.Common.{◌≡◌, List, true, length}
use Rattle.sv_value.specs.declared.number.ProcessId.{ProcessId}
use Rattle.sv_flat.specs.Effects.{is_in}
use Rattle.sv_sense.specs.Watchers.{Grows, RegisteredBut}
use Rattle.sv_sense.proofs.register.register.Given as goal

abbrev pub invariant-loop-left : goal.invariant-loop-left
invariant-loop-left l = record {
  grows : Grows l.initial.lists.items l.lists.items;
  done : (all : List ProcessId) → is_in l.fn.process all ≡ true → RegisteredBut l.left l.fn.process l.objects l.lists.items all;
}

abbrev pub decreases-loop-left : goal.decreases-loop-left
decreases-loop-left l = length l.left

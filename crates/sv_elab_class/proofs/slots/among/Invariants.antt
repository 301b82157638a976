use Rattle.std.proofs.Common.{◌≡◌, drop}
use Rattle.sv_names.specs.Types.{among}
use Rattle.sv_elab_class.proofs.slots.among.Given as goal

abbrev pub invariant-loop-one : goal.invariant-loop-one
invariant-loop-one l = among l.text (drop l.one-index l.list) ≡ among l.text l.list

use Rattle.std.proofs.Common.{◌≡◌, drop}
use Rattle.sv_flat.specs.Names.{is_listed}
use Rattle.sv_elab_comb.proofs.reached.is_listed.Given as goal

abbrev pub invariant-loop-one : goal.invariant-loop-one
invariant-loop-one l = is_listed l.id (drop l.one-index l.ids) ≡ is_listed l.id l.ids

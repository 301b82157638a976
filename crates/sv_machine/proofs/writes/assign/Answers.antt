use Rattle.std.proofs.Common.{sym, subst}
use Rattle.sv_assign.specs.declared.spot.Spot.{Spot}
use Rattle.sv_assign.specs.Places.{spot_in}
use Rattle.sv_machine.specs.Machine.{Makes}
use Rattle.sv_machine.specs.Steps.{assigned_in}
use Rattle.sv_machine.proofs.WriteLaws.{nothing_makes}
use Rattle.sv_machine.proofs.writes.assign.Goals as goal

pub returns-in-Nowhere-clause-ok : goal.returns-in-Nowhere-clause-ok
returns-in-Nowhere-clause-ok c =
    let d = c.args.design.now in
    let m = c.args.machine.now in
    subst (λ (s : Spot). Makes d m m (assigned_in d (spot_in s) c.args.value)) (sym c.in-Nowhere.is) (nothing_makes d m)

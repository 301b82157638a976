use Rattle.std.proofs.Common.{◌≡◌, List, [], ◌++◌, map, sym, ap, ◌∙◌, append-nil}
use Rattle.std.proofs.lemmas.List.{nil_from_length}
use Rattle.sv_names.specs.Targets.{Spot}
use Rattle.sv_elab_drive.specs.Driven.{driving}
use Rattle.sv_elab_drive.proofs.drivers.all_driving.Goals as goal

pub returns : goal.returns
returns c =
    let nothing : c.loop-spot.spot-iterator.rest.items ≡ [] =
    nil_from_length c.loop-spot.spot-iterator.rest.items (sym c.loop-spot.spot-iterator.rest.ok.0 ∙ c.in-None.ensures.steps.0) in
    sym (append-nil c.loop-spot.done)
    ∙ sym (ap (λ (ss : List Spot). c.loop-spot.done ++ map (driving c.args.before.now) ss) nothing)
    ∙ c.loop-spot.invariant

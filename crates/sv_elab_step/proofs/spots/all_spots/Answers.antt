use Rattle.std.proofs.Common.{rules, ◌≡◌, List, [], ◌∷◌, Option, Some, sym, ap, ◌∙◌}
use Rattle.std.proofs.lemmas.List.{nil_from_length}
use Rattle.sv_names.specs.declared.checked.Checked.{Checked}
use Rattle.sv_names.specs.Expressions.{more_spots, all_spots}
use Rattle.sv_names.specs.Targets.{Spot}
use Rattle.sv_elab_step.proofs.SpotLaws.{spots_grouped, spots_last}
use Rattle.sv_elab_step.proofs.spots.all_spots.Goals as goal

pub loop-part-preserved : goal.loop-part-preserved
loop-part-preserved c =
    let list = c.loop-part.list in
    let next = c.in-Some-part.next in
    let rest = c.next.new.self.rest.items in
    let first : c.loop-part.part-iterator.rest.items ≡ Some next ∷ rest = search rules in
    ap (λ (l : Checked (List Spot)). more_spots (Some l) (all_spots rest)) c.in_ok-list.ensures.ok
    ∙ spots_grouped list next (all_spots rest)
    ∙ sym (ap (λ (parts : List (Option (Checked (List Spot)))). more_spots (Some list) (all_spots parts)) first)
    ∙ c.loop-part.invariant

pub returns-clause-ok : goal.returns-clause-ok
returns-clause-ok c =
    let nothing : c.loop-part.part-iterator.rest.items ≡ [] =
    nil_from_length c.loop-part.part-iterator.rest.items (sym c.loop-part.part-iterator.rest.ok.0 ∙ c.in-None.ensures.steps.0) in
    sym (spots_last c.loop-part.list)
    ∙ sym (ap (λ (parts : List (Option (Checked (List Spot)))). more_spots (Some c.loop-part.list) (all_spots parts)) nothing)
    ∙ c.loop-part.invariant

use Rattle.std.proofs.Common.{◌∙◌, ap, subst}
use Rattle.sv_flat.specs.declared.process.Watch.{Watch}
use Rattle.sv_value.specs.declared.place.Place.{Place}
use Rattle.sv_tree.specs.StmtView.{event_part}
use Rattle.sv_names.specs.declared.checked.Checked.{Checked}
use Rattle.sv_names.specs.declared.hoisted.Hoisted.{Hoisted}
use Rattle.sv_names.specs.Events as events
use Rattle.sv_names.specs.Given.{Gives}
use Rattle.sv_names.specs.Views.{around_in}
use Rattle.sv_elab_event.specs.Occasions.{watch_given}
use Rattle.sv_elab_event.proofs.EventLaws.{part_is}
use Rattle.sv_elab_event.proofs.parts.watch_of.Goals as goal

pub returns : goal.returns
returns c =
    let ar = around_in c.args.around.now in
    let p = event_part c.args.part.now in
    let event = events.event_in ar p.expr in
    subst (λ (x : Checked (Hoisted Watch)). Gives c.watch_given.result x)
    (ap (λ (at : Place). watch_given ar p.edge at p.condition event) c.place_of-at.ensures ∙ part_is ar p)
    (c.watch_given.ensures event c.event_in-event.ensures)

use Rattle.std.proofs.Common.{◌∙◌, ◌∷◌, List, [], ap, subst}
use Rattle.sv_flat.specs.declared.process.Watch.{Watch}
use Rattle.sv_names.specs.declared.checked.Checked.{Checked}
use Rattle.sv_names.specs.declared.hoisted.Hoisted.{Hoisted}
use Rattle.sv_names.specs.Checked.{given, each}
use Rattle.sv_names.specs.Events as events
use Rattle.sv_names.specs.Given.{Gives}
use Rattle.sv_names.specs.Hoisted.{in_row, mapped}
use Rattle.sv_names.specs.Named.{Around}
use Rattle.sv_elab_event.proofs.controls.named_control.Goals as goal

pub returns : goal.returns
returns c =
    subst (λ (x : Checked (List (Hoisted Watch))). Gives c.controlled.result (given (λ ws. mapped events.at_form (in_row ws)) x))
    (c.in_ok-parts.ensures.ok ∙ ap (λ (i : Around). each (events.watch_of i) (events.named_event c.args.name.now ∷ [])) c.in_event.ensures) c.controlled.ensures

use Rattle.std.proofs.Common.{ℕ, List, subst}
use Rattle.sv_flat.specs.declared.process.Watch.{Watch}
use Rattle.sv_tree.specs.declared.expr.Root.TheVariants as root
use Rattle.sv_tree.specs.Expr as tree
use Rattle.sv_names.specs.declared.checked.Checked.{Checked}
use Rattle.sv_names.specs.declared.hoisted.Hoisted.{Hoisted}
use Rattle.sv_names.specs.Events as events
use Rattle.sv_names.specs.Given.{Gives, GivesAs}
use Rattle.sv_names.specs.Views.{around_in}
use Rattle.sv_elab_event.specs.Occasions.{occasion_in, named_event}
use Rattle.sv_elab_event.proofs.EventLaws.{part_is}
use Rattle.sv_elab_event.proofs.parts.watch_of_name.Goals as goal

pub returns : goal.returns
returns c =
    let ar = around_in c.args.around.now in
    let n = c.args.name.now in
    let event = events.event_in ar (tree.Post (root.Plain n) tree.NoSuffix) in
    subst (λ (x : Checked (Hoisted Watch)). Gives c.watch_given.result x)
    (part_is ar (events.named_event n))
    (c.watch_given.ensures event
    (subst (λ (x : List ℕ). GivesAs occasion_in c.named_event-event.result (named_event ar (root.Plain (record { at = n.at; text = x })) tree.NoSuffix))
    c.in_ok-text.ensures c.named_event-event.ensures))

use Rattle.std.proofs.Common.{rules, ◌≡◌, ◌∙◌, sym, subst, refl}
use Rattle.sv_tree.specs.declared.expr.Expr.{the_lemmas}
use Rattle.sv_tree.specs.View.{expr, suffix_list, suffixes_are}
use Rattle.sv_names.specs.declared.checked.Checked.{Checked}
use Rattle.sv_names.specs.Events as events
use Rattle.sv_names.specs.Given.{GivesAs}
use Rattle.sv_names.specs.Views.{around_in}
use Rattle.sv_names.specs.Checked.{given}
use Rattle.sv_names.specs.Expressions as expressions
use Rattle.sv_elab_event.specs.Occasions.{occasion_in, named_event}
use Rattle.sv_elab_event.proofs.EventLaws.{plain_event}
use Rattle.sv_elab_event.proofs.occasions.event_in.Goals as goal

pub returns : goal.returns
returns c =
    let ar = around_in c.args.around.now in
    let whole : events.event_in ar (expr c.args.e.now) ≡ named_event ar c.in-Post.root (suffix_list c.deref.result.now) = search (rules, the_lemmas, suffixes_are) in
    subst (λ (x : Checked events.Event). GivesAs occasion_in c.named_event.result x) (sym whole) c.named_event.ensures

pub returns-then-not-is_name : goal.returns-then-not-is_name
returns-then-not-is_name c =
    let ar = around_in c.args.around.now in
    let e = expr c.args.e.now in
    subst (λ (x : Checked events.Event). GivesAs occasion_in c.plain_event.result x)
    (plain_event ar e (given events.On_value (expressions.expr ar e)) (sym c.is_name.ensures ∙ c.if-not-is_name.true) refl) c.plain_event.ensures

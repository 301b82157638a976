-- The constructor is the one that is chosen.
use Rattle.std.proofs.Common.{◌∙◌, map, ap, subst}
use Rattle.sv_tree.specs.UnitView.{class_item}
use Rattle.sv_names.specs.declared.checked.Checked.{Checked}
use Rattle.sv_names.specs.Emits.{Emits}
use Rattle.sv_names.specs.Subroutines.{MadeSubroutine}
use Rattle.sv_names.specs.Views.{around_in}
use Rattle.sv_elab_routine.specs.Made.{routine_of, chosen}
use Rattle.sv_elab_routine.proofs.MadeLaws.{constructor_chosen}
use Rattle.sv_elab_routine.proofs.constructors.constructor_made.Goals as goal

pub returns-in-None : goal.returns-in-None
returns-in-None c =
    let ar = around_in c.args.around.now in
    let k = c.args.class.now in
    let items = map class_item c.args.items.now in
    let rs = c.args.routines.now in
    let os = c.args.objects.now in
    subst (λ (x : Checked MadeSubroutine). Emits rs rs os os c.implied_constructor.result (routine_of x))
    (ap (chosen ar k items) c.in-None.ensures ∙ constructor_chosen ar k items items) (c.implied_constructor.ensures rs os)

pub returns-in-Some : goal.returns-in-Some
returns-in-Some c =
    let ar = around_in c.args.around.now in
    let k = c.args.class.now in
    let items = map class_item c.args.items.now in
    subst
    (λ (x : Checked MadeSubroutine).
    Emits c.args.routines.now c.written_constructor.new.routines c.args.objects.now c.written_constructor.new.objects c.written_constructor.result
    (routine_of x)) (ap (chosen ar k items) c.in-Some.ensures ∙ constructor_chosen ar k items items) c.written_constructor.ensures

-- One rule after another.
use Rattle.std.proofs.Common.{◌∙◌, subst}
use Rattle.sv_names.specs.declared.checked.Checked.{Checked}
use Rattle.sv_names.specs.Checked.{all}
use Rattle.sv_names.specs.Classes.{override_stands}
use Rattle.sv_names.specs.Given.{Gives}
use Rattle.sv_names.specs.Views.{around_in}
use Rattle.sv_elab_member.proofs.stands.class_stands.Goals as goal

pub returns : goal.returns
returns c =
    let ar = around_in c.args.around.now in
    let members =
    subst (λ (x : Checked (Unit {0})). Gives c.answer-overrides.result x)
    (c.overrides_stand.ensures ∙ (λ i. all (override_stands ar (c.base_of.ensures i)) (c.as_slice-members.ensures i))) c.answer-overrides.ensures in
    c.where_also-2.ensures _ _
    (c.where_also.ensures _ _ (c.where_also-label.ensures _ _ c.names_stand-names.ensures c.label_stands.ensures) members) c.methods_stand.ensures

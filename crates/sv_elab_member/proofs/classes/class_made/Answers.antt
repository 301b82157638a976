-- Its members stand in the class.
use Rattle.std.proofs.Common.{◌≡◌, ◌∙◌, map, ap, subst}
use Rattle.sv_tree.specs.UnitView.{class}
use Rattle.sv_names.specs.declared.checked.Checked.{Checked}
use Rattle.sv_names.specs.Classes.{class_stands, constructor_of, flat_class}
use Rattle.sv_names.specs.Groups.{in_class}
use Rattle.sv_names.specs.Items.{GivenParts}
use Rattle.sv_names.specs.Named.{Around}
use Rattle.sv_names.specs.Types.{Path}
use Rattle.sv_names.specs.Views.{around_in}
use Rattle.sv_elab_parts.specs.Adding.{Adding}
use Rattle.sv_elab_member.specs.Methods.{all_methods}
use Rattle.sv_elab_member.specs.Parts.{class_inside}
use Rattle.sv_elab_member.specs.Statics.{all_statics}
use Rattle.sv_elab_member.specs.Within.{within_class}
use Rattle.sv_elab_member.proofs.PartLaws.{parts_are}
use Rattle.sv_elab_member.proofs.classes.class_made.Goals as goal

pub returns : goal.returns
returns c =
    let ar = around_in c.args.around.now in
    let k = c.args.class.now in
    let o = class c.args.of.now in
    let i = in_class k.path ar in
    let path = c.as_slice-path.ensures in
    let scopes = ap (map (λ s. s.now)) c.as_slice.ensures.value ∙ c.in_ok-scopes.ensures ∙ ap (λ (p : Path). (in_class p ar).scopes) path in
    let here : around_in c.within_class-inner.result ≡ i = c.within_class-inner.ensures ∙ (λ j. within_class (path j) (scopes j) ar) in
    subst (λ (x : Checked GivenParts). Adding c.args.so_far.now c.class_inside.new.so_far c.class_inside.result x)
    (ap (λ (x : Around). class_inside ar x k o) here
    ∙ parts_are k.path (flat_class ar k) (all_statics i k o.items) (constructor_of i k o.items o.items) (all_methods i k o.items) (class_stands i k o))
    c.class_inside.ensures

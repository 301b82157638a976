-- A class by its path.
use Rattle.std.proofs.Common.{◌≡◌, ◌∙◌, ◌++◌, ◌∷◌, [], sym, ap, subst}
use Rattle.sv_tree.specs.UnitView.{class}
use Rattle.sv_names.specs.declared.checked.Checked.{Checked}
use Rattle.sv_names.specs.Items.{GivenParts, nothing}
use Rattle.sv_names.specs.Named.{class_in}
use Rattle.sv_names.specs.Types.{Path}
use Rattle.sv_names.specs.Views.{around_in}
use Rattle.sv_elab_parts.specs.Adding.{Adding}
use Rattle.sv_elab_plain.proofs.CommonLaws.{nothing_added, class_missing, class_found}
use Rattle.sv_elab_item.proofs.common.add_class.Goals as goal

pub returns-in-None : goal.returns-in-None
returns-in-None c =
    let ar = around_in c.args.around.now in
    let p : Path = c.args.path.now ++ c.args.of.now.name.text ∷ [] in
    let named : c.as_slice.result.now ≡ p = c.as_slice.ensures ∙ c.in_ok-own.ensures in (
      nothing,
      class_missing ar (class c.args.of.now) p (sym (c.in-None.ensures ∙ ap (class_in ar.classes) named)),
      nothing_added c.args.so_far.now,
    )

pub returns : goal.returns
returns c =
    let ar = around_in c.args.around.now in
    let p : Path = c.args.path.now ++ c.args.of.now.name.text ∷ [] in
    let named : c.as_slice.result.now ≡ p = c.as_slice.ensures ∙ c.in_ok-own.ensures in
    subst (λ (y : Checked GivenParts). Adding c.args.so_far.now c.class_made.new.so_far c.class_made.result y)
    (sym (class_found ar (class c.args.of.now) p c.in-Some.class.now (sym (c.in-Some.ensures ∙ ap (class_in ar.classes) named))))
    c.class_made.ensures

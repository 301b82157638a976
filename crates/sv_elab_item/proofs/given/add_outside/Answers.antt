-- The scope of the files, and then one description after another.
use Rattle.std.proofs.Common.{List, [], map, refl, sym, subst}
use Rattle.sv_tree.specs.declared.unit.Description.{Description}
use Rattle.sv_tree.specs.UnitView.{description}
use Rattle.sv_names.specs.declared.checked.Checked.{Checked}
use Rattle.sv_names.specs.declared.checked.Checked.TheVariants.{Good}
use Rattle.sv_names.specs.Items.{GivenParts}
use Rattle.sv_names.specs.Joined.{joined}
use Rattle.sv_names.specs.Views.{around_in}
use Rattle.sv_elab_parts.specs.Adding.{AddingAll, behind}
use Rattle.sv_elab_scope.specs.Rows.{group_in}
use Rattle.sv_elab_plain.specs.Files.{file_scope}
use Rattle.sv_elab_item.specs.Given.{described, all_described, outside_given}
use Rattle.sv_elab_plain.proofs.EachLaws.{part_next, parts_all}
use Rattle.sv_elab_item.proofs.GivenListLaws.{described_cons, files_first}
use Rattle.sv_elab_item.proofs.given.add_outside.Goals as goal

pub loop-one-init : goal.loop-one-init
loop-one-init c =
    let us = map description c.args.units.now in
    let g = group_in c.args.group.now in
    let x = c.args.so_far.now in
    let scope = file_scope us g in (
      behind (Good []) scope,
      c.and_adding-done.ensures x x c.add_file_scope-scope.new.so_far (Good []) scope ([], refl, refl) c.add_file_scope-scope.ensures,
      files_first us (around_in c.args.files.now) g,
    )

pub loop-one-preserved : goal.loop-one-preserved
loop-one-preserved c =
    let ar = around_in c.args.files.now in
    let kept = c.loop-one.invariant in
    let whole = outside_given (map description c.args.units.now) ar (group_in c.args.group.now) in (
      joined kept.0 (described ar (description c.one-item.result)),
      c.add_description-done.ensures c.args.so_far.now kept.0 kept.1,
      part_next (λ (d : Description). described ar (description d)) (λ (ds : List Description). all_described ar (map description ds))
          (λ d ds. described_cons ar (description d) (map description ds)) c.args.units.now c.loop-one.one-index c.one-item.result kept.0 whole
          c.loop-one-test.true (sym c.one-item.is) kept.2,
    )

pub returns : goal.returns
returns c =
    let ar = around_in c.args.files.now in
    let kept = c.loop-one.invariant in
    let whole = outside_given (map description c.args.units.now) ar (group_in c.args.group.now) in
    subst (λ (w : Checked (List GivenParts)). AddingAll c.args.so_far.now c.loop-one.so_far c.loop-one.done w)
    (parts_all (λ (ds : List Description). all_described ar (map description ds)) refl c.args.units.now c.loop-one.one-index kept.0 whole
    c.loop-one-test.false kept.2)
    kept.1

-- One item outside units, or none.
use Rattle.std.proofs.Common.{List, [], sym, subst}
use Rattle.sv_tree.specs.declared.unit.Description.{Description}
use Rattle.sv_tree.specs.UnitView.{description, item}
use Rattle.sv_names.specs.declared.checked.Checked.{Checked}
use Rattle.sv_names.specs.Items.{GivenParts, common_parts}
use Rattle.sv_names.specs.Joined.{joined}
use Rattle.sv_names.specs.Views.{around_in}
use Rattle.sv_elab_parts.specs.Adding.{AddingAll}
use Rattle.sv_elab_item.specs.Given.{described}
use Rattle.sv_elab_item.proofs.GivenListLaws.{behind_joined}
use Rattle.sv_elab_item.proofs.given.add_description.Goals as goal

pub returns-in-Item : goal.returns-in-Item
returns-in-Item c = λ start b adding.
    let ar = around_in c.args.files.now in
    let part = common_parts ar [] (item c.in-Item.item) in
    let y = c.add_common-next.new.so_far in
    subst (λ (d : Description). AddingAll start y c.and_adding.result (joined b (described ar (description d)))) (sym c.in-Item.is)
    (subst (λ (w : Checked (List GivenParts)). AddingAll start y c.and_adding.result w) (behind_joined b part)
    (c.and_adding.ensures start c.args.so_far.now y b part adding c.add_common-next.ensures))

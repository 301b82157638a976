use Rattle.std.proofs.Common.{List, ◌∷◌, ◌∙◌, map, length, sym, ap, subst}
use Rattle.std.specs.List.{between}
use Rattle.std.proofs.lemmas.Slice.{first_rest}
use Rattle.sv_tree.specs.declared.clocking.ClockingItem.{ClockingItem}
use Rattle.sv_tree.specs.UnitView.{clocking_item}
use Rattle.sv_names.specs.declared.checked.Checked.{Checked}
use Rattle.sv_names.specs.Clockings.{Skews, defaults}
use Rattle.sv_names.specs.Given.{GivesAs}
use Rattle.sv_names.specs.Views.{around_in}
use Rattle.sv_elab_clocking.specs.Skews.{skews_in}
use Rattle.sv_elab_clocking.proofs.SkewLaws.{item_good}
use Rattle.sv_elab_clocking.proofs.skews.+defaults.Goals as goal

pub returns-in-Ok : goal.returns-in-Ok
returns-in-Ok t c =
    let ar = around_in c.args.around.now in
    let k = skews_in c.args.before in
    let rest = between 1 (length c.args.items.now) c.args.items.now in
    let all = first_rest c.args.items.now c.one-item.result c.in-len1-up.len_at_least ∙ ap (λ p. p ∷ rest) (sym c.one-item.is) in
    subst (λ (x : Checked Skews). GivesAs skews_in c.defaults.result x)
    (sym (ap (λ (is : List ClockingItem). defaults ar k (map clocking_item is)) all
    ∙ item_good ar k (clocking_item c.one-item.result) (map clocking_item rest) (skews_in c.in-Ok.next) c.in-Ok.ensures))
    c.defaults.ensures

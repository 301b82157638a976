use Rattle.std.proofs.Common.{List, ◌∷◌, ◌∙◌, map, length, sym, ap, subst}
use Rattle.std.specs.List.{between}
use Rattle.std.proofs.lemmas.Slice.{first_rest}
use Rattle.sv_tree.specs.declared.clocking.Sided.{Sided}
use Rattle.sv_tree.specs.UnitView.{sided}
use Rattle.sv_names.specs.declared.checked.Checked.{Checked}
use Rattle.sv_names.specs.Clockings.{Skews, with_skews}
use Rattle.sv_names.specs.Given.{GivesAs}
use Rattle.sv_names.specs.Views.{around_in}
use Rattle.sv_elab_clocking.specs.Skews.{skews_in}
use Rattle.sv_elab_clocking.proofs.SkewLaws.{first_good}
use Rattle.sv_elab_clocking.proofs.skews.+with_skews.Goals as goal

pub returns-in-Ok : goal.returns-in-Ok
returns-in-Ok t c =
    let ar = around_in c.args.around.now in
    let k = skews_in c.args.before in
    let rest = between 1 (length c.args.sides.now) c.args.sides.now in
    let all = first_rest c.args.sides.now c.one-item.result c.in-len1-up.len_at_least ∙ ap (λ p. p ∷ rest) (sym c.one-item.is) in
    subst (λ (x : Checked Skews). GivesAs skews_in c.with_skews.result x)
    (sym (ap (λ (ss : List Sided). with_skews ar k (map sided ss)) all
    ∙ first_good ar k (sided c.one-item.result) (map sided rest) (skews_in c.in-Ok.next) c.in-Ok.ensures))
    c.with_skews.ensures

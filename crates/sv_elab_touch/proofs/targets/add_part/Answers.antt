use Rattle.std.proofs.Common.{◌≡◌, ◌∙◌, List, sym, ap, subst}
use Rattle.std.specs.Prelude.{OnOk}
use Rattle.sv_tree.specs.View.{suffix_list}
use Rattle.sv_names.specs.Writers as writers
use Rattle.sv_names.specs.Views.{around_in}
use Rattle.sv_elab_touch.specs.Touched.{Touched, alone_touches}
use Rattle.sv_elab_touch.proofs.QuietLaws.{no_suffixes}
use Rattle.sv_elab_touch.proofs.targets.add_part.Goals as goal

pub returns-in-Some : goal.returns-in-Some
returns-in-Some c =
    let ar = around_in c.args.around.now in
    let whole : writers.part_touches c.args.how ar c.args.root.now (suffix_list c.args.suffixes.now) ≡ alone_touches c.place_of_root.result c.in-Some.written =
    ap (λ s. writers.part_touches c.args.how ar c.args.root.now s) (no_suffixes c.args.suffixes.now c.in-empty.len_below)
    ∙ c.in-Some.ensures c.args.how ∙ ap (λ at. alone_touches at c.in-Some.written) (sym c.place_of_root.ensures) in
    subst (λ (ts : List writers.Touch). OnOk c.add_alone.result (Touched c.args.touches.now c.add_alone.new.touches ts)) (sym whole) c.add_alone.ensures

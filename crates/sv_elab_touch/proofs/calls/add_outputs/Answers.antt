use Rattle.std.proofs.Common.{◌≡◌, ◌∙◌, [], ◌∷◌, ◌++◌, map, length, drop, sym, ap}
use Rattle.std.specs.List.{between}
use Rattle.std.proofs.lemmas.List.{drop_all}
use Rattle.std.proofs.lemmas.Slice.{first_rest}
use Rattle.sv_names.specs.Views.{around_in}
use Rattle.sv_elab_touch.proofs.OutputLaws.{output_turn, no_arguments}
use Rattle.sv_tree.specs.View.{expr_list}
use Rattle.sv_names.specs.Writers as writers
use Rattle.sv_elab_writers.specs.Views.{touch_in}
use Rattle.sv_elab_touch.proofs.TouchedLaws.{all_touched}
use Rattle.sv_elab_touch.proofs.calls.add_outputs.Goals as goal

pub loop-e-preserved : goal.loop-e-preserved
loop-e-preserved c =
    let rest = between 1 (length c.loop-e.left.now) c.loop-e.left.now in
    let all = first_rest c.loop-e.left.now c.formal-item.result c.in-len1-up.len_at_least ∙ ap (λ f. f ∷ rest) (sym c.formal-item.is) in
    output_turn (around_in c.args.around.now) c.loop-e.left.now rest c.formal-item.result c.args.actuals.now c.loop-e.e-index c.e-item.result
    c.loop-e.touches c.add_output.new.touches all c.loop-e-test.true (sym c.e-item.is) c.in_ok-add_output.ensures
    ∙ c.loop-e.invariant

pub returns : goal.returns
returns c =
    let ar = around_in c.args.around.now in
    let ended : drop c.loop-e.e-index c.args.actuals.now ≡ [] = drop_all c.loop-e.e-index c.args.actuals.now c.loop-e-test.false in
    all_touched c.args.touches.now c.loop-e.touches (writers.output_touches ar c.args.formals.now (expr_list c.args.actuals.now))
    (ap (λ l. map touch_in c.loop-e.touches ++ l) (sym (no_arguments ar c.loop-e.left.now))
    ∙ ap (λ xs. map touch_in c.loop-e.touches ++ writers.output_touches ar c.loop-e.left.now (expr_list xs)) (sym ended)
    ∙ c.loop-e.invariant)

use Rattle.std.proofs.Common.{◌≡◌, ◌∙◌, ◌∷◌, List, [], map, ap, sym, subst}
use Rattle.std.specs.Prelude.{IfOk}
use Rattle.sv_tree.specs.declared.clocking.ClockingBlock.{ClockingBlock}
use Rattle.sv_tree.specs.declared.unit.Item.{Item}
use Rattle.sv_tree.specs.UnitView as view
use Rattle.sv_names.specs.Sources.{Process as Run}
use Rattle.sv_names.specs.Views.{around_in}
use Rattle.sv_elab_writers.specs.declared.touch.Process.{Process}
use Rattle.sv_elab_writers.specs.Views.{process_in}
use Rattle.sv_elab_met.specs.Met as words
use Rattle.sv_elab_met.proofs.BehindLaws.{of_answer}
use Rattle.sv_elab_met.proofs.processes.item_processes.Goals as goal

pub returns-in_ok-process-in-Clocking : goal.returns-in_ok-process-in-Clocking
returns-in_ok-process-in-Clocking c =
    let ar = around_in c.args.around.now in
    let p = c.args.path.now in
    let r = c.one_process-in-Clocking.result in
    let one : ClockingBlock → Run = λ b. words.clocking_process ar p (view.clocking b) in
    let at_item : Item → Type 0 = λ x. IfOk r (λ ps. map process_in ps ≡ words.item_processes ar p (view.item x)) in
    subst at_item (sym c.in-Clocking.is)
    (of_answer r (λ (ps : List Process). ps ≡ c.in_ok-process-in-Clocking.process ∷ []) (λ (ps : List Process). map process_in ps ≡ one c.in-Clocking.block.value ∷ [])
    (λ ps is. ap (map process_in) is ∙ ap (λ (y : Run). y ∷ []) (c.in_ok-process-in-Clocking.ensures ∙ ap one c.deref-in-Clocking.ensures))
    c.one_process-in-Clocking.ensures)

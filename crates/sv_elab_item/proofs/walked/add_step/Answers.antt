-- A step by its form.
use Rattle.std.proofs.Common.{map, sym, subst}
use Rattle.sv_tree.specs.UnitView.{connection, description}
use Rattle.sv_names.specs.Items.{enter_parts}
use Rattle.sv_names.specs.Views.{around_in}
use Rattle.sv_elab_parts.specs.Adding.{Adding}
use Rattle.sv_elab_walk.specs.declared.instance.Inst.{Inst}
use Rattle.sv_elab_walk.specs.declared.instance.Walked.{Walked}
use Rattle.sv_elab_walk.specs.Insts.{inst_in, walked_in}
use Rattle.sv_elab_plain.specs.Parts.{connected}
use Rattle.sv_elab_plain.specs.Steps.{step_given}
use Rattle.sv_elab_item.proofs.walked.add_step.Goals as goal

pub returns-in-Enter : goal.returns-in-Enter
returns-in-Enter c =
    let ar = around_in c.args.around.now in
    let x = c.args.so_far.now in
    let y = c.add_inst.new.so_far in
    subst (λ (w : Walked). Adding x y c.add_inst.result (step_given (map description c.args.units.now) ar (walked_in w))) (sym c.in-Enter.is)
    (subst (λ (i : Inst). Adding x y c.add_inst.result (enter_parts ar (inst_in i))) c.deref.ensures c.add_inst.ensures)

pub returns-in-Connect : goal.returns-in-Connect
returns-in-Connect c =
    let ar = around_in c.args.around.now in
    let x = c.args.so_far.now in
    let y = c.connect.new.so_far in
    subst (λ (w : Walked). Adding x y c.connect.result (step_given (map description c.args.units.now) ar (walked_in w))) (sym c.in-Connect.is)
    (subst (λ (i : Inst). Adding x y c.connect.result (connected ar (inst_in i) (map connection c.in-Connect.list.now))) c.deref-in-Connect.ensures
    c.connect.ensures)

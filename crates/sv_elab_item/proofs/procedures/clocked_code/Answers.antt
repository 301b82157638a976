-- Another statement than one behind an event control.
use Rattle.std.proofs.Common.{refl, subst}
use Rattle.sv_tree.specs.StmtView as view
use Rattle.sv_names.specs.declared.checked.Checked.{Checked}
use Rattle.sv_names.specs.Checked.{broken_at}
use Rattle.sv_names.specs.Code.{Code}
use Rattle.sv_names.specs.Emits.{Emits}
use Rattle.sv_names.specs.Items.{clocked}
use Rattle.sv_names.specs.Statements.{stmt}
use Rattle.sv_names.specs.Views.{around_in}
use Rattle.sv_elab_item.proofs.ProcedureLaws.{other_statement}
use Rattle.sv_elab_item.proofs.procedures.clocked_code.Goals as goal

pub returns-in_default : goal.returns-in_default
returns-in_default c =
    let ar = around_in c.args.around.now in
    let x = c.args.body.now in
    let rs = c.args.routines.now in
    let rs' = c.stmt-made.new.routines in
    let os = c.args.objects.now in
    let os' = c.stmt-made.new.objects in
    subst (λ (k : Checked Code). Emits rs rs' os os' c.guarded_code.result k)
    (other_statement ar c.args.at x.at x.label x.body c.in_default.not-On)
    (c.guarded_code.ensures rs rs' os os' (stmt (clocked c.args.at ar) (view.stmt x)) (broken_at 28 c.args.at) c.stmt-made.ensures refl)

use Rattle.std.proofs.Common.{sym, ap}
use Rattle.std.specs.Prelude.{not}
use Rattle.sv_flat.specs.declared.stmt.Form.{Form}
use Rattle.sv_flat.specs.declared.stmt.Form.TheVariants as form
use Rattle.sv_names.specs.declared.checked.Checked.{Checked}
use Rattle.sv_names.specs.declared.checked.Checked.TheVariants.{Good}
use Rattle.sv_names.specs.declared.hoisted.Hoisted.{Hoisted}
use Rattle.sv_names.specs.Checked.{rule, ◌where_also◌}
use Rattle.sv_names.specs.Events.{no_arguments}
use Rattle.sv_names.specs.Hoisted.{pure}
use Rattle.sv_elab_task.proofs.ends.exit.Goals as goal

pub returns : goal.returns
returns c =
    let made : Checked (Hoisted Form) = Good (pure form.Exit) in
    let none : Checked (Unit {0}) = no_arguments c.args.at c.args.args.now in
    c.where_also.ensures (made where_also none) (rule 49 c.args.at (not c.args.around.now.is_program))
    (c.where_also-form.ensures made none (ap (λ (h : Hoisted Form). Good h) (sym c.pure.ensures)) c.no_arguments.ensures)
    c.rule.ensures

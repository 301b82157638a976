-- It needs no arguments.
use Rattle.std.proofs.Common.{subst}
use Rattle.sv_names.specs.declared.checked.Checked.{Checked}
use Rattle.sv_names.specs.Code.{Code}
use Rattle.sv_names.specs.Emits.{Emits}
use Rattle.sv_names.specs.Views.{around_in}
use Rattle.sv_elab_before.proofs.SuperLaws.{none_needed}
use Rattle.sv_elab_before.proofs.supers.implied_call.Goals as goal

pub returns : goal.returns
returns c = λ rs os.
    subst (λ (x : Checked Code). Emits rs rs os os c.super_statement.result x)
    (none_needed (around_in c.args.around.now) c.args.name c.args.at c.args.path.now c.args.base.now c.constructor_needs.result
    c.constructor_needs.ensures c.if-constructor_needs.false) (c.super_statement.ensures rs os)

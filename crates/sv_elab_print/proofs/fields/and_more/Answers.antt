use Rattle.std.proofs.Common.{◌≡◌, subst}
use Rattle.std.specs.Prelude.{IfOk}
use Rattle.sv_names.specs.declared.checked.Checked.{Checked}
use Rattle.sv_names.specs.Formats.{Printed, and_then}
use Rattle.sv_elab_print.proofs.fields.and_more.Goals as goal

pub returns-clause-ok : goal.returns-clause-ok
returns-clause-ok c x h =
    subst (λ (y : Checked Printed). IfOk c.and_then.result (λ p. p ≡ and_then c.args.done y)) (c.in_ok-more.ensures.ok x h) c.and_then.ensures.ok

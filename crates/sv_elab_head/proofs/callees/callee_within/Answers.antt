-- The parts of a head.
use Rattle.std.proofs.Common.{◌∙◌, ap}
use Rattle.sv_names.specs.Scopes.{has_slot}
use Rattle.sv_names.specs.Views.{around_in}
use Rattle.sv_elab_declare.specs.Alone.{class_in}
use Rattle.sv_elab_head.proofs.callees.callee_within.Goals as goal

pub returns : goal.returns
returns c =
    let slot = c.has_slot.ensures ∙ ap (has_slot (around_in c.args.around.now) (class_in c.args.of.now.class)) c.bytes.ensures in
    let path = c.in_ok-path.ensures ∙ c.as_slice.ensures in
    λ i. record {
      name = c.in_ok-name.ensures i;
      path = path i;
      is_task = c.is_task.ensures i;
      result = c.in_ok-result.ensures i;
      formals = c.in_ok-formals.ensures i;
      class = c.in_ok-class.ensures i;
      is_static = c.is_static.ensures i;
      is_virtual = slot i;
      is_pure = c.args.of.now.is_pure;
      protection = c.protection_of.ensures i;
    }

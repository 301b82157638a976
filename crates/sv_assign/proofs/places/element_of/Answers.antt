use Rattle.std.proofs.Common.{◌≡◌, ◌∙◌, subst}
use Rattle.std.specs.Prelude.{Result, Ok}
use Rattle.sv_value.specs.declared.val.Val.{Val}
use Rattle.sv_flat.specs.Eval.{with_result}
use Rattle.sv_flat.specs.Targets.{Placed, cell_at, element_at}
use Rattle.sv_eval.specs.declared.stopped.Stopped.{Stopped}
use Rattle.sv_eval.specs.Evaluates.{Evaluates}
use Rattle.sv_assign.proofs.places.element_of.Goals as goal

pub returns-in_ok-place-in-Ok : goal.returns-in_ok-place-in-Ok
returns-in_ok-place-in-Ok c r h =
    let is : r ≡ Ok c.in-Ok.index = subst (λ (m : Result Val Stopped). Evaluates m r) c.in-Ok.is h in
    (λ i. with_result {B = Placed} (is i) (λ x. Ok (cell_at c.args.object (element_at c.args.bounds x)))) ∙ (λ i. Ok (c.in_ok-place-in-Ok.ensures i))

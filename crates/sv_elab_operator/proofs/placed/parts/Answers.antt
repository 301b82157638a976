use Rattle.std.proofs.Common.{◌≡◌, List, [], sym, subst, ap, ◌∙◌}
use Rattle.std.proofs.lemmas.List.{nil_from_length}
use Rattle.sv_names.specs.declared.argument.Arg.{Arg}
use Rattle.sv_names.specs.declared.checked.Checked.{Checked}
use Rattle.sv_names.specs.Arguments.{parts_beside}
use Rattle.sv_names.specs.Given.{Gives}
use Rattle.sv_names.specs.Joined.{joined}
use Rattle.sv_names.specs.Operators.{Placed}
use Rattle.sv_names.proofs.Joined.{joined_last}
use Rattle.sv_elab_operator.proofs.placed.parts.Goals as goal

pub returns : goal.returns
returns c =
    let nothing : c.loop-a.a-iterator.rest.items ≡ [] =
    nil_from_length c.loop-a.a-iterator.rest.items (sym c.loop-a.a-iterator.rest.ok.0 ∙ c.in-None.ensures.steps.0) in
    subst (λ (l : Checked (List Placed)). Gives c.answer.result l)
    (sym (joined_last c.loop-a.list)
    ∙ sym (ap (λ (as' : List Arg). joined c.loop-a.list (parts_beside c.first_kind-first.result as')) nothing)
    ∙ c.loop-a.invariant)
    c.answer.ensures

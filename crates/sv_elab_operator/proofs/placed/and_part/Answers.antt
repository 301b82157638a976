use Rattle.std.proofs.Common.{◌≡◌, List, subst}
use Rattle.std.specs.Prelude.{IfOk}
use Rattle.sv_names.specs.declared.checked.Checked.{Checked}
use Rattle.sv_names.specs.Arguments.{value_of_arg}
use Rattle.sv_names.specs.Checked.{◌▷◌, given, put_before}
use Rattle.sv_names.specs.Joined.{joined}
use Rattle.sv_names.specs.Operators.{Placed, joins}
use Rattle.sv_elab_operator.proofs.placed.and_part.Goals as goal

pub returns-clause-ok : goal.returns-clause-ok
returns-clause-ok c =
    let x : Checked Placed = given (λ t. (c.args.a.at, t)) (value_of_arg c.args.a ▷ joins c.args.first c.args.a.at) in
    subst (λ (n : Checked Placed). IfOk c.and_next.result (λ l. (ys : Checked (List Placed)) → joined l ys ≡ joined c.args.list (put_before n ys)))
    (c.in_ok-next.ensures.ok x c.part.ensures) c.and_next.ensures.ok

use Rattle.std.proofs.Common.{◌≡◌, sym, subst, ◌∙◌}
use Rattle.std.specs.Prelude.{IfOk}
use Rattle.sv_names.specs.declared.typed.Typed.{Typed}
use Rattle.sv_names.specs.Operators.{Placed}
use Rattle.sv_elab_operator.proofs.InRow.{whole_is}
use Rattle.sv_elab_operator.proofs.concatenations.join_all.Goals as goal

pub returns-in-Some-clause-ok : goal.returns-in-Some-clause-ok
returns-in-Some-clause-ok c =
    let p : Placed = (c.in-Some.field-0-0, c.in-Some.last) in
    subst (λ (w : Typed). IfOk c.join_row.result (λ t. t ≡ w))
    (whole_is c.args.parts c.pop.new.self.items p (sym c.into_vec-parts.ensures ∙ c.in-Some.ensures.items)) c.join_row.ensures.ok

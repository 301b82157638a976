use Rattle.std.proofs.Common.{◌≡◌, IfOk, subst, sym, ap, ◌∙◌}
use Rattle.sv_names.specs.declared.ty.Ty.{Ty}
use Rattle.sv_names.specs.declared.typed.Typed.{Typed}
use Rattle.sv_names.specs.Targets.{Spot, type_of_target}
use Rattle.sv_elab_select.specs.Written.{read_row}
use Rattle.sv_elab_select.proofs.Targeted.{read_is}
use Rattle.sv_elab_select.proofs.written.read_of.Goals as goal

pub returns-in-Some-clause-ok : goal.returns-in-Some-clause-ok
returns-in-Some-clause-ok c =
    let xs = c.pop.new.self.items in
    let p : Spot = (c.in-Some.field-0-0, c.in-Some.last) in
    subst (λ (w : Typed). IfOk c.read_row.result (λ t. t ≡ w))
    (ap (λ (u : Ty). read_row c.args.at u xs c.in-Some.last) (c.in_ok-ty.ensures.ok ∙ ap type_of_target c.as_slice.ensures)
    ∙ read_is c.args.at c.args.spots xs p (sym c.into_vec-spots.ensures ∙ c.in-Some.ensures.items))
    c.read_row.ensures.ok

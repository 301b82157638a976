use Rattle.std.proofs.Common.{◌≡◌, ◌∙◌, Bool, subst, sym}
use Rattle.std.specs.Prelude.{IfOk}
use Rattle.sv_flat.specs.Eval.{value_of}
use Rattle.sv_sense.proofs.FireLaws.{fired_is}
use Rattle.sv_sense.proofs.fires.fired.Goals as goal

pub returns : goal.returns
returns g c =
    let e = c.args.expr.now in
    let old = g.V.Values.view c.args.old.now in
    let new = g.W.Values.view c.args.new.now in
    subst (λ (f : Bool). IfOk c.both_make.result (λ b. b ≡ f)) (sym (fired_is c.args.edge e c.requires old new))
    (c.both_make.ensures (value_of e old) (value_of e new) c.value-before.ensures c.value-after.ensures)

pub returns-then-makes_none : goal.returns-then-makes_none
returns-then-makes_none g c =
    let e = c.args.expr.now in
    let old = g.V.Values.view c.args.old.now in
    let new = g.W.Values.view c.args.new.now in
    sym (fired_is c.args.edge e c.requires old new ∙ c.makes_none.ensures (value_of e old) (value_of e new) c.value-after.ensures c.if-makes_none.true)

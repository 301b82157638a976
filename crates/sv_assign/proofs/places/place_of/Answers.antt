use Rattle.std.proofs.Common.{subst, sym}
use Rattle.sv_flat.specs.declared.target.Base.{Base}
use Rattle.sv_flat.specs.Targets.{based}
use Rattle.sv_assign.specs.Places.{Answers, placed_in}
use Rattle.sv_assign.proofs.SpotLaws.{variable_named}
use Rattle.sv_assign.proofs.places.place_of.Goals as goal

pub returns-in-Element : goal.returns-in-Element
returns-in-Element g c =
    subst (λ (b : Base). Answers placed_in c.element_of.result (based b (g.V.Values.view c.args.values.now))) (sym c.in-Element.is)
    (c.element_of.ensures _ c.value.ensures)

pub returns-in-LocalElement : goal.returns-in-LocalElement
returns-in-LocalElement g c =
    subst (λ (b : Base). Answers placed_in c.variable_of.result (based b (g.V.Values.view c.args.values.now))) (sym c.in-LocalElement.is)
    (variable_named c.variable_of.result _ c.name-in-LocalElement.result _ c.in-LocalElement.place c.in-LocalElement.bounds c.name-in-LocalElement.ensures
    (c.variable_of.ensures _ c.value-in-LocalElement.ensures))

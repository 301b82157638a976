use Rattle.std.proofs.Common.{◌∙◌, sym, ap}
use Rattle.sv_flat.specs.State.{activation}
use Rattle.sv_arena.specs.Made.{Made}
use Rattle.sv_arena.proofs.TableLaws.{found_none, found_some}
use Rattle.sv_arena.proofs.activations.Activations.activation.Goals as goal

pub returns-in-Some : goal.returns-in-Some
returns-in-Some c =
    c.get.ensures
    ∙ found_some c.self.inside.activations c.self.inside.by_process.items c.args.name c.in-Some.place c.self.invariant (sym c.in-Some.is ∙ c.place_of.ensures)
    ∙ ap (λ (m : Made). activation m.activations c.args.name) c.self.view_is

pub returns-in-None : goal.returns-in-None
returns-in-None c =
    found_none c.self.inside.activations c.self.inside.by_process.items c.args.name c.self.invariant (sym c.in-None.is ∙ c.place_of.ensures)
    ∙ ap (λ (m : Made). activation m.activations c.args.name) c.self.view_is

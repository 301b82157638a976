use Rattle.std.proofs.Common.{◌∙◌, sym}
use Rattle.sv_arena.proofs.MadeLaws.{found_written, made_unwritten, made_written, place_within}
use Rattle.sv_arena.proofs.activations.Activations.write.Goals as goal

pub get_mut-activation-requires : goal.get_mut-activation-requires
get_mut-activation-requires c =
    place_within c.self.inside.activations c.self.inside.by_process.items c.args.name c.in-Some.place c.self.invariant (sym c.in-Some.is ∙ c.place_of.ensures)

pub invariant_of-self : goal.invariant_of-self
invariant_of-self c =
    found_written c.self.inside.activations c.self.inside.by_process.items c.in-Some.place c.args.variable c.args.part c.args.value
    c.get_mut-activation.result.now c.write.new.self c.self.invariant c.get_mut-activation.ensures.value c.write.ensures

pub returns-in-Some : goal.returns-in-Some
returns-in-Some c =
    made_written c.self.inside.activations c.self.inside.by_process.items c.args.self.now c.args.name c.in-Some.place c.args.variable c.args.part c.args.value
    c.get_mut-activation.result.now c.write.new.self c.self.invariant c.self.view_is (sym c.in-Some.is ∙ c.place_of.ensures)
    c.get_mut-activation.ensures.value c.write.ensures

pub returns-in-None : goal.returns-in-None
returns-in-None c =
    made_unwritten c.self.inside.activations c.self.inside.by_process.items c.args.self.now c.args.name c.args.variable c.args.part c.args.value
    c.self.invariant c.self.view_is (sym c.in-None.is ∙ c.place_of.ensures)

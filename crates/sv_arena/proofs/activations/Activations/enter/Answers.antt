use Rattle.std.proofs.Common.{◌∙◌, ◌∷◌, ◌++◌, [], ap}
use Rattle.sv_flat.specs.State.{Activation}
use Rattle.sv_arena.proofs.MadeLaws.{entered_is, found_entered, row_is}
use Rattle.sv_arena.proofs.activations.Activations.enter.Goals as goal

pub invariant_of-self-2 : goal.invariant_of-self-2
invariant_of-self-2 c =
    let here = row_is c.self.inside.by_process.items c.self.inside.activations c.args.self.now c.args.process c.index_mut-row.result.now c.self.view_is
    c.requires.known c.index_mut-row.ensures.value in
    found_entered c.self.inside.by_process.items c.self.inside.activations c.push_both.new.activations c.args.self.now c.args.process
    c.index_mut-row.result.now c.push_both.new.row c.new-activation.result c.self.invariant c.self.view_is here
    (ap (λ (a : Activation). a.name) c.new-activation.ensures ∙ c.next-name.ensures) c.in_ok-push_both.ensures.activation c.in_ok-push_both.ensures.place

pub returns-clause-ok : goal.returns-clause-ok
returns-clause-ok c =
    let here = row_is c.self.inside.by_process.items c.self.inside.activations c.args.self.now c.args.process c.index_mut-row.result.now c.self.view_is
    c.requires.known c.index_mut-row.ensures.value in
    entered_is c.self.inside.by_process.items c.self.inside.activations c.push_both.new.activations c.args.self.now c.args.process
    c.index_mut-row.result.now c.push_both.new.row c.next-name.result c.args.around c.args.values.items c.self.view_is here c.next-name.ensures
    (c.in_ok-push_both.ensures.activation ∙ ap (λ (a : Activation). c.self.inside.activations ++ a ∷ []) c.new-activation.ensures) c.in_ok-push_both.ensures.place

use Rattle.std.proofs.Common.{rules, ◌≡◌, ◌++◌, ◌∷◌, []}
use Rattle.sv_arena.specs.Table.{names_of}
use Rattle.sv_arena.proofs.MadeLaws.{found_wider, made_wider}
use Rattle.sv_arena.proofs.activations.Activations.add_process.Goals as goal

pub invariant_of-self-2 : goal.invariant_of-self-2
invariant_of-self-2 c =
    let rows = c.self.inside.by_process.items in
    let more : c.push.new.self.items ≡ rows ++ c.new.result ∷ [] = search rules in
    found_wider (names_of c.self.inside.activations) rows _ c.new.result c.self.invariant c.new.ensures more

pub returns-clause-ok : goal.returns-clause-ok
returns-clause-ok c =
    let rows = c.self.inside.by_process.items in
    let more : c.push.new.self.items ≡ rows ++ c.new.result ∷ [] = search rules in
    made_wider c.self.inside.activations rows _ c.new.result c.args.self.now c.self.view_is c.new.ensures more

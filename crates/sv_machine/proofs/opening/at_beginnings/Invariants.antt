use Rattle.std.proofs.Common.{◌≡◌, ◌∷◌, [], None, take, map}
use Rattle.sv_stack.specs.declared.frames.Frame.TheVariants.{Rest}
use Rattle.sv_machine.proofs.opening.at_beginnings.Given as goal

abbrev pub invariant-loop-process : goal.invariant-loop-process
invariant-loop-process l = l.all.items ≡ map (λ f. Rest (record { routine = f.body; place = 0 }) None ∷ []) (take l.process-index l.processes)

use Rattle.std.proofs.Common.{ap, ◌∙◌}
use Rattle.sv_flat.specs.Statements.Delays.{ticks_of}
use Rattle.sv_process.proofs.waits.ticks_in.Goals as goal

pub returns : goal.returns
returns g c = c.ticks_of.ensures ∙ ap (λ b. ticks_of c.args.in_ticks b (g.V.Values.view c.args.values.now)) c.vector_in.ensures

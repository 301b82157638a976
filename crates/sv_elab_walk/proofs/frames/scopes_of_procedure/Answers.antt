-- The scopes that a procedure makes.
use Rattle.std.proofs.Common.{◌-◌, ◌^◌, min, ap, ◌∙◌, zero-add}
use Rattle.sv_names.specs.Blocks.{scopes_made}
use Rattle.sv_tree.specs.StmtView.{stmt}
use Rattle.sv_elab_walk.proofs.frames.scopes_of_procedure.Goals as goal

pub returns : goal.returns
returns c = ap (λ a. a.blocks) c.after.ensures ∙ ap (λ n. min n (2 ^ 32 - 1)) (zero-add (scopes_made (stmt c.args.of.now.body)))

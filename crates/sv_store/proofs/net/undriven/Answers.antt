use Rattle.std.proofs.Common.{◌∙◌, arith}
use Rattle.sv_value.specs.declared.word.TheConstants.{WIDEST}
use Rattle.sv_value.proofs.Words.{same_vector}
use Rattle.sv_store.proofs.SlotLemmas.{all_z-words}
use Rattle.sv_store.proofs.net.undriven.Goals as goal

pub returns : goal.returns
returns c = c.truncated.ensures ∙ same_vector (all_z-words c.args.width WIDEST (omega arith))

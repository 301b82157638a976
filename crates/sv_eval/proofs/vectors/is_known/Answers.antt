use Rattle.std.proofs.Common.{sym}
use Rattle.sv_value.proofs.Words.{is_known-unknown}
use Rattle.sv_eval.proofs.vectors.is_known.Goals as goal

pub returns : goal.returns
returns c = sym (is_known-unknown c.words-unknown.ensures)

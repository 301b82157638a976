use Rattle.std.proofs.Common.{◌≡◌, ◌++◌, drop, false}
use Rattle.sv_names.specs.Literals.{unescaped}
use Rattle.sv_elab_operator.proofs.strings.unescaped.Given as goal

abbrev pub invariant-loop-byte : goal.invariant-loop-byte
invariant-loop-byte l = l.bytes ++ unescaped l.is_escaped (drop l.byte-index l.text) ≡ unescaped false l.text

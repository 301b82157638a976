use Rattle.std.proofs.Common.{◌≡◌, drop, [], None}
use Rattle.sv_names.specs.Formats.{parts_from}
use Rattle.sv_elab_print.specs.Reading.{read_on}
use Rattle.sv_elab_print.proofs.formats.format.Given as goal

abbrev pub invariant-loop-byte : goal.invariant-loop-byte
invariant-loop-byte l = read_on l.reading (drop l.byte-index l.text) ≡ parts_from [] None l.text

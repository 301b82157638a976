use Rattle.std.proofs.Common.{◌≡◌, ◌+◌, take}
use Rattle.std.specs.Prelude.{map, string_bytes}
use Rattle.sv_simulate.specs.Said.{Has}
use Rattle.sv_simulate.specs.Source.{bytes_of, contents}
use Rattle.sv_simulate.proofs.answer.fetch_all.Given as goal

abbrev pub invariant-loop-file : goal.invariant-loop-file
invariant-loop-file g l = record {
  files : g.F.Shelf.files l.shelf ≡ g.F.Shelf.files l.initial.shelf;
  faults : g.F.Shelf.faults l.shelf ≡ g.F.Shelf.faults l.initial.shelf;
  has : Has (g.F.Shelf.files l.initial.shelf) (map string_bytes (take l.file-index l.names)) (contents l.texts.items);
  left : bytes_of (contents l.texts.items) + l.left ≡ l.fn.limit;
}

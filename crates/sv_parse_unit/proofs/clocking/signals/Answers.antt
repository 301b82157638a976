use Rattle.std.proofs.Common.{refl}
use Rattle.std.proofs.lemmas.List.{map-id}
use Rattle.sv_parse_unit.proofs.clocking.signals.Goals as goal

pub returns : goal.returns
returns c = rw (c.in-Ok.ensures, c.in-Ok-list.ensures, c.in-Ok-expect.ensures, map-id c.in-Ok-list.read.0.items) refl

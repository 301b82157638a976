use Rattle.std.proofs.Common.{◌≡◌, drop}
use Rattle.sv_names.specs.Index.{some_block}
use Rattle.sv_names.proofs.declarations.has_block.Given as goal

abbrev pub invariant-loop-declaration : goal.invariant-loop-declaration
invariant-loop-declaration l = some_block (drop l.declaration-index l.known) ≡ some_block l.known

use Rattle.std.proofs.Common.{◌≡◌, [], take, drop, map, reverse}
use Rattle.sv_names.specs.Checked.{◌where_also◌}
use Rattle.sv_names.specs.Entries as names
use Rattle.sv_elab_scope.specs.Views.{entry_in}
use Rattle.sv_elab_scope.specs.Repeated.{seen_in, HasNames, of_rule}
use Rattle.sv_elab_scope.proofs.repeated.twice.Given as goal

abbrev pub invariant-loop-position : goal.invariant-loop-position
invariant-loop-position l =
    HasNames l.seen (take l.position l.entries)
    × ((l.guards where_also names.twice (of_rule l.number) (reverse (seen_in (take l.position l.entries))) (map entry_in (drop l.position l.entries)))
    ≡ names.twice (of_rule l.number) [] (map entry_in l.entries))

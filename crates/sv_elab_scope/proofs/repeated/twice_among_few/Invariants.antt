use Rattle.std.proofs.Common.{◌≡◌, [], take, drop, map, reverse}
use Rattle.sv_names.specs.Checked.{◌where_also◌}
use Rattle.sv_names.specs.Entries as names
use Rattle.sv_elab_scope.specs.Views.{entry_in}
use Rattle.sv_elab_scope.specs.Repeated.{seen_in, of_rule}
use Rattle.sv_elab_scope.proofs.repeated.twice_among_few.Given as goal

abbrev pub invariant-loop-position : goal.invariant-loop-position
invariant-loop-position l =
    (l.guards where_also names.twice (of_rule l.number) (reverse (seen_in (take l.position l.entries))) (map entry_in (drop l.position l.entries)))
    ≡ names.twice (of_rule l.number) [] (map entry_in l.entries)

use Rattle.std.proofs.Common.{◌≡◌, drop, map}
use Rattle.sv_names.specs.Checked.{all, ◌where_also◌}
use Rattle.sv_elab_writers.specs.Views.{write_in}
use Rattle.sv_elab_writers.specs.Laws.{stands, all_stand}
use Rattle.sv_elab_writers.proofs.clashes.each_stands.Given as goal

abbrev pub invariant-loop-w : goal.invariant-loop-w
invariant-loop-w l =
    (l.guards where_also all (stands l.law (map write_in l.writes)) (map write_in (drop l.w-index l.writes)))
    ≡ all_stand l.law (map write_in l.writes)

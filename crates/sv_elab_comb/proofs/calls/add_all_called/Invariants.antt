use Rattle.std.proofs.Common.{◌≡◌, ◌++◌, map, length}
use Rattle.std.specs.Prelude.{flat_map}
use Rattle.sv_flat.specs.Names.{call_routines}
use Rattle.sv_elab_comb.proofs.calls.add_all_called.Given as goal

abbrev pub invariant-loop-left : goal.invariant-loop-left
invariant-loop-left l =
    l.ids ++ flat_map (call_routines l.parts) (map (λ c. c.form) l.left)
    ≡ l.initial.ids ++ flat_map (call_routines l.parts) (map (λ c. c.form) l.calls)

abbrev pub decreases-loop-left : goal.decreases-loop-left
decreases-loop-left l = length l.left

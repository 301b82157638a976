use Rattle.std.proofs.Common.{◌≡◌, ℕ, map}
use Rattle.sv_tree.specs.UnitView.{description}
use Rattle.sv_names.specs.Instances.{Walk}
use Rattle.sv_names.specs.Named.{Around}
use Rattle.sv_elab_walk.specs.Insts.{all_walked}
use Rattle.sv_elab_walk.specs.Frames.{goes_on, behind, turns}
use Rattle.sv_elab_walk.proofs.steps.advance.Given as goal

abbrev pub invariant-loop-frame : goal.invariant-loop-frame
invariant-loop-frame l =
    (files : Around) (n : ℕ) (last : Walk)
    → goes_on (all_walked l.walked) n (behind (map description l.units) files l.frames.items last)
    ≡ goes_on (all_walked l.initial.walked) n (behind (map description l.units) files l.initial.frames.items last)

abbrev pub decreases-loop-frame : goal.decreases-loop-frame
decreases-loop-frame l = turns l.frames.items

use Rattle.std.proofs.Common.{◌≡◌, drop}
use Rattle.sv_names.specs.Design.{is_path_of}
use Rattle.sv_elab_comb.proofs.outer.place_of.Given as goal

abbrev pub invariant-loop-place : goal.invariant-loop-place
invariant-loop-place l = is_path_of l.path (drop l.place l.instances) ≡ is_path_of l.path l.instances

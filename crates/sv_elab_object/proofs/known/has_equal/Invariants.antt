use Rattle.std.proofs.Common.{◌≡◌, drop, map}
use Rattle.sv_names.specs.Scopes.{has_equal}
use Rattle.sv_elab_object.proofs.known.has_equal.Given as goal

abbrev pub invariant-loop-u : goal.invariant-loop-u
invariant-loop-u l = has_equal l.t (map (λ u. u.now) (drop l.u-index l.seen)) ≡ has_equal l.t (map (λ u. u.now) l.seen)

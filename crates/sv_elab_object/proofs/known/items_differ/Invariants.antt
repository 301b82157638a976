use Rattle.std.proofs.Common.{◌≡◌, [], drop, map}
use Rattle.sv_names.specs.Checked.{◌where_also◌}
use Rattle.sv_names.specs.Scopes.{items_differ}
use Rattle.sv_elab_object.proofs.known.items_differ.Given as goal

abbrev pub invariant-loop-one : goal.invariant-loop-one
invariant-loop-one l =
    (l.guards where_also items_differ (map (λ u. u.now) l.seen.items) (drop l.one-index l.known)) ≡ items_differ [] l.known

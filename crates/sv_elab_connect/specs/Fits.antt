-- The rules on lists of connections, one after another.
use Rattle.std.specs.Prelude.{ℕ, ◌+◌, not, ◌||◌, List, [], ◌∷◌, Option, Some, None, slice_get}
use Rattle.sv_value.specs.declared.place.Place.{Place}
use Rattle.sv_tree.specs.Expr.{place_of}
use Rattle.sv_tree.specs.Units as tree
use Rattle.sv_names.specs.declared.checked.Checked.{Checked}
use Rattle.sv_names.specs.Checked.{broken_at, rule, fine, only, ◌where_also◌}
use Rattle.sv_names.specs.Connections.{seen_with}
use Rattle.sv_names.specs.Expressions.{expr}
use Rattle.sv_names.specs.Named.{Around}
use Rattle.sv_names.specs.Types.{among}
use Rattle.sv_elab_connect.specs.declared.fits.ListOf.{ListOf}
use Rattle.sv_elab_connect.specs.declared.fits.ListOf.TheVariants.{Ports, Parameters}
use Rattle.sv_elab_connect.specs.Links.{named_by}

-- the rule that a wrong name breaks
abbrev pub rule_of : ListOf → ℕ
rule_of Ports = 8
rule_of Parameters = 10

-- a name at a place is none of these, or stands before
abbrev pub named_once : ℕ → List (List ℕ) → List (List ℕ) → Place → Option (List ℕ) → Checked (Unit {0})
named_once r names seen at None = broken_at r at
named_once r names seen at (Some x) = rule r at (not (among x names) || among x seen)

-- `.*` gives no value to a parameter
abbrev pub star_guard : ListOf → Place → Checked (Unit {0})
star_guard Ports at = fine
star_guard Parameters at = broken_at 10 at

-- what a connection that stands at a place breaks
abbrev pub guard_of : ListOf → List (List ℕ) → List (List ℕ) → ℕ → tree.Connection → Checked (Unit {0})
guard_of l names seen k (tree.Connection.Value e) = named_once (rule_of l) names seen (place_of e) (slice_get names k)
guard_of l names seen k (tree.Named at n) = named_once (rule_of l) names seen at (Some n.text)
guard_of l names seen k (tree.Given at n e) = named_once (rule_of l) names seen at (Some n.text)
guard_of l names seen k (tree.All at) = star_guard l at

-- what connections break, behind those of these names
abbrev pub fits : ListOf → List (List ℕ) → List (List ℕ) → ℕ → List tree.Connection → Checked (Unit {0})
fits l names seen k [] = fine
fits l names seen k (c ∷ cs) = guard_of l names seen k c where_also fits l names (seen_with (named_by names k c) seen) (k + 1) cs

-- what a connection breaks by itself
abbrev pub connection_stands : Around → tree.Connection → Checked (Unit {0})
connection_stands ar (tree.Connection.Value e) = only (expr ar e)
connection_stands ar (tree.Given at n (Some e)) = only (expr ar e)
connection_stands ar c = fine

-- Which connection belongs to a port.
use Rattle.std.specs.Prelude.{ℕ, ◌+◌, Bool, false, List, [], ◌∷◌, Option, Some, None, if◌then◌else◌, slice_get, option_map}
use Rattle.sv_tree.specs.Expr.{place_of}
use Rattle.sv_tree.specs.Units as tree
use Rattle.sv_tree.specs.View.{expr}
use Rattle.sv_names.specs.Connections as connections
use Rattle.sv_names.specs.Types.{same_bytes}
use Rattle.sv_elab_connect.specs.declared.links.Linked.{Linked}
use Rattle.sv_elab_connect.specs.declared.links.Linked.TheVariants.{To, Same}

-- what a port is connected to
abbrev pub linked_in : Linked → connections.Linked
linked_in (To at e) = connections.To_expr at (expr e.now)
linked_in (Same at an) = connections.To_same at an

-- what a connection that stands at a place names
abbrev pub named_by : List (List ℕ) → ℕ → tree.Connection → Option (List ℕ)
named_by names k (tree.Connection.Value e) = slice_get names k
named_by names k (tree.Named at n) = Some n.text
named_by names k (tree.Given at n e) = Some n.text
named_by names k (tree.All at) = None

-- whether this is a name
abbrev pub is_of : List ℕ → Option (List ℕ) → Bool
is_of x None = false
is_of x (Some y) = same_bytes x y

-- the first connection of a name
abbrev pub connection_to : List ℕ → List (List ℕ) → ℕ → List tree.Connection → Option tree.Connection
connection_to x names k [] = None
connection_to x names k (c ∷ cs) = if is_of x (named_by names k c) then Some c else connection_to x names (k + 1) cs

-- what a connection connects its port to
abbrev pub linked_by : tree.Connection → Option connections.Linked
linked_by (tree.Connection.Value e) = Some (connections.To_expr (place_of e) e)
linked_by (tree.Named at n) = Some (connections.To_same at n.at)
linked_by (tree.Given at n e) = option_map (connections.To_expr at) e
linked_by (tree.All at) = None

-- the same where there is such a connection
abbrev pub linked_if : Option tree.Connection → Option connections.Linked
linked_if None = None
linked_if (Some c) = linked_by c

-- by its own connection, else by `.*`
abbrev pub linked_where : List tree.Connection → Option tree.Connection → Option connections.Linked
linked_where cs None = connections.star_of cs
linked_where cs (Some c) = linked_by c

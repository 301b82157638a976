-- What a port is connected to, over the connection that is found for it.
use Rattle.std.proofs.Common.{◌≡◌, ℕ, ◌+◌, Bool, true, false, List, [], ◌∷◌, Option, Some, None, refl, sym, ap, ◌∙◌, if◌then◌else◌}
use Rattle.std.specs.Prelude.{◌||◌, slice_get, option_map, is_some}
use Rattle.std.specs.Borrow.{Bor}
use Rattle.std.proofs.lemmas.Option.{slice_get-map}
use Rattle.sv_tree.specs.Expr.{Expr, place_of}
use Rattle.sv_tree.specs.Items.{DesignElement}
use Rattle.sv_tree.specs.Units as tree
use Rattle.sv_names.specs.Connections as connections
use Rattle.sv_names.specs.Connections.{Linked, linked_to, is_given, star_of, linked_port}
use Rattle.sv_names.specs.Instances.{PortInfo, port_names}
use Rattle.sv_names.specs.Types.{same_bytes}
use Rattle.sv_elab_unit.specs.Definitions.{names_in}
use Rattle.sv_elab_connect.specs.Links.{is_of, connection_to, linked_by, linked_if, linked_where}

-- a name at a place
pub name_there : (ns : List (Bor (List ℕ))) (k : ℕ) → slice_get (names_in ns) k ≡ option_map (λ n. n.now) (slice_get ns k)
name_there ns k = slice_get-map (λ (n : Bor (List ℕ)). n.now) ns k

-- a connection that is found, or one of those behind it
abbrev first_or : Bool → tree.Connection → Option tree.Connection → Option tree.Connection
first_or b c o = if b then Some c else o

given_step : (b : Bool) (c : tree.Connection) (r : Bool) (o : Option tree.Connection) → r ≡ is_some o → (b || r) ≡ is_some (first_or b c o)
given_step true c r o is = refl
given_step false c r o is = is

linked_step : (b : Bool) (c : tree.Connection) (r : Option Linked) (o : Option tree.Connection) → r ≡ linked_if o
    → (if b then linked_by c else r) ≡ linked_if (first_or b c o)
linked_step true c r o is = refl
linked_step false c r o is = is

module _ (x : List ℕ) (names : List (List ℕ)) where
  -- a connection without a name, by what stands at its place
  given_value : (k : ℕ) (e : Expr) (cs : List tree.Connection) (o : Option (List ℕ)) → slice_get names k ≡ o
      → is_given x names k (tree.Connection.Value e ∷ cs) ≡ (is_of x (slice_get names k) || is_given x names (k + 1) cs)
  given_value k e cs None at = rw at
  given_value k e cs (Some y) at = rw at

  linked_value : (k : ℕ) (e : Expr) (cs : List tree.Connection) (o : Option (List ℕ)) → slice_get names k ≡ o
      → linked_to x names k (tree.Connection.Value e ∷ cs)
      ≡ (if is_of x (slice_get names k) then Some (connections.To_expr (place_of e) e) else linked_to x names (k + 1) cs)
  linked_value k e cs None at = rw at
  linked_value k e cs (Some y) at = rw at

  given_is : (k : ℕ) (cs : List tree.Connection) → is_given x names k cs ≡ is_some (connection_to x names k cs)
  given_is k [] = refl
  given_is k (tree.Connection.Value e ∷ cs) =
      given_value k e cs (slice_get names k) refl
      ∙ given_step (is_of x (slice_get names k)) (tree.Connection.Value e) (is_given x names (k + 1) cs) (connection_to x names (k + 1) cs)
      (given_is (k + 1) cs)
  given_is k (tree.Named at n ∷ cs) =
      given_step (same_bytes x n.text) (tree.Named at n) (is_given x names (k + 1) cs) (connection_to x names (k + 1) cs) (given_is (k + 1) cs)
  given_is k (tree.Given at n e ∷ cs) =
      given_step (same_bytes x n.text) (tree.Given at n e) (is_given x names (k + 1) cs) (connection_to x names (k + 1) cs) (given_is (k + 1) cs)
  given_is k (tree.All at ∷ cs) = given_is (k + 1) cs

  linked_is : (k : ℕ) (cs : List tree.Connection) → linked_to x names k cs ≡ linked_if (connection_to x names k cs)
  linked_is k [] = refl
  linked_is k (tree.Connection.Value e ∷ cs) =
      linked_value k e cs (slice_get names k) refl
      ∙ linked_step (is_of x (slice_get names k)) (tree.Connection.Value e) (linked_to x names (k + 1) cs) (connection_to x names (k + 1) cs)
      (linked_is (k + 1) cs)
  linked_is k (tree.Named at n ∷ cs) =
      linked_step (same_bytes x n.text) (tree.Named at n) (linked_to x names (k + 1) cs) (connection_to x names (k + 1) cs) (linked_is (k + 1) cs)
  linked_is k (tree.Given at n e ∷ cs) =
      linked_step (same_bytes x n.text) (tree.Given at n e) (linked_to x names (k + 1) cs) (connection_to x names (k + 1) cs) (linked_is (k + 1) cs)
  linked_is k (tree.All at ∷ cs) = linked_is (k + 1) cs

chosen : (cs : List tree.Connection) (o : Option tree.Connection) → (if is_some o then linked_if o else star_of cs) ≡ linked_where cs o
chosen cs None = refl
chosen cs (Some c) = refl

-- what a port is connected to, by the connection that is found
pub link_is : (u : DesignElement) (cs : List tree.Connection) (p : PortInfo)
    → linked_where cs (connection_to p.name.text (port_names u) 0 cs) ≡ linked_port u cs p
link_is u cs p =
    let o : Option tree.Connection = connection_to p.name.text (port_names u) 0 cs in
    sym (ap (λ (b : Bool). if b then linked_to p.name.text (port_names u) 0 cs else star_of cs) (given_is p.name.text (port_names u) 0 cs)
    ∙ ap (λ (l : Option Linked). if is_some o then l else star_of cs) (linked_is p.name.text (port_names u) 0 cs)
    ∙ chosen cs o)

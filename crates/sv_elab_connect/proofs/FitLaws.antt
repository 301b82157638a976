-- The rules on lists of connections, against their definitions.
use Rattle.std.proofs.Common.{◌≡◌, ℕ, ◌+◌, List, [], ◌∷◌, Option, Some, None, refl, ap, ◌∙◌}
use Rattle.std.specs.Prelude.{slice_get}
use Rattle.sv_value.specs.declared.place.Place.{Place}
use Rattle.sv_tree.specs.Expr as tree_expr
use Rattle.sv_tree.specs.Units as tree
use Rattle.sv_names.specs.declared.checked.Checked.{Checked}
use Rattle.sv_names.specs.declared.checked.Checked.TheVariants.{Good, Broken}
use Rattle.sv_names.specs.Checked.{fine, broken_at, ◌where_also◌}
use Rattle.sv_names.specs.Connections.{connects, seen_with, connections_fit, connections_stand}
use Rattle.sv_names.specs.Items.{value_names, with_seen, values_name}
use Rattle.sv_names.specs.Named.{Around}
use Rattle.sv_elab_connect.specs.declared.fits.ListOf.TheVariants.{Ports, Parameters}
use Rattle.sv_elab_connect.specs.Fits.{named_once, fits, connection_stands}

-- what breaks no rule stands beside nothing
fine_also : (c : Checked (Unit {0})) → fine where_also c ≡ c
fine_also (Good u) = refl
fine_also (Broken f) = refl

-- a name, by its definitions
port_once : (names seen : List (List ℕ)) (at : Place) (o : Option (List ℕ)) → named_once 8 names seen at o ≡ connects names seen at o
port_once names seen at None = refl
port_once names seen at (Some x) = refl

parameter_once : (names seen : List (List ℕ)) (at : Place) (o : Option (List ℕ)) → named_once 10 names seen at o ≡ value_names names seen at o
parameter_once names seen at None = refl
parameter_once names seen at (Some x) = refl

seen_same : (o : Option (List ℕ)) (seen : List (List ℕ)) → seen_with o seen ≡ with_seen o seen
seen_same None seen = refl
seen_same (Some x) seen = refl

pub ports_fit : (names seen : List (List ℕ)) (k : ℕ) (cs : List tree.Connection) → fits Ports names seen k cs ≡ connections_fit names seen k cs
ports_fit names seen k [] = refl
ports_fit names seen k (tree.Connection.Value e ∷ cs) =
    ap (λ (c : Checked (Unit {0})). c where_also fits Ports names (seen_with (slice_get names k) seen) (k + 1) cs)
    (port_once names seen (tree_expr.place_of e) (slice_get names k))
    ∙ ap (λ (c : Checked (Unit {0})). connects names seen (tree_expr.place_of e) (slice_get names k) where_also c)
    (ports_fit names (seen_with (slice_get names k) seen) (k + 1) cs)
ports_fit names seen k (tree.Named at n ∷ cs) =
    ap (λ (c : Checked (Unit {0})). connects names seen at (Some n.text) where_also c) (ports_fit names (n.text ∷ seen) (k + 1) cs)
ports_fit names seen k (tree.Given at n e ∷ cs) =
    ap (λ (c : Checked (Unit {0})). connects names seen at (Some n.text) where_also c) (ports_fit names (n.text ∷ seen) (k + 1) cs)
ports_fit names seen k (tree.All at ∷ cs) =
    fine_also (fits Ports names seen (k + 1) cs) ∙ ports_fit names seen (k + 1) cs

pub parameters_fit : (names seen : List (List ℕ)) (k : ℕ) (cs : List tree.Connection)
    → fits Parameters names seen k cs ≡ values_name names seen k cs
parameters_fit names seen k [] = refl
parameters_fit names seen k (tree.Connection.Value e ∷ cs) =
    let go : List (List ℕ) → Checked (Unit {0}) = λ s. fits Parameters names s (k + 1) cs in
    let here : Checked (Unit {0}) = value_names names seen (tree_expr.place_of e) (slice_get names k) in
    ap (λ (c : Checked (Unit {0})). c where_also go (seen_with (slice_get names k) seen))
    (parameter_once names seen (tree_expr.place_of e) (slice_get names k))
    ∙ ap (λ (s : List (List ℕ)). here where_also go s) (seen_same (slice_get names k) seen)
    ∙ ap (λ (c : Checked (Unit {0})). here where_also c) (parameters_fit names (with_seen (slice_get names k) seen) (k + 1) cs)
parameters_fit names seen k (tree.Named at n ∷ cs) =
    ap (λ (c : Checked (Unit {0})). value_names names seen at (Some n.text) where_also c) (parameters_fit names (n.text ∷ seen) (k + 1) cs)
parameters_fit names seen k (tree.Given at n e ∷ cs) =
    ap (λ (c : Checked (Unit {0})). value_names names seen at (Some n.text) where_also c) (parameters_fit names (n.text ∷ seen) (k + 1) cs)
parameters_fit names seen k (tree.All at ∷ cs) =
    ap (λ (c : Checked (Unit {0})). broken_at 10 at where_also c) (parameters_fit names seen (k + 1) cs)

-- a connection, and those behind it
pub next_stands : (ar : Around) (c : tree.Connection) (cs : List tree.Connection)
    → (connection_stands ar c where_also connections_stand ar cs) ≡ connections_stand ar (c ∷ cs)
next_stands ar (tree.Connection.Value e) cs = refl
next_stands ar (tree.Named at n) cs = fine_also (connections_stand ar cs)
next_stands ar (tree.Given at n None) cs = fine_also (connections_stand ar cs)
next_stands ar (tree.Given at n (Some e)) cs = refl
next_stands ar (tree.All at) cs = fine_also (connections_stand ar cs)

-- Names and ports that are appended to a list.
use Rattle.std.proofs.Common.{◌≡◌, ℕ, Bool, List, [], ◌∷◌, ◌++◌, map, refl, sym, ap, ◌∙◌, append_assoc, append-nil, Option, Some, None}
use Rattle.std.specs.Borrow.{Bor}
use Rattle.sv_tree.specs.declared.word.Name.{Name}
use Rattle.sv_tree.specs.declared.word.PortDirection.{PortDirection}
use Rattle.sv_tree.specs.Types.{ImpliedType}
use Rattle.sv_tree.specs.Units as tree
use Rattle.sv_names.specs.Instances as instances
use Rattle.sv_elab_unit.specs.Definitions.{names_in}

-- nothing is appended
pub none_named : (es : List (Bor (List ℕ))) → names_in es ≡ names_in es ++ []
none_named es = sym (append-nil (names_in es))

-- what is appended in a turn is what the rest begins with
pub turn_named : (es fs : List (Bor (List ℕ))) (xs ys : List (List ℕ)) → names_in fs ≡ names_in es ++ xs
    → names_in fs ++ ys ≡ names_in es ++ (xs ++ ys)
turn_named es fs xs ys is = ap (λ l. l ++ ys) is ∙ append_assoc (names_in es) xs ys

-- the last turn has appended all
pub all_named : (es fs : List (Bor (List ℕ))) (xs : List (List ℕ)) → names_in fs ++ [] ≡ names_in es ++ xs
    → names_in fs ≡ names_in es ++ xs
all_named es fs xs is = sym (append-nil (names_in fs)) ∙ is

-- a port by its direction
abbrev port_of : Option PortDirection → Bool → ImpliedType → Name → tree.Port
port_of d w t n = record { direction = d; is_net = w; of = t; name = n }

-- the names of ports, as they are known and as they are written
abbrev known_texts : Bool → Bool → ImpliedType → List tree.Port → List (List ℕ)
known_texts input wire t ps = map (λ p. p.name.text) (instances.ports_from input wire t ps)

abbrev written_texts : List tree.Port → List (List ℕ)
written_texts ps = map (λ p. p.name.text) ps

port_text : (ps : List tree.Port) → ((i w : Bool) (u : ImpliedType) → known_texts i w u ps ≡ written_texts ps)
    → (input wire : Bool) (t : ImpliedType) (d : Option PortDirection) (w : Bool) (u : ImpliedType) (n : Name)
    → known_texts input wire t (port_of d w u n ∷ ps) ≡ n.text ∷ written_texts ps
port_text ps more input wire t None w u n = ap (λ ns. n.text ∷ ns) (more input wire t)
port_text ps more input wire t (Some d) w u n = ap (λ ns. n.text ∷ ns) (more (instances.is_input_word d) w u)

-- the names of ports are those that are written
pub port_texts : (input wire : Bool) (t : ImpliedType) (ps : List tree.Port)
    → map (λ p. p.name.text) (instances.ports_from input wire t ps) ≡ map (λ p. p.name.text) ps
port_texts input wire t [] = refl
port_texts input wire t (p ∷ ps) = port_text ps (λ i w u. port_texts i w u ps) input wire t p.direction p.is_net p.of p.name

use Rattle.std.proofs.Common.{◌≡◌, ℕ, List, Option, Some, None, map, sym, ap, ◌∙◌}
use Rattle.std.specs.Borrow.{Bor}
use Rattle.std.specs.Prelude.{option_map}
use Rattle.sv_tree.specs.declared.unit.Connection.{Connection}
use Rattle.sv_tree.specs.Units as tree
use Rattle.sv_tree.specs.UnitView.{connection}
use Rattle.sv_names.specs.Instances.{port_names}
use Rattle.sv_elab_unit.specs.Definitions.{names_in}
use Rattle.sv_elab_unit.specs.Ports.{port_in}
use Rattle.sv_elab_connect.specs.Links.{connection_to, linked_where}
use Rattle.sv_elab_connect.proofs.LinkLaws.{link_is}
use Rattle.sv_elab_connect.proofs.links.linked_port.Goals as goal

pub returns-in-Some : goal.returns-in-Some
returns-in-Some c u names =
    let cs = map connection c.args.all.now in
    let p = port_in c.args.port.now in
    let found : Some (connection c.in-Some.one.now) ≡ connection_to p.name.text (port_names u) 0 cs =
    ap (λ (o : Option (Bor Connection)). option_map (λ x. connection x.now) o) (sym c.in-Some.is)
    ∙ c.in_ok-one.ensures
    ∙ ap (λ (x : List ℕ). connection_to x (names_in c.args.names.now) 0 cs) c.bytes.ensures
    ∙ ap (λ (ns : List (List ℕ)). connection_to p.name.text ns 0 cs) names in
    c.linked_by.ensures ∙ ap (λ (o : Option tree.Connection). linked_where cs o) found ∙ link_is u cs p

pub returns-in-None : goal.returns-in-None
returns-in-None c u names =
    let cs = map connection c.args.all.now in
    let p = port_in c.args.port.now in
    let found : None ≡ connection_to p.name.text (port_names u) 0 cs =
    ap (λ (o : Option (Bor Connection)). option_map (λ x. connection x.now) o) (sym c.in-None.is)
    ∙ c.in_ok-one.ensures
    ∙ ap (λ (x : List ℕ). connection_to x (names_in c.args.names.now) 0 cs) c.bytes.ensures
    ∙ ap (λ (ns : List (List ℕ)). connection_to p.name.text ns 0 cs) names in
    c.star_of.ensures ∙ ap (λ (o : Option tree.Connection). linked_where cs o) found ∙ link_is u cs p

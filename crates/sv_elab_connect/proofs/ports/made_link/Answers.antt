use Rattle.std.proofs.Common.{Some, [], ◌∷◌, sym, subst}
use Rattle.sv_tree.specs.declared.word.Name.{Name}
use Rattle.sv_tree.specs.View as view
use Rattle.sv_names.specs.declared.checked.Checked.{Checked}
use Rattle.sv_names.specs.Checked.{◌▷◌, given}
use Rattle.sv_names.specs.Connections.{Made, finds_object, link, link_of}
use Rattle.sv_names.specs.Given.{Fails}
use Rattle.sv_names.specs.Instances.{plain_name}
use Rattle.sv_names.specs.Views.{around_in}
use Rattle.sv_elab_drive.specs.Making.{EmitsAny}
use Rattle.sv_elab_unit.specs.Ports.{port_in}
use Rattle.sv_elab_connect.specs.declared.links.Linked.{Linked}
use Rattle.sv_elab_connect.specs.Links.{linked_in}
use Rattle.sv_elab_connect.proofs.GivingLaws.{fails_through}
use Rattle.sv_elab_connect.proofs.ports.made_link.Goals as goal

pub returns-in-To : goal.returns-in-To
returns-in-To c inst scope =
    let ar = around_in c.args.around.now in
    let port = port_in c.args.port.now in
    subst (λ (l : Linked). EmitsAny c.args.before.now c.link_to.new.before c.args.routines.now c.link_to.new.routines c.one_made.result
    (link_of ar inst port (Some (linked_in l)))) (sym c.in-To.is)
    (c.one_made.ensures c.args.before.now c.link_to.new.before c.args.routines.now c.link_to.new.routines
    (link ar inst port c.in-To.at (view.expr c.in-To.e.now)) (c.link_to.ensures inst scope))

pub returns-in-Ok : goal.returns-in-Ok
returns-in-Ok c inst scope =
    let ar = around_in c.args.around.now in
    let port = port_in c.args.port.now in
    let name : Name = record { at = c.in-Same.place; text = c.args.port.now.name.now.text } in
    let made : Checked Made = link ar inst port c.in-Same.at (plain_name name) in
    let there : EmitsAny c.args.before.now c.same_link.new.before c.args.routines.now c.same_link.new.routines c.one_made-in-Ok.result
    (finds_object ar c.in-Same.at name ▷ (λ _. given (λ m. m ∷ []) made)) =
    subst (λ (x : Checked (Unit {0})). EmitsAny c.args.before.now c.same_link.new.before c.args.routines.now c.same_link.new.routines
    c.one_made-in-Ok.result (x ▷ (λ _. given (λ m. m ∷ []) made))) (sym (c.in-Ok.ensures name (sym c.bytes.ensures)))
    (c.one_made-in-Ok.ensures c.args.before.now c.same_link.new.before c.args.routines.now c.same_link.new.routines made (c.same_link.ensures inst scope)) in
    subst (λ (l : Linked). EmitsAny c.args.before.now c.same_link.new.before c.args.routines.now c.same_link.new.routines c.one_made-in-Ok.result
    (link_of ar inst port (Some (linked_in l)))) (sym c.in-Same.is) there

pub returns-in-Err : goal.returns-in-Err
returns-in-Err c inst scope =
    let ar = around_in c.args.around.now in
    let port = port_in c.args.port.now in
    let name : Name = record { at = c.in-Same.place; text = c.args.port.now.name.now.text } in
    subst (λ (l : Linked). Fails c.in-Err.e (link_of ar inst port (Some (linked_in l)))) (sym c.in-Same.is)
    (fails_through (finds_object ar c.in-Same.at name)
    (λ _. given (λ m. m ∷ []) (link ar inst port c.in-Same.at (plain_name name))) c.in-Err.e (c.in-Err.ensures name (sym c.bytes.ensures)))

use Rattle.std.proofs.Common.{◌≡◌, ℕ, List, Some, None, sym, subst}
use Rattle.sv_names.specs.declared.refusal.Refusal.{Refusal}
use Rattle.sv_names.specs.Connections.{port_known}
use Rattle.sv_names.specs.Given.{Fails}
use Rattle.sv_names.specs.Named.{Found, declared_in}
use Rattle.sv_names.specs.Views.{found_in}
use Rattle.sv_elab_unit.specs.Ports.{port_in}
use Rattle.sv_elab_connect.proofs.ObjectLaws.{none_known, good_known, broken_known}
use Rattle.sv_elab_connect.proofs.objects.port_known.Goals as goal

pub returns-in-None : goal.returns-in-None
returns-in-None c inst scope =
    none_known inst (port_in c.args.port.now) c.args.scope.now scope
    (subst (λ (x : List ℕ). None ≡ declared_in 0 0 x c.args.scope.now.known) c.bytes.ensures c.in-None.ensures)

pub returns-in-Good : goal.returns-in-Good
returns-in-Good c inst scope =
    let f : Found = found_in c.in-Some.found in
    good_known inst (port_in c.args.port.now) c.args.scope.now f c.in-Good.named scope
    (subst (λ (x : List ℕ). Some f ≡ declared_in 0 0 x c.args.scope.now.known) c.bytes.ensures c.in-Some.ensures) c.in-Good.is

pub returns-in-Broken : goal.returns-in-Broken
returns-in-Broken c inst scope =
    let f : Found = found_in c.in-Some.found in
    let port = port_in c.args.port.now in
    subst (λ (e : Refusal). Fails e (port_known inst port)) (sym c.refusal.ensures)
    (broken_known inst port c.args.scope.now f c.in-Broken.fault scope
    (subst (λ (x : List ℕ). Some f ≡ declared_in 0 0 x c.args.scope.now.known) c.bytes.ensures c.in-Some.ensures) c.in-Broken.is)

-- A property by its name.
use Rattle.std.proofs.Common.{◌≡◌, ◌∙◌, ℕ, List, ap, subst}
use Rattle.std.specs.Prelude.{IfOk}
use Rattle.sv_names.specs.declared.checked.Checked.{Checked}
use Rattle.sv_names.specs.Named.{declared_in}
use Rattle.sv_names.specs.Targets.{Spot}
use Rattle.sv_names.specs.Views.{around_in}
use Rattle.sv_elab_before.proofs.PropertyLaws.{none_spot, broken_spot, good_spot}
use Rattle.sv_elab_before.proofs.properties.spot_of.Goals as goal

pub returns-in-None-clause-ok : goal.returns-in-None-clause-ok
returns-in-None-clause-ok c =
    let k = c.args.class.now in
    let n = c.args.name.now in
    let found = c.declared_in.ensures ∙ ap (λ (x : List ℕ). declared_in 0 0 x k.scope.known) c.bytes.ensures in
    none_spot (around_in c.args.around.now) k n c.declared_in.result found c.in-None.is

pub returns-in-Good-clause-ok : goal.returns-in-Good-clause-ok
returns-in-Good-clause-ok c =
    let k = c.args.class.now in
    let n = c.args.name.now in
    let ar = around_in c.args.around.now in
    let found = c.declared_in.ensures ∙ ap (λ (x : List ℕ). declared_in 0 0 x k.scope.known) c.bytes.ensures in
    subst (λ (x : Checked (List Spot)). IfOk c.property_spot.result (λ s. s ≡ x))
    (good_spot ar k n c.declared_in.result c.in-Some.found c.in-Good.named found c.in-Some.is c.in-Good.is) c.property_spot.ensures.ok

pub returns-in-Broken-clause-ok : goal.returns-in-Broken-clause-ok
returns-in-Broken-clause-ok c =
    let k = c.args.class.now in
    let n = c.args.name.now in
    let found = c.declared_in.ensures ∙ ap (λ (x : List ℕ). declared_in 0 0 x k.scope.known) c.bytes.ensures in
    broken_spot (around_in c.args.around.now) k n c.declared_in.result c.in-Some.found c.in-Broken.f found c.in-Some.is c.in-Broken.is

use Rattle.std.proofs.Common.{refl, sym, subst}
use Rattle.sv_names.specs.declared.checked.Checked.{Checked}
use Rattle.sv_names.specs.declared.checked.Checked.TheVariants.{Broken}
use Rattle.sv_names.specs.declared.refusal.Refusal.{Refusal}
use Rattle.sv_names.specs.Given.{Fails}
use Rattle.sv_names.specs.Named.{kind_stands, is_object_kind}
use Rattle.sv_names.specs.Views.{around_in}
use Rattle.sv_elab_connect.proofs.objects.broken_object.Goals as goal

pub returns : goal.returns
returns c =
    let broken : Checked (Unit {0}) = Broken c.args.fault in
    c.where_also.ensures broken (kind_stands (around_in c.args.around.now) 9 c.args.at is_object_kind c.args.name.now)
    (subst (λ (e : Refusal). Fails e broken) (sym c.refusal.ensures) refl) c.object_stands.ensures

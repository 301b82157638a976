use Rattle.std.proofs.Common.{◌≡◌, ℕ, List, Some, None, sym, subst}
use Rattle.sv_names.specs.declared.checked.Checked.{Checked}
use Rattle.sv_names.specs.declared.checked.Checked.TheVariants.{Broken}
use Rattle.sv_names.specs.Checked.{◌where_also◌}
use Rattle.sv_names.specs.Given.{Gives}
use Rattle.sv_names.specs.Named.{Found, declared_from, kind_stands, is_object_kind}
use Rattle.sv_names.specs.Views.{around_in, found_in}
use Rattle.sv_elab_connect.proofs.ObjectLaws.{none_found, good_found, broken_found}
use Rattle.sv_elab_connect.proofs.objects.finds_object.Goals as goal

pub returns-in-None : goal.returns-in-None
returns-in-None c n text =
    let ar = around_in c.args.around.now in
    sym (none_found ar c.args.at n (subst (λ (x : List ℕ). None ≡ declared_from 0 x ar.scopes) (sym text) c.in-None.ensures))

pub returns-in-Good : goal.returns-in-Good
returns-in-Good c n text =
    let ar = around_in c.args.around.now in
    let f : Found = found_in c.in-Some.found in
    let there : Some f ≡ declared_from 0 n.text ar.scopes =
    subst (λ (x : List ℕ). Some f ≡ declared_from 0 x ar.scopes) (sym text) c.in-Some.ensures in
    subst (λ (x : Checked (Unit {0})). Gives c.is_object.result x) (good_found ar c.args.at n f c.in-Good.named there c.in-Good.is) c.is_object.ensures

pub returns-in-Broken : goal.returns-in-Broken
returns-in-Broken c n text =
    let ar = around_in c.args.around.now in
    let f : Found = found_in c.in-Some.found in
    let there : Some f ≡ declared_from 0 n.text ar.scopes =
    subst (λ (x : List ℕ). Some f ≡ declared_from 0 x ar.scopes) (sym text) c.in-Some.ensures in
    let told : Gives c.broken_object.result (Broken c.in-Broken.fault where_also kind_stands ar 9 c.args.at is_object_kind n.text) =
    subst (λ (x : List ℕ). Gives c.broken_object.result (Broken c.in-Broken.fault where_also kind_stands ar 9 c.args.at is_object_kind x))
    (sym text) c.broken_object.ensures in
    subst (λ (x : Checked (Unit {0})). Gives c.broken_object.result x) (broken_found ar c.args.at n f c.in-Broken.fault there c.in-Broken.is) told

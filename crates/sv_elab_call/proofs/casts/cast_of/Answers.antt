use Rattle.std.proofs.Common.{List, length, refl, ap, sym, subst, ◌∙◌}
use Rattle.sv_names.specs.declared.argument.Arg.{Arg}
use Rattle.sv_names.specs.declared.checked.Checked.{Checked}
use Rattle.sv_names.specs.declared.method.Called.{Called}
use Rattle.sv_names.specs.Arguments.{values_stand}
use Rattle.sv_names.specs.Checked.{broken_at}
use Rattle.sv_names.specs.Given.{Gives}
use Rattle.sv_names.specs.Views.{around_in}
use Rattle.sv_elab_call.specs.Casting.{cast_of}
use Rattle.sv_elab_call.proofs.CastLaws.{not_two, two}
use Rattle.sv_elab_call.proofs.casts.cast_of.Goals as goal

pub returns-then-as_slice-ne2 : goal.returns-then-as_slice-ne2
returns-then-as_slice-ne2 c =
    let as' = c.args.args in
    subst (λ (x : Checked Called). Gives c.where_also.result x)
    (not_two (around_in c.args.around.now) c.args.answers c.args.at as' (λ h. c.if-as_slice-ne2.true (ap length c.as_slice.ensures ∙ h)))
    (c.where_also.ensures (broken_at 31 c.args.at) (values_stand as') refl
    (subst (λ (xs : List Arg). Gives c.values_stand.result (values_stand xs)) c.as_slice-then-as_slice-ne2.ensures c.values_stand.ensures))

pub returns : goal.returns
returns c =
    subst (λ (as' : List Arg). Gives c.cast.result (cast_of (around_in c.args.around.now) c.args.answers c.args.at as'))
    (sym (two c.in-Some.target c.in-Some.value c.args.args (sym (ap length c.as_slice.ensures) ∙ c.if-as_slice-ne2.false) (sym c.in-Some.ensures)))
    (c.cast.ensures c.args.at)

use Rattle.std.proofs.Common.{rules, ◌≡◌, List, length, refl, sym, subst, ap, ◌∙◌}
use Rattle.sv_names.specs.declared.argument.Arg.{Arg}
use Rattle.sv_names.specs.declared.checked.Checked.{Checked}
use Rattle.sv_names.specs.Arguments.{values_stand}
use Rattle.sv_names.specs.Checked.{broken_at}
use Rattle.sv_names.specs.Given.{Gives}
use Rattle.sv_elab_step.proofs.SystemLaws.{not_one, none_given}
use Rattle.sv_elab_step.proofs.system.one_of.Goals as goal

pub returns-in-Some : goal.returns-in-Some
returns-in-Some c =
    let rest = c.pop.new.self in
    let long : rest.len ≡ length rest.items = search rules in
    let stands : Gives c.values_stand-stands.result (values_stand c.args.args) =
    subst (λ (as' : List Arg). Gives c.values_stand-stands.result (values_stand as')) c.as_slice.ensures c.values_stand-stands.ensures in
    subst (λ (x : Checked Arg). Gives c.where_also.result x)
    (not_one c.args.at c.args.args rest.items c.in-Some.a rest.len c.is_empty.result (sym c.into_vec-args.ensures ∙ c.in-Some.ensures.items) long
    c.is_empty.ensures c.if-is_empty.false)
    (c.where_also.ensures (broken_at {A = Arg} 31 c.args.at) (values_stand c.args.args) refl stands)

pub returns : goal.returns
returns c =
    let all = c.into_vec-args.result in
    let long : all.len ≡ length all.items = search rules in
    let stands : Gives c.values_stand-stands.result (values_stand c.args.args) =
    subst (λ (as' : List Arg). Gives c.values_stand-stands.result (values_stand as')) c.as_slice.ensures c.values_stand-stands.ensures in
    subst (λ (x : Checked Arg). Gives c.where_also-in-None.result x)
    (none_given c.args.at c.args.args all.len (long ∙ ap length c.into_vec-args.ensures) (c.in-None.ensures.cases).0)
    (c.where_also-in-None.ensures (broken_at {A = Arg} 31 c.args.at) (values_stand c.args.args) refl stands)

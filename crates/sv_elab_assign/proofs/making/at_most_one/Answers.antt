use Rattle.std.proofs.Common.{◌<◌, List, Option, length, refl, subst}
use Rattle.sv_names.specs.declared.argument.Arg.{Arg}
use Rattle.sv_names.specs.declared.checked.Checked.{Checked}
use Rattle.sv_names.specs.Arguments.{values_stand}
use Rattle.sv_names.specs.Checked.{broken_at}
use Rattle.sv_names.specs.Given.{Gives}
use Rattle.sv_elab_assign.proofs.MakingLaws.{several_given}
use Rattle.sv_elab_assign.proofs.making.at_most_one.Goals as goal

pub returns-then-as_slice-gt1 : goal.returns-then-as_slice-gt1
returns-then-as_slice-gt1 c =
    let as' = c.args.args in
    subst (λ (x : Checked (Option Arg)). Gives c.where_also.result x)
    (several_given c.args.at as' (subst (λ (xs : List Arg). 1 < length xs) c.as_slice.ensures c.if-as_slice-gt1.true))
    (c.where_also.ensures (broken_at {A = Option Arg} 31 c.args.at) (values_stand as') refl
    (subst (λ (xs : List Arg). Gives c.values_stand.result (values_stand xs)) c.as_slice-then-as_slice-gt1.ensures c.values_stand.ensures))

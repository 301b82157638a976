-- A value that is kept.
use Rattle.std.proofs.Common.{◌++◌, ap, ◌∙◌, sym}
use Rattle.sv_elab_walk.specs.Givens.{kept_in, given_at}
use Rattle.sv_elab_walk.proofs.GivenLaws.{kept_last}
use Rattle.sv_elab_walk.proofs.givens.push_given.Goals as goal

pub returns-in_ok-push-in-Some : goal.returns-in_ok-push-in-Some
returns-in_ok-push-in-Some c =
    ap kept_in c.in_ok-push-in-Some.ensures.ok ∙ kept_last c.args.list.now c.in-Some.value
    ∙ ap (λ v. kept_in c.args.list.now ++ given_at v) (sym c.in-Some.is)

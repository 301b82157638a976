-- One connection after another.
use Rattle.std.proofs.Common.{◌≡◌, ◌∷◌, ◌++◌, ◌+◌, ◌-◌, ◌≤◌, map, length, sym, ap, ◌∙◌, arith}
use Rattle.std.specs.List.{between}
use Rattle.std.proofs.lemmas.Slice.{first_rest}
use Rattle.sv_tree.specs.UnitView.{connection}
use Rattle.sv_names.specs.Instances as instances
use Rattle.sv_names.specs.Views.{around_in}
use Rattle.sv_elab_unit.specs.Definitions.{names_in}
use Rattle.sv_elab_walk.specs.Givens.{kept_in, given_at}
use Rattle.sv_elab_walk.proofs.GivenLaws.{turn_given}
use Rattle.sv_elab_walk.proofs.givens.givens_from.Goals as goal

pub loop-left-preserved : goal.loop-left-preserved
loop-left-preserved c =
    let ar = around_in c.args.around.now in
    let ns = names_in c.args.names.now in
    let k = length c.args.all.now - length c.loop-left.left.now in
    let rest = between 1 (length c.loop-left.left.now) c.loop-left.left.now in
    let all = first_rest c.loop-left.left.now c.one-item.result c.in-len1-up.len_at_least ∙ ap (λ p. p ∷ rest) (sym c.one-item.is) in
    let one = ap length all in
    let next : length c.args.all.now - length rest ≡ k + 1 = omega (arith, one, c.loop-left.invariant.0) in
    let fewer : length rest ≤ length c.args.all.now = omega (arith, one, c.loop-left.invariant.0) in (
      fewer,
      turn_given ar ns k (length c.args.all.now - length rest) (connection c.one-item.result) (map connection rest) c.loop-left.list
          c.push_given.new.list (given_at c.in_ok-value.value) c.in_ok-push_given.ensures c.in_ok-value.ensures next
          ∙ ap (λ cs. kept_in c.loop-left.list ++ instances.givens_from ar ns k (map connection cs)) (sym all)
          ∙ c.loop-left.invariant.1,
    )

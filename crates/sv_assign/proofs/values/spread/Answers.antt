use Rattle.std.proofs.Common.{◌≡◌, ◌+◌, ◌-◌, ◌<◌, ◌++◌, ◌∙◌, List, sym, ap, length, drop, get_or, arith}
use Rattle.std.specs.Prelude.{max, sum_by}
use Rattle.sv_value.specs.declared.val.Val.{Val}
use Rattle.sv_flat.specs.Targets.{at_least, spread, target_width}
use Rattle.sv_assign.proofs.SpreadLaws.{below_next, next_within, spread_more}
use Rattle.sv_assign.proofs.values.spread.Goals as goal

pub loop-target-preserved : goal.loop-target-preserved
loop-target-preserved c =
    let ls = c.args.targets.now in
    let i = c.loop-target.target-index in
    let l = c.target-item.result in
    let total = sum_by target_width ls in
    let n = c.loop-target.low in
    let w = c.from.result in
    let within : i < length ls = c.loop-target-test.true in
    let is : get_or ls i l ≡ l = sym c.target-item.is in
    let width : w ≡ target_width l = c.from.ensures ∙ c.target_width.ensures in
    let below : n - w ≡ sum_by target_width (drop (i + 1) ls) = below_next ls i l n w within is c.loop-target.invariant.low width in
    let given = c.in_ok-spread_value.ensures (max total (length c.args.value.symbols))
    (next_within ls i l n w (length c.args.value.symbols) within is c.loop-target.invariant.low width) (omega arith) in
    record {
      low = below;
      rest = ap (λ (vs : List Val). vs ++ spread (drop (i + 1) ls) (at_least total c.args.value)) c.in_ok-push.ensures.items
          ∙ spread_more ls i l (at_least total c.args.value) c.loop-target.values.items c.in_ok-spread_value.field-0 (n - w) within is below given
          ∙ c.loop-target.invariant.rest;
    }

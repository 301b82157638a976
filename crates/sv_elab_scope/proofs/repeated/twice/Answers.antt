-- One declaration after another.
use Rattle.std.proofs.Common.{sym, ap, ◌∙◌}
use Rattle.std.specs.Prelude.{◌||◌}
use Rattle.sv_names.specs.Checked.{rule}
use Rattle.sv_names.specs.Index.{has_name}
use Rattle.sv_names.specs.Types.{same_bytes}
use Rattle.sv_elab_scope.proofs.RepeatLaws.{one_more, one_named}
use Rattle.sv_elab_scope.proofs.repeated.twice.Goals as goal

pub loop-position-preserved : goal.loop-position-preserved
loop-position-preserved c =
    let e = c.index-entries-position.result in (
      one_named c.loop-position.seen c.add.new.self c.args.entries.now c.loop-position.position e c.loop-position-test.true
          (sym c.index-entries-position.is) c.loop-position.invariant.0
          (λ x. c.in_ok-add.ensures x ∙ ap (λ n. same_bytes x n || has_name c.loop-position.seen x) c.bytes.ensures),
      one_more c.args.number c.args.entries.now c.loop-position.position e c.loop-position.guards c.rule.result c.and_guard-guards.result
          c.loop-position-test.true (sym c.index-entries-position.is) c.and_guard-guards.ensures
          (c.rule.ensures ∙ ap (rule c.args.number e.name.now.at) c.clashes_again-is_broken.ensures)
          ∙ c.loop-position.invariant.1,
    )

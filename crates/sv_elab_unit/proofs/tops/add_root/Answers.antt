use Rattle.std.proofs.Common.{sym, ap, ◌∙◌}
use Rattle.std.specs.Prelude.{◌||◌}
use Rattle.sv_names.specs.Index.{has_name}
use Rattle.sv_names.specs.Types.{same_bytes}
use Rattle.sv_elab_unit.proofs.RootLaws.{root_added}
use Rattle.sv_elab_unit.proofs.tops.add_root.Goals as goal

pub returns : goal.returns
returns c rest =
    let used = sym (c.has.ensures ∙ ap (has_name c.args.used.now) c.bytes-name.ensures) ∙ c.if-has.false in
    let new = sym (c.has-2.ensures ∙ ap (has_name c.args.seen.now) c.bytes-name.ensures) ∙ c.if-has-2.false in
    root_added c.args.used.now c.args.seen.now c.add.new.self c.args.list.now c.push.new.self c.args.unit rest used new
    (λ x. c.in_ok-add.ensures x ∙ ap (λ n. same_bytes x n || has_name c.args.seen.now x) c.bytes-name.ensures) c.in_ok-push.ensures.ok

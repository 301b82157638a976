use Rattle.std.proofs.Common.{◌∷◌, ◌∙◌, length, refl, sym, ap}
use Rattle.std.specs.List.{between}
use Rattle.std.proofs.lemmas.Slice.{first_rest}
use Rattle.sv_elab_watch.specs.Reading.{target_of, targets_of}
use Rattle.sv_elab_watch.proofs.ReadLaws.{turn_read}
use Rattle.sv_elab_watch.proofs.targets.add_targets.Goals as goal

pub loop-left-preserved : goal.loop-left-preserved
loop-left-preserved c =
    let rest = between 1 (length c.loop-left.left.now) c.loop-left.left.now in
    let all = first_rest c.loop-left.left.now c.one-item.result c.in-len1-up.len_at_least ∙ ap (λ p. p ∷ rest) (sym c.one-item.is) in
    turn_read (targets_of c.args.kind)
    (target_of c.args.kind c.one-item.result) c.args.depth c.loop-left.left.now rest c.one-item.result
    c.loop-left.list c.add_target.new.list all refl c.in_ok-add_target.ensures
    ∙ c.loop-left.invariant

use Rattle.std.proofs.Common.{◌∷◌, ◌++◌, ◌∙◌, map, length, sym, ap}
use Rattle.std.specs.List.{between}
use Rattle.std.proofs.lemmas.Slice.{first_rest}
use Rattle.sv_names.specs.Sources.{numbered}
use Rattle.sv_elab_writers.specs.Views.{process_in, source_in}
use Rattle.sv_elab_writers.proofs.FlatLaws.{source_turn, source_made}
use Rattle.sv_elab_writers.proofs.flattened.add_sources.Goals as goal

pub loop-left-preserved : goal.loop-left-preserved
loop-left-preserved c =
    let rest = between 1 (length c.loop-left.left.now) c.loop-left.left.now in
    let all = first_rest c.loop-left.left.now c.one-item.result c.in-len1-up.len_at_least ∙ ap (λ p. p ∷ rest) (sym c.one-item.is) in
    source_turn c.loop-left.numbered c.push.new.self _ (process_in c.one-item.result) (map process_in rest) c.in_ok-push.ensures.ok
    (source_made c.one-item.result _ (length c.loop-left.numbered) c.as_slice-in-len1-up.result (ap length c.as_slice.ensures)
    c.as_slice-in-len1-up.ensures)
    ∙ ap (λ ps. map source_in c.loop-left.numbered ++ numbered (length c.loop-left.numbered) (map process_in ps)) (sym all)
    ∙ c.loop-left.invariant

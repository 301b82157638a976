use Rattle.std.proofs.Common.{◌∷◌, ◌++◌, ◌∙◌, map, length, sym, ap}
use Rattle.std.specs.Prelude.{flat_map}
use Rattle.std.specs.List.{between}
use Rattle.std.proofs.lemmas.Slice.{first_rest}
use Rattle.sv_names.specs.Sources.{numbered}
use Rattle.sv_elab_writers.specs.Views.{process_in, met_in, source_in}
use Rattle.sv_elab_writers.proofs.FlatLaws.{sources_turn}
use Rattle.sv_elab_writers.proofs.flattened.sources_of.Goals as goal

pub loop-left-preserved : goal.loop-left-preserved
loop-left-preserved c =
    let rest = between 1 (length c.loop-left.left.now) c.loop-left.left.now in
    let all = first_rest c.loop-left.left.now c.one-item.result c.in-len1-up.len_at_least ∙ ap (λ p. p ∷ rest) (sym c.one-item.is) in
    sources_turn c.loop-left.numbered c.add_sources.new.numbered (map process_in c.one-item.result.processes)
    (flat_map (λ m. m.processes) (map met_in rest))
    (c.in_ok-add_sources.ensures
    ∙ ap (λ ps. map source_in c.loop-left.numbered ++ numbered (length c.loop-left.numbered) (map process_in ps)) c.as_slice.ensures)
    ∙ ap (λ ms. map source_in c.loop-left.numbered ++ numbered (length c.loop-left.numbered) (flat_map (λ m. m.processes) (map met_in ms))) (sym all)
    ∙ c.loop-left.invariant

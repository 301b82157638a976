use Rattle.std.proofs.Common.{◌∷◌, ◌++◌, ◌∙◌, map, length, sym, ap}
use Rattle.std.specs.Prelude.{flat_map}
use Rattle.std.specs.List.{between}
use Rattle.std.proofs.lemmas.Slice.{first_rest}
use Rattle.sv_names.specs.Writers.{writes_of}
use Rattle.sv_elab_writers.specs.Views.{source_in, write_in}
use Rattle.sv_elab_writers.proofs.WrittenLaws.{turn_written}
use Rattle.sv_elab_writers.proofs.writes.add_own_writes.Goals as goal

pub loop-left-preserved : goal.loop-left-preserved
loop-left-preserved c =
    let rest = between 1 (length c.loop-left.left.now) c.loop-left.left.now in
    let all = first_rest c.loop-left.left.now c.one-item.result c.in-len1-up.len_at_least ∙ ap (λ p. p ∷ rest) (sym c.one-item.is) in
    turn_written c.loop-left.writes c.add_writes.new.writes (writes_of (source_in c.one-item.result)) (flat_map writes_of (map source_in rest))
    c.in_ok-add_writes.ensures
    ∙ ap (λ ss. map write_in c.loop-left.writes ++ flat_map writes_of (map source_in ss)) (sym all)
    ∙ c.loop-left.invariant

use Rattle.std.proofs.Common.{◌∷◌, ◌++◌, ◌∙◌, map, length, sym, ap}
use Rattle.std.specs.Prelude.{flat_map}
use Rattle.std.specs.List.{between}
use Rattle.std.proofs.lemmas.Slice.{first_rest}
use Rattle.sv_elab_writers.specs.Laws.{strict_of}
use Rattle.sv_elab_writers.specs.Views.{write_in}
use Rattle.sv_elab_writers.proofs.WrittenLaws.{turn_written}
use Rattle.sv_elab_writers.proofs.clashes.strict_ones.Goals as goal

pub loop-left-preserved : goal.loop-left-preserved
loop-left-preserved c =
    let rest = between 1 (length c.loop-left.left.now) c.loop-left.left.now in
    let all = first_rest c.loop-left.left.now c.one-item.result c.in-len1-up.len_at_least ∙ ap (λ p. p ∷ rest) (sym c.one-item.is) in
    let strict = strict_of c.args.law in
    turn_written c.loop-left.strict c.add_strict.new.strict (strict (write_in c.one-item.result)) (flat_map strict (map write_in rest))
    c.in_ok-add_strict.ensures
    ∙ ap (λ ws. map write_in c.loop-left.strict ++ flat_map strict (map write_in ws)) (sym all)
    ∙ c.loop-left.invariant

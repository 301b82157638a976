-- One value after another.
use Rattle.std.proofs.Common.{ℕ, List, [], ◌∷◌, ◌++◌, length, sym, ap, ◌∙◌}
use Rattle.std.specs.List.{between}
use Rattle.std.proofs.lemmas.Slice.{first_rest}
use Rattle.sv_names.specs.Entries as entries
use Rattle.sv_elab_declare.specs.Given.{givens_in}
use Rattle.sv_elab_walk.specs.Givens.{kept_in}
use Rattle.sv_elab_walk.proofs.GivenLaws.{turn_kept}
use Rattle.sv_elab_walk.proofs.givens.givens_of.Goals as goal

pub loop-left-preserved : goal.loop-left-preserved
loop-left-preserved c =
    let rest = between 1 (length c.loop-left.left.now) c.loop-left.left.now in
    let all = first_rest c.loop-left.left.now c.one-item.result c.in-len1-up.len_at_least ∙ ap (λ p. p ∷ rest) (sym c.one-item.is) in
    turn_kept c.loop-left.list c.push.new.self _ c.one-item.result rest c.in_ok-push.ensures.ok
    (ap (λ (x : List ℕ). (x, entries.Given c.one-item.result.at c.one-item.result.value) ∷ []) c.bytes.ensures)
    ∙ ap (λ ks. givens_in c.loop-left.list ++ kept_in ks) (sym all)
    ∙ c.loop-left.invariant

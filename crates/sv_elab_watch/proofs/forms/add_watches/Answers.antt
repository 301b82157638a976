use Rattle.std.proofs.Common.{◌∷◌, ◌∙◌, List, length, refl, sym, ap}
use Rattle.std.specs.List.{between}
use Rattle.std.proofs.lemmas.Slice.{first_rest}
use Rattle.std.specs.Prelude.{flat_map}
use Rattle.sv_flat.specs.declared.process.Watch.{Watch}
use Rattle.sv_flat.specs.Names.{watch_exprs}
use Rattle.sv_elab_watch.proofs.ReadLaws.{turn_read}
use Rattle.sv_elab_watch.proofs.forms.add_watches.Goals as goal

pub loop-left-preserved : goal.loop-left-preserved
loop-left-preserved c =
    let rest = between 1 (length c.loop-left.left.now) c.loop-left.left.now in
    let all = first_rest c.loop-left.left.now c.one-item.result c.in-len1-up.len_at_least ∙ ap (λ p. p ∷ rest) (sym c.one-item.is) in
    turn_read (λ (ws : List Watch). flat_map watch_exprs ws)
    (watch_exprs c.one-item.result) c.args.depth c.loop-left.left.now rest c.one-item.result
    c.loop-left.list c.add_watch.new.list all refl c.in_ok-add_watch.ensures
    ∙ c.loop-left.invariant

use Rattle.std.proofs.Common.{◌∷◌, ◌∙◌, List, length, refl, sym, ap}
use Rattle.std.specs.List.{between}
use Rattle.std.proofs.lemmas.Slice.{first_rest}
use Rattle.std.specs.Prelude.{flat_map}
use Rattle.sv_flat.specs.declared.call.Call.{Call}
use Rattle.sv_flat.specs.Names.{call_exprs}
use Rattle.sv_names.specs.Watched.{operands}
use Rattle.sv_elab_watch.proofs.ReadLaws.{turn_of}
use Rattle.sv_elab_watch.proofs.calls.add_calls.Goals as goal

pub loop-left-preserved : goal.loop-left-preserved
loop-left-preserved c =
    let rest = between 1 (length c.loop-left.left.now) c.loop-left.left.now in
    let all = first_rest c.loop-left.left.now c.one-item.result c.in-len1-up.len_at_least ∙ ap (λ p. p ∷ rest) (sym c.one-item.is) in
    turn_of (λ (cs : List Call). flat_map (λ c'. flat_map (operands c.args.depth) (call_exprs c'.form)) cs)
    (flat_map (operands c.args.depth) (call_exprs c.one-item.result.form)) c.loop-left.left.now rest c.one-item.result
    c.loop-left.list c.add_call.new.list all refl c.in_ok-add_call.ensures
    ∙ c.loop-left.invariant

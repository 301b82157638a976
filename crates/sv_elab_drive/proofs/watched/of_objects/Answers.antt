use Rattle.std.proofs.Common.{rules, ◌≡◌, List, [], ◌∷◌, ◌++◌, sym, ap, ◌∙◌, append-nil}
use Rattle.std.specs.Prelude.{filter}
use Rattle.std.proofs.lemmas.List.{nil_from_length}
use Rattle.sv_flat.specs.Expr.{Expr}
use Rattle.sv_names.specs.Connections.{is_of_object}
use Rattle.sv_elab_drive.proofs.WatchedLaws.{kept_turn}
use Rattle.sv_elab_drive.proofs.watched.of_objects.Goals as goal

pub loop-operand-preserved : goal.loop-operand-preserved
loop-operand-preserved c =
    let all = c.loop-operand.operand-iterator.rest.items in
    let rest = c.next.new.self.rest.items in
    let first : all ≡ c.in-Some.operand ∷ rest = search rules in
    kept_turn all rest c.loop-operand.kept c.keep.new.kept c.in-Some.operand first c.in_ok-keep.ensures
    ∙ c.loop-operand.invariant

pub returns : goal.returns
returns c =
    let nothing : c.loop-operand.operand-iterator.rest.items ≡ [] =
    nil_from_length c.loop-operand.operand-iterator.rest.items (sym c.loop-operand.operand-iterator.rest.ok.0 ∙ c.in-None.ensures.steps.0) in
    sym (append-nil c.loop-operand.kept)
    ∙ sym (ap (λ (es : List Expr). c.loop-operand.kept ++ filter is_of_object es) nothing)
    ∙ c.loop-operand.invariant

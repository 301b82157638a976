use Rattle.std.proofs.Common.{sym, ◌∙◌}
use Rattle.sv_names.proofs.MarkLemmas.{mark-stays, mark-added}
use Rattle.sv_names.proofs.path_marks.add_mark.Goals as goal

pub returns-then-contains_key : goal.returns-then-contains_key
returns-then-contains_key c = λ ms long is. mark-stays c.args.index.now ms c.args.mark is (sym c.contains_key.ensures ∙ c.if-contains_key.true)

pub returns : goal.returns
returns c = λ ms long is.
    mark-added c.args.index.now ms c.args.mark is c.insert.new.self c.args.position long
    (sym c.contains_key.ensures ∙ c.if-contains_key.false) c.in_ok-insert.ensures.updates.0

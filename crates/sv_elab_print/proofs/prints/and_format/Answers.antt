use Rattle.std.proofs.Common.{List, Option, refl, sym, ap, ◌∙◌}
use Rattle.std.specs.Vec.Iter.{into_iter_items}
use Rattle.sv_value.specs.declared.operator.Piece.{Piece}
use Rattle.sv_names.specs.Checked.{broken_at}
use Rattle.sv_names.specs.Formats.{and_then}
use Rattle.sv_elab_print.specs.Printing.{format_shown}
use Rattle.sv_elab_print.proofs.prints.and_format.Goals as goal

pub returns-in_ok-printed-in-None-clause-ok : goal.returns-in_ok-printed-in-None-clause-ok
returns-in_ok-printed-in-None-clause-ok c =
    c.in_ok-printed-in-None.ensures.ok (broken_at 50 c.args.at) refl
    ∙ ap (λ (ps : Option (List Piece)). and_then c.args.done (format_shown c.args.at (into_iter_items c.args.args.now) ps)) (sym c.in-None.is)

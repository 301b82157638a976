use Rattle.std.proofs.Common.{◌≡◌, List, [], sym, ap, ◌∙◌}
use Rattle.std.specs.Vec.Iter.{into_iter_items}
use Rattle.std.proofs.lemmas.List.{nil_from_length}
use Rattle.sv_names.specs.declared.argument.Arg.{Arg}
use Rattle.sv_names.specs.Formats.{and_then, left_over}
use Rattle.sv_elab_print.proofs.PrintLaws.{then_last}
use Rattle.sv_elab_print.proofs.strings.left_over.Goals as goal

pub returns-clause-ok : goal.returns-clause-ok
returns-clause-ok c =
    let done = c.loop-a.printed in
    let nothing : into_iter_items c.loop-a.left ≡ [] =
    nil_from_length (into_iter_items c.loop-a.left) (sym c.loop-a.left.rest.ok.0 ∙ (c.in_default.ensures.cases).0) in
    sym (then_last done) ∙ sym (ap (λ (as' : List Arg). and_then done (left_over as')) nothing) ∙ c.loop-a.invariant

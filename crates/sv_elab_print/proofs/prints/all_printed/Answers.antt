use Rattle.std.proofs.Common.{◌≡◌, List, [], sym, subst, ap, ◌∙◌}
use Rattle.std.specs.Vec.Iter.{into_iter_items}
use Rattle.std.proofs.lemmas.List.{nil_from_length}
use Rattle.sv_names.specs.declared.argument.Arg.{Arg}
use Rattle.sv_names.specs.declared.checked.Checked.{Checked}
use Rattle.sv_names.specs.Formats.{Printed, and_then, all_printed}
use Rattle.sv_names.specs.Given.{Gives}
use Rattle.sv_elab_print.proofs.PrintLaws.{then_first, then_last}
use Rattle.sv_elab_print.proofs.prints.all_printed.Goals as goal

pub returns : goal.returns
returns c =
    let done = c.loop-a.printed in
    let nothing : into_iter_items c.loop-a.left ≡ [] =
    nil_from_length (into_iter_items c.loop-a.left) (sym c.loop-a.left.rest.ok.0 ∙ (c.in_default.ensures.cases).0) in
    subst (λ (p : Checked Printed). Gives c.answer.result p)
    (sym (then_last done)
    ∙ sym (ap (λ (as' : List Arg). and_then done (all_printed as')) nothing)
    ∙ c.loop-a.invariant
    ∙ ap (λ (p : Checked Printed). and_then p (all_printed (into_iter_items c.into_iter-left.result))) c.nothing-printed.ensures
    ∙ then_first (all_printed (into_iter_items c.into_iter-left.result))
    ∙ ap all_printed (c.into_iter-left.ensures.rest ∙ c.into_vec.ensures))
    c.answer.ensures

use Rattle.std.proofs.Common.{map, None, Some, ap, ◌∙◌}
use Rattle.sv_names.specs.Writers.{some}
use Rattle.sv_elab_writers.specs.Laws.{clashes}
use Rattle.sv_elab_writers.specs.Views.{write_in}
use Rattle.sv_elab_writers.proofs.MarkLaws.{clashes_marked}
use Rattle.sv_elab_writers.proofs.clashes.clashes_marked.Goals as goal

pub returns-in-Some : goal.returns-in-Some
returns-in-Some c = λ ws has.
    c.has_clash.ensures ∙ ap (λ vs. some (clashes c.args.law (write_in c.args.w)) (map write_in vs)) c.as_slice.ensures
    ∙ clashes_marked c.args.marked.now c.mark_of.result (Some c.in-Some.writes.now) c.in-Some.ensures.value ws has c.args.law (write_in c.args.w)
    c.mark_of.ensures

pub returns-in-None : goal.returns-in-None
returns-in-None c = λ ws has.
    clashes_marked c.args.marked.now c.mark_of.result None c.in-None.ensures.value ws has c.args.law (write_in c.args.w) c.mark_of.ensures

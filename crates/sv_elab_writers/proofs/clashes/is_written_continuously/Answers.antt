use Rattle.std.proofs.Common.{map, None, Some, ap, ◌∙◌}
use Rattle.sv_names.specs.Writers.{some}
use Rattle.sv_elab_writers.specs.Laws.{continues}
use Rattle.sv_elab_writers.specs.Views.{write_in}
use Rattle.sv_elab_writers.proofs.MarkLaws.{continues_marked}
use Rattle.sv_elab_writers.proofs.clashes.is_written_continuously.Goals as goal

pub returns-in-Some : goal.returns-in-Some
returns-in-Some c = λ ws has.
    c.is_continued.ensures ∙ ap (λ vs. some (continues c.args.object.now) (map write_in vs)) c.as_slice.ensures
    ∙ continues_marked c.args.marked.now c.mark_of.result (Some c.in-Some.writes.now) c.in-Some.ensures.value ws has c.args.object.now
    c.mark_of.ensures

pub returns-in-None : goal.returns-in-None
returns-in-None c = λ ws has.
    continues_marked c.args.marked.now c.mark_of.result None c.in-None.ensures.value ws has c.args.object.now c.mark_of.ensures

use Rattle.std.proofs.Common.{◌∙◌, List, sym, ap, map}
use Rattle.sv_names.specs.Writers.{touches_at}
use Rattle.sv_elab_writers.specs.declared.rows.Row.{Row}
use Rattle.sv_elab_writers.specs.Tables.{paths_of}
use Rattle.sv_elab_writers.specs.Views.{row_in}
use Rattle.sv_elab_writers.proofs.TableLaws.{touches_none, touches_some}
use Rattle.sv_elab_writers.proofs.table.Table.touches_at.Goals as goal

pub returns-in-None : goal.returns-in-None
returns-in-None c =
    touches_none c.args.path.now c.as_slice.result.now c.self.inside.paths c.position-position.result
    (c.self.invariant ∙ ap paths_of (sym c.as_slice.ensures)) c.position-position.ensures c.in-None.ensures.lookup.3
    ∙ ap (λ (rs : List Row). touches_at c.args.path.now (map row_in rs)) (c.as_slice.ensures ∙ c.self.view_is)

pub returns-in-Some : goal.returns-in-Some
returns-in-Some c =
    touches_some c.args.path.now c.as_slice.result.now c.self.inside.paths c.position-position.result
    (c.self.invariant ∙ ap paths_of (sym c.as_slice.ensures)) c.position-position.ensures c.in-Some.row.now c.in-Some.ensures.lookup.3.0
    c.in-Some.ensures.lookup.1
    ∙ ap (λ (rs : List Row). touches_at c.args.path.now (map row_in rs)) (c.as_slice.ensures ∙ c.self.view_is)

use Rattle.std.proofs.Common.{List, ap, sym, ◌∙◌}
use Rattle.sv_flat.specs.Expr as flat
use Rattle.sv_names.specs.declared.hoisted.Hoisted.{Hoisted}
use Rattle.sv_names.specs.Hoisted.{paired}
use Rattle.sv_names.specs.Targets.{Spot}
use Rattle.sv_elab_select.specs.Written.{reads_before}
use Rattle.sv_elab_select.proofs.Targeted.{reads_last}
use Rattle.sv_elab_select.proofs.written.reads_before.Goals as goal

pub loop-part-preserved : goal.loop-part-preserved
loop-part-preserved c =
    let xs = c.pop.new.self.items in
    let whole = c.loop-part.whole in
    ap (reads_before xs) c.in_ok-whole.ensures.ok
    ∙ ap (λ (e : Hoisted flat.Expr). reads_before xs (paired flat.Join e whole)) c.code_of.ensures
    ∙ sym (reads_last xs (c.in-Some.field-0-0, c.in-Some.part) whole)
    ∙ sym (ap (λ (ss : List Spot). reads_before ss whole) c.in-Some.ensures.items)
    ∙ c.loop-part.invariant

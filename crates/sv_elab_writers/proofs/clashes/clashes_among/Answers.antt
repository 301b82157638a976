use Rattle.std.proofs.Common.{sym, ◌∙◌}
use Rattle.std.specs.Prelude.{flat_map}
use Rattle.sv_elab_writers.specs.Laws.{strict_of}
use Rattle.sv_elab_writers.specs.Views.{write_in}
use Rattle.sv_elab_writers.proofs.StrictLaws.{among_strict}
use Rattle.sv_elab_writers.proofs.clashes.clashes_among.Goals as goal

pub returns : goal.returns
returns c = λ ws all strict.
    c.clashes_marked-2.ensures (flat_map (strict_of c.args.law) ws) strict
    ∙ among_strict c.args.law (write_in c.args.w) ws (sym c.is_strict.ensures ∙ c.if-is_strict.false)

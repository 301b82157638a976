use Rattle.sv_names.specs.Views.{around_in}
use Rattle.sv_elab_step.proofs.TypeLaws.{told_as_type}
use Rattle.sv_elab_step.proofs.words.type_told.Goals as goal

pub returns-clause-ok : goal.returns-clause-ok
returns-clause-ok c =
    told_as_type (around_in c.args.around.now) c.args.name.now c.args.fault c.bytes.result.now c.names_type.result c.told_at.result c.in_ok-told.told
    c.bytes.ensures c.names_type.ensures c.if-not-names_type.false c.told_at.ensures c.in_ok-told.ensures.ok

use Rattle.sv_names.specs.Views.{around_in}
use Rattle.sv_elab_step.proofs.TypeLaws.{type_behind}
use Rattle.sv_elab_step.proofs.words.type_of_post.Goals as goal

pub returns-else-is_empty-clause-ok : goal.returns-else-is_empty-clause-ok
returns-else-is_empty-clause-ok c =
    type_behind (around_in c.args.around.now) c.args.root.now c.args.suffixes.now c.is_empty.result c.is_empty.ensures c.if-is_empty.false

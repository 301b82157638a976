-- The rule, and what the connections break.
use Rattle.std.proofs.Common.{refl}
use Rattle.sv_tree.specs.UnitView.{instances}
use Rattle.sv_names.specs.Checked.{broken_at}
use Rattle.sv_names.specs.Items.{ports_alone}
use Rattle.sv_names.specs.Views.{around_in}
use Rattle.sv_elab_plain.proofs.instances.refused.Goals as goal

pub returns : goal.returns
returns c =
    c.where_also.ensures (broken_at c.args.rule c.args.of.now.of.at)
    (ports_alone (around_in c.args.around.now) (instances c.args.of.now).list) refl c.ports_alone.ensures

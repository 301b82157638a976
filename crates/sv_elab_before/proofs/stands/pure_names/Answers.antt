-- The object, the items and the arguments, one behind the other.
use Rattle.sv_tree.specs.UnitView.{head}
use Rattle.sv_elab_before.proofs.StandLaws.{pure_named}
use Rattle.sv_elab_before.proofs.stands.pure_names.Goals as goal

pub returns : goal.returns
returns c = λ is.
    pure_named c.args.class.now (head c.args.of.now) c.args.this.now c.new-names.result c.add_this.new.names c.add_result_items.new.names
    c.add_arguments.new.names is c.new-names.ensures c.in_ok-add_this.ensures c.in_ok-add_result_items.ensures c.in_ok-add_arguments.ensures

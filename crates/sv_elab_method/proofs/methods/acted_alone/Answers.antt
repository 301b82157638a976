use Rattle.std.proofs.Common.{[], refl}
use Rattle.sv_names.specs.declared.method.Action.TheVariants as action
use Rattle.sv_names.specs.Views.{around_in}
use Rattle.sv_elab_method.proofs.MethodLaws.{does}
use Rattle.sv_elab_method.proofs.methods.acted_alone.Goals as goal

pub returns-in-Pop : goal.returns-in-Pop
returns-in-Pop c =
    does (around_in c.args.around.now) c.args.at c.args.gives.now c.args.object [] c.pop.result _ c.args.action (action.Pop c.in-Pop.end) c.in-Pop.is refl
    (c.pop.ensures c.args.at)

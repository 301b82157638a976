use Rattle.std.proofs.Common.{◌≡◌, map, sym, subst}
use Rattle.std.specs.Prelude.{IfOk}
use Rattle.sv_names.specs.Views.{around_in}
use Rattle.sv_elab_connect.specs.declared.links.Linked.{Linked}
use Rattle.sv_elab_connect.specs.Links.{linked_in}
use Rattle.sv_elab_unit.specs.Ports.{port_in}
use Rattle.sv_elab_writers.specs.Views.{touch_in}
use Rattle.sv_elab_met.specs.Met as words
use Rattle.sv_elab_met.proofs.ports.output_written.Goals as goal

pub returns-in-Same : goal.returns-in-Same
returns-in-Same c =
    subst (λ (l : Linked). IfOk c.name_written.result (λ ts. map touch_in ts ≡ words.output_written (around_in c.args.around.now) (port_in c.args.port.now) (linked_in l)))
    (sym c.in-Same.is) c.name_written.ensures

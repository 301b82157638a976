use Rattle.std.proofs.Common.{List, ◌∷◌, ◌∙◌, map, length, sym, ap, subst}
use Rattle.std.specs.List.{between}
use Rattle.std.proofs.lemmas.Slice.{first_rest}
use Rattle.sv_tree.specs.declared.unit.Connection.{Connection}
use Rattle.sv_tree.specs.UnitView.{connection}
use Rattle.sv_names.specs.declared.checked.Checked.{Checked}
use Rattle.sv_names.specs.Connections.{connections_stand}
use Rattle.sv_names.specs.Given.{Gives}
use Rattle.sv_names.specs.Views.{around_in}
use Rattle.sv_elab_connect.specs.Fits.{connection_stands}
use Rattle.sv_elab_connect.proofs.FitLaws.{next_stands}
use Rattle.sv_elab_connect.proofs.stands.+connections_stand.Goals as goal

pub returns-in-len1-up : goal.returns-in-len1-up
returns-in-len1-up t c =
    let ar = around_in c.args.around.now in
    let rest = between 1 (length c.args.all.now) c.args.all.now in
    let all = first_rest c.args.all.now c.one-item.result c.in-len1-up.len_at_least ∙ ap (λ p. p ∷ rest) (sym c.one-item.is) in
    subst (λ (x : Checked (Unit {0})). Gives c.where_also.result x)
    (next_stands ar (connection c.one-item.result) (map connection rest)
    ∙ ap (λ (cs : List Connection). connections_stand ar (map connection cs)) (sym all))
    (c.where_also.ensures (connection_stands ar (connection c.one-item.result)) (connections_stand ar (map connection rest))
    c.one_stands-here.ensures c.connections_stand.ensures)

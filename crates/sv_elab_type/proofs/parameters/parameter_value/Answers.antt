use Rattle.std.proofs.Common.{sym, subst}
use Rattle.sv_value.specs.declared.place.Place.{Place}
use Rattle.sv_tree.specs.StmtView.{implied}
use Rattle.sv_names.specs.declared.checked.Checked.{Checked}
use Rattle.sv_names.specs.declared.typed.Typed.{Typed}
use Rattle.sv_names.specs.Checked.{◌▷◌, ◌where_also◌}
use Rattle.sv_names.specs.Declarations.{source_value, written_part}
use Rattle.sv_names.specs.Values.{constant}
use Rattle.sv_names.specs.Views.{around_in}
use Rattle.sv_names.specs.Given.{Gives}
use Rattle.sv_elab_scope.specs.Views.{source_in}
use Rattle.sv_elab_type.specs.Parameters.{valued}
use Rattle.sv_elab_type.proofs.parameters.parameter_value.Goals as goal

pub returns-in-Ok : goal.returns-in-Ok
returns-in-Ok c =
    let ar = around_in c.args.around.now in
    let p = c.args.path.now in
    let i = implied c.args.ty.now in
    let s = source_in c.args.source in
    let at = c.place_of_source-at.result in
    let value = c.constant_of-value.ensures (source_value ar s) c.source_value.ensures in
    let whole = c.in-Ok.ensures (source_value ar s ▷ constant at) (written_part ar p i) value c.written_part-written.ensures in
    let made = subst (λ (x : Checked Typed). Gives c.valued.result (x ▷ valued ar p at i)) (sym whole) c.valued.ensures in
    subst (λ (pl : Place). Gives c.valued.result (((source_value ar s ▷ constant pl) where_also written_part ar p i) ▷ valued ar p pl i)) c.place_of_source-at.ensures made

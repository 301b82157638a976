-- The design, the rules on time scales, and the rule that there is a root.
use Rattle.std.proofs.Common.{map, option_map, subst}
use Rattle.sv_flat.specs.declared.design.Scale.{Scale}
use Rattle.sv_tree.specs.UnitView.{description}
use Rattle.sv_names.specs.declared.checked.Checked.{Checked}
use Rattle.sv_names.specs.Checked.{◌where_also◌}
use Rattle.sv_names.specs.Design.{scale_of, scales_agree}
use Rattle.sv_names.specs.Given.{Gives}
use Rattle.sv_names.specs.Instances.{roots, some_root}
use Rattle.sv_elab_design.specs.Elaborating.{with_files}
use Rattle.sv_elab_design.proofs.elaborating.elaborated.Goals as goal

pub returns : goal.returns
returns c =
    let us = map description c.args.units.now in
    let ts = c.args.scales.now in
    let top = option_map (λ x. x.now) c.args.top in
    let parts = subst (λ (s : Scale). Gives c.with_files-parts.result (with_files s us top)) c.scale_of.ensures c.with_files-parts.ensures in
    let scales = subst (λ (x : Checked (Unit {0})). Gives c.answer.result x) c.scales_agree.ensures c.answer.ensures in
    let agreed = c.where_also-agreed.ensures (with_files (scale_of ts) us top) (scales_agree ts) parts scales in
    c.where_also.ensures (with_files (scale_of ts) us top where_also scales_agree ts) (some_root (roots us top)) agreed c.some_root.ensures

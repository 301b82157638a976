-- What all items give with the numbers is the design.
use Rattle.std.proofs.Common.{◌≡◌, ◌∙◌, ℕ, length, map, sym, ap, subst}
use Rattle.sv_tree.specs.UnitView.{description}
use Rattle.sv_names.specs.declared.checked.Checked.TheVariants.{Good}
use Rattle.sv_names.specs.Checked.{given}
use Rattle.sv_names.specs.Design.{finished, given_parts}
use Rattle.sv_names.specs.Given.{Fails}
use Rattle.sv_names.specs.Instances.{file_around}
use Rattle.sv_names.specs.Types.{Numbers}
use Rattle.sv_names.specs.Views.{numbers_in}
use Rattle.sv_elab_scope.specs.Rows.{group_in}
use Rattle.sv_elab_walk.specs.Insts.{walked_in}
use Rattle.sv_elab_design.specs.Elaborating.{paths}
use Rattle.sv_elab_design.proofs.ElaboratingLaws.{fails_given, stopped}
use Rattle.sv_elab_design.proofs.elaborating.numbered.Goals as goal

pub returns-in-Ok : goal.returns-in-Ok
returns-in-Ok c = λ n gs is.
    let us = map description c.args.units.now in
    let g = group_in c.args.group.now in
    let ws = map walked_in c.args.walked.now in
    let code = c.in-Ok.ensures in
    let places : length c.as_slice-places.result.now ≡ length (paths gs).subroutines = ap length (c.as_slice-places.ensures ∙ is.subroutines) in
    let made = finished c.args.scale ws in
    ap (λ (ns : Numbers). given (made (length (paths gs).subroutines)) (given_parts us (file_around ns c.args.scale g) g ws))
    (sym (c.in_ok-numbers.ensures n gs is))
    ∙ ap (given (made (length (paths gs).subroutines))) code.1 ∙ ap (λ (m : ℕ). Good (made m code.0)) (sym places)
    ∙ ap Good (sym (c.in_ok-parts-in-Ok.ensures code.0 code.2))

pub returns : goal.returns
returns c = λ n gs is.
    let us = map description c.args.units.now in
    let g = group_in c.args.group.now in
    let ws = map walked_in c.args.walked.now in
    let made = finished c.args.scale ws (length (paths gs).subroutines) in
    subst (λ (ns : Numbers). Fails c.in-Err.e (given made (given_parts us (file_around ns c.args.scale g) g ws))) (c.in_ok-numbers.ensures n gs is)
    (fails_given made (given_parts us (file_around (numbers_in c.in_ok-numbers.numbers) c.args.scale g) g ws) c.in-Err.e c.in-Err.ensures)

pub returns-in_err-parts-in-Ok : goal.returns-in_err-parts-in-Ok
returns-in_err-parts-in-Ok c = λ n gs is. stopped c.from_residual-in_err-parts-in-Ok.result _ c.from_residual-in_err-parts-in-Ok.ensures.1

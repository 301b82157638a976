-- The design of what is given, where its parts have the numbers that are foreseen; else with their own.
use Rattle.std.proofs.Common.{◌≡◌, ◌∙◌, List, Bool, true, false, if◌then◌else◌, length, map, sym, ap, subst}
use Rattle.sv_tree.specs.UnitView.{description}
use Rattle.sv_names.specs.declared.checked.Checked.TheVariants.{Good}
use Rattle.sv_names.specs.Design.{finished, foreseen, numbered, same_paths}
use Rattle.sv_names.specs.Given.{Gives}
use Rattle.sv_names.specs.Types.{Path}
use Rattle.sv_elab_scope.specs.Rows.{group_in}
use Rattle.sv_elab_walk.specs.Insts.{walked_in}
use Rattle.sv_elab_whole.specs.Collected.{IsGiven}
use Rattle.sv_elab_whole.specs.Numbering.{paths_so_far, plain_paths}
use Rattle.sv_elab_design.specs.Elaborating.{paths}
use Rattle.sv_elab_design.proofs.ElaboratingLaws.{foreseen_is}
use Rattle.sv_elab_design.proofs.elaborating.numbered_well.Goals as goal

pub returns-in_ok-parts : goal.returns-in_ok-parts
returns-in_ok-parts c = λ seen gs given.
    let us = map description c.args.units.now in
    let g = group_in c.args.group.now in
    let ws = map walked_in c.args.walked.now in
    let ns = c.args.numbers.now in
    let made = finished c.args.scale ws in
    let same : same_paths (foreseen us ws) (paths gs) ≡ true =
    foreseen_is us ws ns (length ns.subroutines) c.args.first gs true seen given
    (c.if-is_foreseen.ensures
    ∙ (λ j. same_paths (plain_paths (c.paths-objects.ensures j) (c.paths-subroutines.ensures j)) (paths_so_far c.args.first))) in
    ap (λ (b : Bool). if b then Good (made (length (foreseen us ws).subroutines) gs) else numbered c.args.scale us g ws (paths gs)) same
    ∙ ap (λ (rs : List Path). Good (made (length rs) gs)) (sym (c.paths-subroutines.ensures ∙ seen.subroutines))
    ∙ ap Good (sym (c.in_ok-parts.ensures gs (subst (λ (rs : List Path). IsGiven (length rs) c.args.first gs) (sym c.paths-subroutines.ensures) given)))

pub returns-else-is_foreseen : goal.returns-else-is_foreseen
returns-else-is_foreseen c = λ seen gs given.
    let us = map description c.args.units.now in
    let g = group_in c.args.group.now in
    let ws = map walked_in c.args.walked.now in
    let ns = c.args.numbers.now in
    let made = finished c.args.scale ws (length (foreseen us ws).subroutines) in
    let same : same_paths (foreseen us ws) (paths gs) ≡ false =
    foreseen_is us ws ns (length ns.subroutines) c.args.first gs false seen given
    (c.if-is_foreseen.ensures
    ∙ (λ j. same_paths (plain_paths (c.paths-objects.ensures j) (c.paths-subroutines.ensures j)) (paths_so_far c.args.first))) in
    subst (λ (b : Bool). Gives c.numbered.result (if b then Good (made gs) else numbered c.args.scale us g ws (paths gs))) (sym same)
    (c.numbered.ensures (length ns.subroutines) gs given)

-- The objects of a declaration.
use Rattle.std.proofs.Common.{List, map, refl, subst}
use Rattle.sv_tree.specs.StmtView as view
use Rattle.sv_tree.specs.declared.statement.Declarator.{Declarator}
use Rattle.sv_names.specs.Views.{around_in}
use Rattle.sv_elab_parts.specs.Adding.{Adding}
use Rattle.sv_elab_walk.specs.Insts.{inst_in}
use Rattle.sv_elab_plain.specs.Parts.{only_objects, variables_of}
use Rattle.sv_elab_item.proofs.GivenLaws.{objects_given}
use Rattle.sv_elab_item.proofs.items.add_decl.Goals as goal

pub returns : goal.returns
returns c =
    let x = c.args.so_far.now in
    let os' = c.add_variables.new.objects in
    let all = λ (ds : List Declarator). variables_of (around_in c.args.around.now) (inst_in c.args.inst.now).group (map view.declarator ds) in
    subst (λ (ds : List Declarator). Adding x (record x { objects = os' }) c.add_variables.result (only_objects (all ds)))
    c.as_slice.ensures.value
    (objects_given x os' c.add_variables.result (all c.as_slice.result.now) (c.add_variables.ensures (inst_in c.args.inst.now).group refl))

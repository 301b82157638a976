-- Nothing was there before.
use Rattle.sv_tree.specs.UnitView.{routine}
use Rattle.sv_names.specs.Entries.{subroutine_entries}
use Rattle.sv_elab_declare.specs.Alone.{class_in}
use Rattle.sv_elab_head.specs.Heads.{method_with}
use Rattle.sv_elab_before.proofs.StandLaws.{all_named}
use Rattle.sv_elab_before.proofs.stands.routine_names.Goals as goal

pub returns : goal.returns
returns c = λ is.
    let declared = subroutine_entries c.args.usual (class_in c.args.class) (method_with c.args.qualifiers (routine c.args.routine.now)) in
    all_named c.new-names.result c.add_subroutine.new.names declared c.new-names.ensures (c.in_ok-add_subroutine.ensures is)

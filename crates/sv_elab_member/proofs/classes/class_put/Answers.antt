-- The class stands behind its objects and its subroutines.
use Rattle.std.proofs.Common.{Result, subst}
use Rattle.sv_names.specs.declared.refusal.Refusal.{Refusal}
use Rattle.sv_names.specs.Items.{class_given}
use Rattle.sv_elab_member.specs.Parts.{given_by, parts_of}
use Rattle.sv_elab_member.specs.Putting.{Placing, Putting}
use Rattle.sv_elab_member.proofs.PartLaws.{class_added}
use Rattle.sv_elab_member.proofs.classes.class_put.Goals as goal

pub returns-in-Ok-subroutines : goal.returns-in-Ok-subroutines
returns-in-Ok-subroutines c = λ a b os ms apart placed put.
    let p = c.args.path.now in
    let k = c.args.class in
    let objects = subst (λ (r : Result (Unit {0}) Refusal). Placing a.objects b.objects r os) c.in-Ok.is placed in
    let subroutines = subst (λ (r : Result (Unit {0}) Refusal). Putting b c.args.so_far.now r ms) c.in-Ok-subroutines.is put in (
      class_given p (parts_of k (objects.0, subroutines.0)),
      (λ i. given_by p k (objects.1 i) (subroutines.1 i)),
      class_added a b c.args.so_far.now c.add_class.new.self p c.in_ok-path-in-Ok-subroutines.path k objects.0 subroutines.0 apart objects.2
          subroutines.2 c.in_ok-path-in-Ok-subroutines.ensures c.in_ok-add_class-in-Ok-subroutines.ensures,
    )

use Rattle.std.proofs.Common.{Result, List, subst}
use Rattle.sv_value.specs.declared.number.RoutineId.{RoutineId}
use Rattle.sv_names.specs.declared.refusal.Refusal.{Refusal}
use Rattle.sv_elab_flow.specs.Parts.{EmitsOf, EmitsRoutine, routines_of}
use Rattle.sv_elab_flow.proofs.Added.{next_emitted}
use Rattle.sv_elab_flow.proofs.sequence.and_routine.Goals as goal

pub returns-in-Ok-next : goal.returns-in-Ok-next
returns-in-Ok-next c at rs rs' rs'' os os' os'' xs x e f =
    let P : Result (List RoutineId) Refusal → Type 0 = λ r. EmitsOf (routines_of at) rs rs' os os' r xs in
    let Q : Result RoutineId Refusal → Type 0 = λ r. EmitsRoutine at rs' rs'' os' os'' r x in
    next_emitted at rs rs' rs'' os os' os'' c.in-Ok.ids c.in-Ok-next.next xs x c.put_last.result c.put_last.ensures.ok c.put_last.ensures.err
    (subst P c.in-Ok.is e) (subst Q c.in-Ok-next.is f)

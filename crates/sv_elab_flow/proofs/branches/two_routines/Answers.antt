use Rattle.std.proofs.Common.{Result, Ok, subst}
use Rattle.sv_value.specs.declared.number.RoutineId.{RoutineId}
use Rattle.sv_names.specs.declared.refusal.Refusal.{Refusal}
use Rattle.sv_names.specs.Checked.{both}
use Rattle.sv_names.specs.Code.{as_routine}
use Rattle.sv_elab_flow.specs.Parts.{EmitsRoutine}
use Rattle.sv_elab_flow.proofs.Added.{followed_made}
use Rattle.sv_elab_flow.proofs.branches.two_routines.Goals as goal

pub returns-in-Ok-b : goal.returns-in-Ok-b
returns-in-Ok-b c at rs rs' rs'' os os' os'' x y e f =
    let a = c.in-Ok.a in
    let b = c.in-Ok-b.b in
    let P : Result RoutineId Refusal → Type 0 = λ r. EmitsRoutine at rs rs' os os' r x in
    let Q : Result RoutineId Refusal → Type 0 = λ r. EmitsRoutine at rs' rs'' os' os'' r y in
    let first : EmitsRoutine at rs rs' os os' (Ok a) x = subst P c.in-Ok.is e in
    let second : EmitsRoutine at rs' rs'' os' os'' (Ok b) y = subst Q c.in-Ok-b.is f in
    let pair : RoutineId → RoutineId → RoutineId × RoutineId = λ u v. (u, v) in (
      (first.0, second.0),
      (λ i. both (first.1 i) (second.1 i)),
      followed_made pair rs rs' rs'' os os' os'' a b (as_routine at first.0) (as_routine at second.0) first.2 second.2,
    )

use Rattle.std.proofs.Common.{Result, Ok, List, Option, subst}
use Rattle.sv_value.specs.declared.number.RoutineId.{RoutineId}
use Rattle.sv_names.specs.declared.refusal.Refusal.{Refusal}
use Rattle.sv_names.specs.Checked.{both}
use Rattle.sv_names.specs.Emits.{Emits}
use Rattle.sv_names.specs.Statements.{first_routine}
use Rattle.sv_elab_flow.specs.Parts.{EmitsOf}
use Rattle.sv_elab_flow.proofs.Added.{followed_made}
use Rattle.sv_elab_flow.proofs.forks.fork_parts.Goals as goal

pub returns-in-Ok-children : goal.returns-in-Ok-children
returns-in-Ok-children c at rs rs' rs'' os os' os'' x xs e f =
    let a = c.in-Ok.initializers in
    let b = c.in-Ok-children.children in
    let P : Result (Option RoutineId) Refusal → Type 0 = λ r. EmitsOf (first_routine at) rs rs' os os' r x in
    let Q : Result (List RoutineId) Refusal → Type 0 = λ r. Emits rs' rs'' os' os'' r xs in
    let first : EmitsOf (first_routine at) rs rs' os os' (Ok a) x = subst P c.in-Ok.is e in
    let second : Emits rs' rs'' os' os'' (Ok b) xs = subst Q c.in-Ok-children.is f in
    let pair : Option RoutineId → List RoutineId → Option RoutineId × List RoutineId = λ u v. (u, v) in (
      (first.0, second.0),
      (λ i. both (first.1 i) (second.1 i)),
      followed_made pair rs rs' rs'' os os' os'' a b (first_routine at first.0) second.0 first.2 second.2,
    )

-- Assignments over what their parts give.
use Rattle.std.proofs.Common.{◌≡◌, ◌∙◌, Result, Option, List, ap, subst}
use Rattle.sv_flat.specs.declared.stmt.Form.{Form}
use Rattle.sv_tree.specs.Stmt.{Delay, Init}
use Rattle.sv_names.specs.declared.checked.Checked.{Checked}
use Rattle.sv_names.specs.declared.hoisted.Hoisted.{Hoisted}
use Rattle.sv_names.specs.declared.refusal.Refusal.{Refusal}
use Rattle.sv_names.specs.Assignments.{Amount, given_behind, delay_of, assignment}
use Rattle.sv_names.specs.Given.{Gives}
use Rattle.sv_names.specs.Named.{Around, behind}
use Rattle.sv_names.specs.Targets.{Spot, hidden_in_target}

-- an assignment over its delay
pub assignment_given : (ar i : Around) (t : Checked (List Spot)) (delay : Option Delay) (v : Init) (d : Checked (Option Amount))
    (r : Result (Hoisted Form) Refusal) → i ≡ behind (hidden_in_target t) ar → d ≡ delay_of i delay
    → Gives r (given_behind ar t d v) → Gives r (assignment ar t delay v)
assignment_given ar i t delay v d r of_place of_delay g =
    let path : given_behind ar t d v ≡ assignment ar t delay v =
    ap (λ (x : Checked (Option Amount)). given_behind ar t x v) (of_delay ∙ ap (λ (j : Around). delay_of j delay) of_place) in
    subst (λ (x : Checked (Hoisted Form)). Gives r x) path g

-- The ends of calls.
use Rattle.std.proofs.Common.{ℕ, ◌≡◌, List, [], ◌∷◌, ◌++◌, Option, None, Some, refl, ap, subst, sym, ◌∙◌, append-nil}
use Rattle.std.specs.Prelude.{Result, Ok, Err}
use Rattle.sv_value.specs.declared.place.FaultKind.{FaultKind}
use Rattle.sv_value.specs.declared.val.Val.{Val}
use Rattle.sv_flat.specs.declared.call.Argument.{Argument}
use Rattle.sv_flat.specs.declared.class.Formal.{Formal}
use Rattle.sv_flat.specs.declared.class.Subroutine.{Subroutine}
use Rattle.sv_flat.specs.declared.class.Variable.{Variable}
use Rattle.sv_flat.specs.declared.target.Lvalue.{Lvalue}
use Rattle.sv_flat.specs.declared.design.Parts.{Parts}
use Rattle.sv_flat.specs.State.{View, Name}
use Rattle.sv_flat.specs.Eval.{with_result}
use Rattle.sv_flat.specs.Targets.{spots_of, target_values}
use Rattle.sv_flat.specs.Process.{Todo, Output, Spot}
use Rattle.sv_flat.specs.Statements.Routines.{copied_out, given_value, left, output, outputs_of, result_given, variable_value}
use Rattle.sv_flat.specs.Statements.Shared.{Effects, fails, from_result, goes_on, result_write, written}
use Rattle.sv_assign.specs.Places.{spots_in}
use Rattle.sv_stack.specs.declared.effect.Effect.{Effect as Own_effect}
use Rattle.sv_stack.specs.declared.effect.Effect.TheVariants as effect
use Rattle.sv_assign.specs.declared.spot.Spot.{Spot as Own_spot}
use Rattle.sv_assign.specs.declared.spot.Spot.TheVariants as spot
use Rattle.sv_stack.specs.declared.frames.Frame.{Frame}
use Rattle.sv_stack.specs.Calls.{output_writes, return_of}
use Rattle.sv_stack.specs.Effects.{Leaves, behind, effects_in}
use Rattle.sv_process.proofs.AssignLemmas.{one_more}
use Rattle.sv_process.proofs.CallLemmas.{done, same, nothing_put, two_put, two_fault}

-- ---- an output

pub output_put : (before after : Effects) (x : Variable) (ts : List Lvalue) (callee caller : View) (ss : List Own_spot) (v : Val) (vs : List Val)
    → spots_of ts caller ≡ Ok (spots_in ss) → v ≡ variable_value x callee → vs ≡ target_values ts v → after ≡ before ++ written (spots_in ss) vs
    → behind before (output_writes x ts callee caller) ≡ Ok after
output_put before after x ts callee caller ss v vs places value values g =
    ap (λ r. behind before (with_result r (λ us. Ok (written us (target_values ts (variable_value x callee)))))) places
    ∙ ap done (sym (g ∙ ap (λ us. before ++ written (spots_in ss) us) (values ∙ ap (target_values ts) value)))

pub output_fault : (x : Variable) (ts : List Lvalue) (callee caller : View) (k : FaultKind) → spots_of ts caller ≡ Err k → output_writes x ts callee caller ≡ Err k
output_fault x ts callee caller k places = ap (λ r. with_result r (λ us. Ok (written us (target_values ts (variable_value x callee))))) places

-- ---- an argument

one_output : (x : Variable) (ts : List Lvalue) (callee caller : View) (places : Result (List Spot) FaultKind)
    → with_result places (λ ss. with_result (Ok []) (λ ws. Ok (written ss (target_values ts (variable_value x callee)) ++ ws)))
    ≡ with_result places (λ ss. Ok (written ss (target_values ts (variable_value x callee))))
one_output x ts callee caller (Ok ss) = ap done (append-nil (written ss (target_values ts (variable_value x callee))))
one_output x ts callee caller (Err k) = refl

-- an argument that is an output
pub is_output : (x : Variable) (o : Option (List Lvalue)) (ts : List Lvalue) (callee caller : View) → o ≡ Some ts
    → copied_out (output x o) callee caller ≡ output_writes x ts callee caller
is_output x o ts callee caller e = ap (λ o. copied_out (output x o) callee caller) e ∙ one_output x ts callee caller (spots_of ts caller)

-- and one that is none
pub no_output : (before : Effects) (x : Variable) (o : Option (List Lvalue)) (callee caller : View) → o ≡ None
    → behind before (copied_out (output x o) callee caller) ≡ Ok before
no_output before x o callee caller e = ap (λ o. behind before (copied_out (output x o) callee caller)) e ∙ nothing_put before

-- ---- the outputs

one_first : (a : Effects) (r : Result Effects FaultKind) → r ≡ with_result r (λ ws. Ok ([] ++ ws))
one_first a (Ok ws) = refl
one_first a (Err k) = refl

-- the copies of one output and of others
copied_one : (places : Result (List Spot) FaultKind) (vs : List Val) (rest : Result Effects FaultKind)
    → with_result places (λ ss. with_result rest (λ ws. Ok (written ss vs ++ ws)))
    ≡ with_result (with_result places (λ ss. with_result (Ok []) (λ ws. Ok (written ss vs ++ ws)))) (λ w. with_result rest (λ ws. Ok (w ++ ws)))
copied_one (Ok ss) vs (Ok ws) = ap (λ u. done (u ++ ws)) (sym (append-nil (written ss vs)))
copied_one (Ok ss) vs (Err k) = refl
copied_one (Err k) vs rest = refl

copied_two : (x : Variable) (o : Option (List Lvalue)) (os : List Output) (callee caller : View)
    → copied_out (output x o ++ os) callee caller
    ≡ with_result (copied_out (output x o) callee caller) (λ w. with_result (copied_out os callee caller) (λ ws. Ok (w ++ ws)))
copied_two x None os callee caller = one_first [] (copied_out os callee caller)
copied_two x (Some ts) os callee caller = copied_one (spots_of ts caller) (target_values ts (variable_value x callee)) (copied_out os callee caller)

-- one argument more
pub outputs_more : (before mid after : Effects) (fs gs : List Formal) (as' bs : List Argument) (f : Formal) (a : Argument) (callee caller : View)
    → fs ≡ f ∷ gs → as' ≡ a ∷ bs → behind before (copied_out (output f.variable a.targets) callee caller) ≡ Ok mid
    → behind mid (copied_out (outputs_of gs bs) callee caller) ≡ Ok after → behind before (copied_out (outputs_of fs as') callee caller) ≡ Ok after
outputs_more before mid after fs gs as' bs f a callee caller e g first more =
    (λ i. behind before (copied_out (outputs_of (e i) (g i)) callee caller))
    ∙ ap (behind before) (copied_two f.variable a.targets (outputs_of gs bs) callee caller)
    ∙ two_put before mid after (copied_out (output f.variable a.targets) callee caller) (copied_out (outputs_of gs bs) callee caller) first more

-- a fault of the first one
pub outputs_fault : (fs gs : List Formal) (as' bs : List Argument) (f : Formal) (a : Argument) (callee caller : View) (k : FaultKind)
    → fs ≡ f ∷ gs → as' ≡ a ∷ bs → copied_out (output f.variable a.targets) callee caller ≡ Err k → copied_out (outputs_of fs as') callee caller ≡ Err k
outputs_fault fs gs as' bs f a callee caller k e g first =
    (λ i. copied_out (outputs_of (e i) (g i)) callee caller) ∙ copied_two f.variable a.targets (outputs_of gs bs) callee caller
    ∙ ap (λ r. with_result r (λ w. with_result (copied_out (outputs_of gs bs) callee caller) (λ ws. Ok (w ++ ws)))) first

-- a fault of another one
pub outputs_later_fault : (before mid : Effects) (fs gs : List Formal) (as' bs : List Argument) (f : Formal) (a : Argument) (callee caller : View) (k : FaultKind)
    → fs ≡ f ∷ gs → as' ≡ a ∷ bs → behind before (copied_out (output f.variable a.targets) callee caller) ≡ Ok mid
    → copied_out (outputs_of gs bs) callee caller ≡ Err k → copied_out (outputs_of fs as') callee caller ≡ Err k
outputs_later_fault before mid fs gs as' bs f a callee caller k e g first more =
    (λ i. copied_out (outputs_of (e i) (g i)) callee caller) ∙ copied_two f.variable a.targets (outputs_of gs bs) callee caller
    ∙ two_fault before mid (copied_out (output f.variable a.targets) callee caller) (copied_out (outputs_of gs bs) callee caller) k first more

-- ---- the result

-- no hidden variable takes the result
pub no_result : (before : Effects) (hidden : Option ℕ) (caller : Option Name) (x : Val) → hidden ≡ None → before ≡ before ++ result_write hidden caller x
no_result before hidden caller x e = sym (ap (λ h. before ++ result_write h caller x) e ∙ append-nil before)

-- nothing takes it outside of all activations
pub no_caller : (before : Effects) (hidden : Option ℕ) (caller : Option Name) (x : Val) → caller ≡ None → before ≡ before ++ result_write hidden caller x
no_caller before None caller x e = sym (append-nil before)
no_caller before (Some i) caller x e = sym (ap (λ c. before ++ result_write (Some i) c x) e ∙ append-nil before)

pub a_result : (d : Parts) (es more : List Own_effect) (hidden : Option ℕ) (caller : Option Name) (x y : Val) (i : ℕ) (n : Name)
    → hidden ≡ Some i → caller ≡ Some n → y ≡ x → more ≡ es ++ effect.Write (spot.Variable n i None) y ∷ []
    → effects_in d more ≡ effects_in d es ++ result_write hidden caller x
a_result d es more hidden caller x y i n e g value h =
    one_more d es more (effect.Write (spot.Variable n i None) y) h
    ∙ sym (λ j. effects_in d es ++ result_write (e j) (g j) (sym value j))

-- ---- the end

ended_with : (copies : Result Effects FaultKind) (mid after write : Effects) (ts us : List Todo) → behind [] copies ≡ Ok mid → after ≡ mid ++ write → us ≡ ts
    → goes_on us after ≡ from_result copies (λ ws. goes_on ts (ws ++ write))
ended_with (Err k) mid after write ts us h g e = cc
ended_with (Ok ws) mid after write ts us h g e =
    let all : after ≡ ws ++ write = g ∙ ap (λ u. u ++ write) (sym (same ws mid h)) in
    λ i. goes_on (e i) (all i)

pub left_is : (d : Parts) (fs : List Frame) (es : List Own_effect) (u : Subroutine) (as' : List Argument) (hidden : Option ℕ) (inner outer : Option Name) (callee caller : View)
    (before mid after : Effects) (ts us : List Todo) → before ≡ []
    → behind before (copied_out (outputs_of u.formals as') callee caller) ≡ Ok mid
    → after ≡ mid ++ result_write hidden outer (given_value (result_given u.result) callee) → us ≡ ts
    → Leaves d fs es (goes_on us after) → Leaves d fs es (left (return_of u as' hidden inner outer) callee caller ts)
left_is d fs es u as' hidden inner outer callee caller before mid after ts us none copies result rest h =
    subst (Leaves d fs es) (ended_with (copied_out (outputs_of u.formals as') callee caller) mid after (result_write hidden outer (given_value (result_given u.result) callee)) ts us
    (ap (λ b. behind b (copied_out (outputs_of u.formals as') callee caller)) (sym none) ∙ copies) result rest) h

pub left_fault : (u : Subroutine) (as' : List Argument) (hidden : Option ℕ) (inner outer : Option Name) (callee caller : View) (ts : List Todo) (k : FaultKind)
    → copied_out (outputs_of u.formals as') callee caller ≡ Err k → left (return_of u as' hidden inner outer) callee caller ts ≡ fails k
left_fault u as' hidden inner outer callee caller ts k copies =
    ap (λ r. from_result r (λ ws. goes_on ts (ws ++ result_write hidden outer (given_value (result_given u.result) callee)))) copies

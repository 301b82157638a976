-- Calls of tasks and functions.
use Rattle.std.proofs.Common.{ℕ, ◌≡◌, Bool, List, [], ◌∷◌, ◌++◌, Option, None, Some, true, false, refl, ap, subst, sym, ◌∙◌, append-nil, append_assoc}
use Rattle.std.specs.Prelude.{if◌then◌else◌, Result, Ok, Err, nat_le}
use Rattle.sv_value.specs.declared.number.RoutineId.{RoutineId}
use Rattle.sv_value.specs.declared.place.FaultKind.{FaultKind}
use Rattle.sv_value.specs.declared.place.FaultKind.TheVariants as fault
use Rattle.sv_value.specs.declared.val.Val.{Val}
use Rattle.sv_flat.specs.declared.call.Argument.{Argument}
use Rattle.sv_flat.specs.declared.class.Formal.{Formal}
use Rattle.sv_flat.specs.declared.class.Subroutine.{Subroutine}
use Rattle.sv_flat.specs.declared.stmt.Stmt.{Stmt}
use Rattle.sv_flat.specs.declared.design.Parts.{Parts}
use Rattle.sv_flat.specs.Expr.{Expr}
use Rattle.sv_flat.specs.State.{View, Name}
use Rattle.sv_flat.specs.Eval.{value_of, with_result}
use Rattle.sv_flat.specs.Targets.{as_type}
use Rattle.sv_flat.specs.Process.{Todo, Leave, Enter, Write, routine_of, body_in, types_of}
use Rattle.sv_flat.specs.Statements.Jumps.{open_calls}
use Rattle.sv_flat.specs.Statements.Routines.{activation_entered, argument_write, argument_writes, callee_name, needs_activation, subroutine_called, variable_spot}
use Rattle.sv_flat.specs.Statements.Shared.{Effects, Site, fails, from_result, goes_on}
use Rattle.sv_assign.specs.declared.spot.Spot.{Spot as Own_spot}
use Rattle.sv_assign.specs.Places.{spot_in}
use Rattle.sv_built.specs.declared.entered.Entered.TheVariants as entered
use Rattle.sv_built.specs.Entered.{types_of_call}
use Rattle.sv_stack.specs.declared.effect.Effect.{Effect as Own_effect}
use Rattle.sv_stack.specs.declared.effect.Effect.TheVariants as effect
use Rattle.sv_stack.specs.declared.frames.Frame.{Frame}
use Rattle.sv_stack.specs.Calls.{left_after, return_of}
use Rattle.sv_stack.specs.Effects.{Leaves, behind, effects_in}
use Rattle.sv_process.proofs.AssignLemmas.{one_more}

-- ---- effects behind others

-- effects without a fault
abbrev pub done : Effects → Result Effects FaultKind
done es = Ok es

pub same : (xs ys : Effects) → done xs ≡ done ys → xs ≡ ys
same xs ys h = cc

-- no effect
pub nothing_put : (before : Effects) → behind before (Ok []) ≡ Ok before
nothing_put before = ap done (append-nil before)

-- the first effects, and then the others
pub two_put : (before mid after : Effects) (first more : Result Effects FaultKind) → behind before first ≡ Ok mid → behind mid more ≡ Ok after
    → behind before (with_result first (λ w. with_result more (λ ws. Ok (w ++ ws)))) ≡ Ok after
two_put before mid after (Err k) more h g = cc
two_put before mid after (Ok w) (Err k) h g = cc
two_put before mid after (Ok w) (Ok ws) h g = ap done (sym (append_assoc before w ws) ∙ ap (λ u. u ++ ws) (same (before ++ w) mid h)) ∙ g

-- a fault of the others
pub two_fault : (before mid : Effects) (first more : Result Effects FaultKind) (k : FaultKind) → behind before first ≡ Ok mid → more ≡ Err k
    → with_result first (λ w. with_result more (λ ws. Ok (w ++ ws))) ≡ Err k
two_fault before mid (Err j) more k h g = cc
two_fault before mid (Ok w) more k h g = ap (λ r. with_result r (λ ws. Ok (w ++ ws))) g

-- ---- the activation

pub with_activation : (d : Parts) (es more : List Own_effect) (r : RoutineId) (s : Subroutine) → (routine_of d r).subroutine ≡ Some s → needs_activation s ≡ true
    → more ≡ es ++ effect.Enter (entered.Call r) None ∷ [] → effects_in d more ≡ effects_in d es ++ activation_entered s
with_activation d es more r s found needs e =
    one_more d es more (effect.Enter (entered.Call r) None) e
    ∙ ap (λ u. effects_in d es ++ u) (ap (λ o. Enter (types_of_call o) None ∷ []) found
    ∙ sym (ap (λ (b : Bool). if b then Enter (types_of s.locals) None ∷ [] else []) needs))

pub without_activation : (d : Parts) (es : List Own_effect) (s : Subroutine) → needs_activation s ≡ false → effects_in d es ≡ effects_in d es ++ activation_entered s
without_activation d es s needs =
    sym (ap (λ u. effects_in d es ++ u) (ap (λ (b : Bool). if b then Enter (types_of s.locals) None ∷ [] else []) needs) ∙ append-nil (effects_in d es))

-- ---- the inputs

pub no_input : (before : Effects) (f : Formal) (o : Option Expr) (v : View) (callee : Option Name) → o ≡ None → behind before (argument_write f o v callee) ≡ Ok before
no_input before f o v callee e = ap (λ o. behind before (argument_write f o v callee)) e ∙ nothing_put before

pub an_input : (d : Parts) (es more : List Own_effect) (f : Formal) (o : Option Expr) (e : Expr) (v : View) (callee : Option Name) (x y : Val) (s : Own_spot)
    → o ≡ Some e → value_of e v ≡ Ok x → y ≡ as_type f.ty x → spot_in s ≡ variable_spot f.variable callee → more ≡ es ++ effect.Write s y ∷ []
    → behind (effects_in d es) (argument_write f o v callee) ≡ Ok (effects_in d more)
an_input d es more f o e v callee x y s is value typed place g =
    ap (λ o. behind (effects_in d es) (argument_write f o v callee)) is
    ∙ ap (λ r. behind (effects_in d es) (with_result r (λ x. Ok (Write (variable_spot f.variable callee) (as_type f.ty x) ∷ [])))) value
    ∙ ap done (sym (one_more d es more (effect.Write s y) g ∙ (λ i. effects_in d es ++ Write (place i) (typed i) ∷ [])))

pub input_fault : (f : Formal) (o : Option Expr) (e : Expr) (v : View) (callee : Option Name) (k : FaultKind) → o ≡ Some e → value_of e v ≡ Err k
    → argument_write f o v callee ≡ Err k
input_fault f o e v callee k is value =
    ap (λ o. argument_write f o v callee) is ∙ ap (λ r. with_result r (λ x. Ok (Write (variable_spot f.variable callee) (as_type f.ty x) ∷ []))) value

-- one input more
pub inputs_more : (before mid after : Effects) (fs gs : List Formal) (as' bs : List Argument) (f : Formal) (a : Argument) (v : View) (callee : Option Name)
    → fs ≡ f ∷ gs → as' ≡ a ∷ bs → behind before (argument_write f a.value v callee) ≡ Ok mid → behind mid (argument_writes gs bs v callee) ≡ Ok after
    → behind before (argument_writes fs as' v callee) ≡ Ok after
inputs_more before mid after fs gs as' bs f a v callee e g first more =
    (λ i. behind before (argument_writes (e i) (g i) v callee))
    ∙ two_put before mid after (argument_write f a.value v callee) (argument_writes gs bs v callee) first more

-- a fault of the first one
pub inputs_fault : (fs gs : List Formal) (as' bs : List Argument) (f : Formal) (a : Argument) (v : View) (callee : Option Name) (k : FaultKind)
    → fs ≡ f ∷ gs → as' ≡ a ∷ bs → argument_write f a.value v callee ≡ Err k → argument_writes fs as' v callee ≡ Err k
inputs_fault fs gs as' bs f a v callee k e g first =
    (λ i. argument_writes (e i) (g i) v callee) ∙ ap (λ r. with_result r (λ w. with_result (argument_writes gs bs v callee) (λ ws. Ok (w ++ ws)))) first

-- a fault of another one
pub inputs_later_fault : (before mid : Effects) (fs gs : List Formal) (as' bs : List Argument) (f : Formal) (a : Argument) (v : View) (callee : Option Name) (k : FaultKind)
    → fs ≡ f ∷ gs → as' ≡ a ∷ bs → behind before (argument_write f a.value v callee) ≡ Ok mid → argument_writes gs bs v callee ≡ Err k
    → argument_writes fs as' v callee ≡ Err k
inputs_later_fault before mid fs gs as' bs f a v callee k e g first more =
    (λ i. argument_writes (e i) (g i) v callee)
    ∙ two_fault before mid (argument_write f a.value v callee) (argument_writes gs bs v callee) k first more

-- ---- what is left to run

-- what is left of the statement is no end of a call
pub rest_open : (s : Option Stmt) (n : Option ℕ) (outer hidden : Option Name) (ts : List Todo) → open_calls (left_after s n outer hidden ++ ts) ≡ open_calls ts
rest_open s None outer hidden ts = refl
rest_open None (Some n) outer hidden ts = refl
rest_open (Some s) (Some n) outer hidden ts = refl

-- ---- the call

-- what a call does with the writes of its inputs
abbrev pub called_with : Parts → Site → RoutineId → List Argument → Subroutine → Result Effects FaultKind → Effects
called_with d here r as' u inputs =
    from_result inputs (λ ws. goes_on (body_in d r (callee_name u here.next)
    ++ Leave here.at (return_of u as' here.hidden (callee_name u here.next) here.scope) ∷ here.rest) ((activation_entered u ++ []) ++ ws))

-- a call, by whether too many are open
called_by : (d : Parts) (here : Site) (r : RoutineId) (as' : List Argument) (u : Subroutine) (b : Bool) → nat_le 1000 (open_calls here.rest) ≡ b
    → subroutine_called d here r as' None [] u
    ≡ (if b then fails fault.Depth else called_with d here r as' u (argument_writes u.formals as' here.view (callee_name u here.next)))
called_by d here r as' u b deep =
    ap (λ (b : Bool). if b then fails fault.Depth else called_with d here r as' u (argument_writes u.formals as' here.view (callee_name u here.next))) deep

-- too many calls are open
pub too_deep : (d : Parts) (here : Site) (r : RoutineId) (as' : List Argument) (u : Subroutine) → nat_le 1000 (open_calls here.rest) ≡ true
    → subroutine_called d here r as' None [] u ≡ fails fault.Depth
too_deep d here r as' u deep = called_by d here r as' u true deep

-- an input meets a fault
pub call_fault : (d : Parts) (here : Site) (r : RoutineId) (as' : List Argument) (u : Subroutine) (k : FaultKind) → nat_le 1000 (open_calls here.rest) ≡ false
    → argument_writes u.formals as' here.view (callee_name u here.next) ≡ Err k → subroutine_called d here r as' None [] u ≡ fails k
call_fault d here r as' u k deep inputs = called_by d here r as' u false deep ∙ ap (called_with d here r as' u) inputs

with_inputs : (d : Parts) (here : Site) (r : RoutineId) (as' : List Argument) (u : Subroutine) (inputs : Result Effects FaultKind) (after : Effects) (todos : List Todo)
    → behind (activation_entered u) inputs ≡ Ok after
    → todos ≡ body_in d r (callee_name u here.next) ++ Leave here.at (return_of u as' here.hidden (callee_name u here.next) here.scope) ∷ here.rest
    → goes_on todos after ≡ called_with d here r as' u inputs
with_inputs d here r as' u (Err k) after todos h e = cc
with_inputs d here r as' u (Ok ws) after todos h e =
    let all : after ≡ (activation_entered u ++ []) ++ ws = sym (same (activation_entered u ++ ws) after h) ∙ ap (λ b. b ++ ws) (sym (append-nil (activation_entered u))) in
    λ i. goes_on (e i) (all i)

-- the body begins
pub call_begun : (d : Parts) (fs : List Frame) (es : List Own_effect) (here : Site) (r : RoutineId) (as' : List Argument) (u : Subroutine) (before after : Effects) (todos : List Todo)
    → nat_le 1000 (open_calls here.rest) ≡ false → before ≡ activation_entered u
    → behind before (argument_writes u.formals as' here.view (callee_name u here.next)) ≡ Ok after
    → todos ≡ body_in d r (callee_name u here.next) ++ Leave here.at (return_of u as' here.hidden (callee_name u here.next) here.scope) ∷ here.rest
    → Leaves d fs es (goes_on todos after) → Leaves d fs es (subroutine_called d here r as' None [] u)
call_begun d fs es here r as' u before after todos deep entered inputs left h =
    let ws = argument_writes u.formals as' here.view (callee_name u here.next) in
    subst (Leaves d fs es) (with_inputs d here r as' u ws after todos (ap (λ b. behind b ws) (sym entered) ∙ inputs) left ∙ sym (called_by d here r as' u false deep)) h

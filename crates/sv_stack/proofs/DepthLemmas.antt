-- How many calls are open.
use Rattle.std.proofs.Common.{ℕ, ◌≡◌, ◌+◌, ◌<◌, ◌≤◌, Bool, List, [], ◌∷◌, ◌++◌, Option, None, Some, true, false, refl, ap, sym, ◌∙◌, arith, length, drop, map, reverse, take, get_or}
use Rattle.std.specs.Prelude.{if◌then◌else◌, nat_le}
use Rattle.std.proofs.lemmas.Bool.Decides.{nat_tests}
use Rattle.std.proofs.lemmas.List.{length-reverse, take_more}
use Rattle.sv_value.specs.declared.place.Place.{Place}
use Rattle.sv_value.specs.declared.val.Val.{Val}
use Rattle.sv_flat.specs.declared.call.Argument.{Argument}
use Rattle.sv_flat.specs.declared.call.Call.{Call}
use Rattle.sv_flat.specs.declared.call.CallForm.{CallForm}
use Rattle.sv_flat.specs.declared.call.CallForm.TheVariants as call
use Rattle.sv_flat.specs.declared.class.Subroutine.{Subroutine}
use Rattle.sv_flat.specs.declared.stmt.Stmt.{Stmt}
use Rattle.sv_flat.specs.declared.stmt.Form.{Form}
use Rattle.sv_flat.specs.declared.stmt.Form.TheVariants as form
use Rattle.sv_flat.specs.declared.design.Parts.{Parts}
use Rattle.sv_flat.specs.State.{Name}
use Rattle.sv_flat.specs.Process.{Todo, routine_of}
use Rattle.sv_flat.specs.Statements.Jumps.{open_calls}
use Rattle.sv_built.specs.Positions.{body_of, stmt_at}
use Rattle.sv_stack.specs.declared.frames.Frame.{Frame}
use Rattle.sv_stack.specs.declared.frames.Frame.TheVariants as frame
use Rattle.sv_stack.specs.Calls.{called_at, call_in, end_at, end_of_call, end_of_form, end_of_routine}
use Rattle.sv_stack.specs.Frames.{to_do, turn_at, turns_of, turns_at, elements_at, put_of, put_at, children_of, children_at, todos_in, todos_of, ends_in, ends_of, is_end, is_more}
use Rattle.sv_stack.proofs.FrameLemmas.{push_first}

-- one where something holds
abbrev pub one_if : Bool → ℕ
one_if b = if b then 1 else 0

-- ---- the calls that an entry holds open

open_stmts : (ss : List Stmt) (scope : Option Name) (ts : List Todo) → open_calls (map (to_do scope) ss ++ ts) ≡ open_calls ts
open_stmts [] scope ts = refl
open_stmts (s ∷ ss) scope ts = open_stmts ss scope ts

open_turn : (o : Option Stmt) (scope : Option Name) (ts : List Todo) → open_calls (turn_at o scope ++ ts) ≡ open_calls ts
open_turn None scope ts = refl
open_turn (Some s) scope ts = refl

open_turns : (o : Option Stmt) (n : ℕ) (scope : Option Name) (ts : List Todo) → open_calls (turns_at o n scope ++ ts) ≡ open_calls ts
open_turns None n scope ts = refl
open_turns (Some s) n scope ts = by_form s.at s.form
  where
    by_form : (at : Place) (f : Form) → open_calls (turns_of at f n scope ++ ts) ≡ open_calls ts
    by_form at (form.Repeat e body) = refl
    by_form at f = refl

open_elements : (o : Option Stmt) (n : ℕ) (scope : Option Name) (ts : List Todo) → open_calls (elements_at o n scope ++ ts) ≡ open_calls ts
open_elements None n scope ts = refl
open_elements (Some s) n scope ts = refl

open_put : (o : Option Stmt) (x : Val) (scope : Option Name) (ts : List Todo) → open_calls (put_at o x scope ++ ts) ≡ open_calls ts
open_put None x scope ts = refl
open_put (Some s) x scope ts = by_form s.at s.form
  where
    by_form : (at : Place) (f : Form) → open_calls (put_of at f x scope ++ ts) ≡ open_calls ts
    by_form at (form.AssignAfter to e delay in_ticks) = refl
    by_form at f = refl

open_children : (o : Option Stmt) (scope : Option Name) (ts : List Todo) → open_calls (children_at o scope ++ ts) ≡ open_calls ts
open_children None scope ts = refl
open_children (Some s) scope ts = by_form s.at s.form
  where
    by_form : (at : Place) (f : Form) → open_calls (children_of at f scope ++ ts) ≡ open_calls ts
    by_form at (form.Fork vs initializers children join) = refl
    by_form at f = refl

open_called : (o : Option Stmt) (n : ℕ) (outer hidden : Option Name) (ts : List Todo) → open_calls (called_at o n outer hidden ++ ts) ≡ open_calls ts
open_called None n outer hidden ts = refl
open_called (Some s) n outer hidden ts = refl

none_more : (n : ℕ) → n ≡ 0 + n
none_more n = omega arith

open_routine : (at : Place) (hidden : Option ℕ) (as' : List Argument) (callee caller : Option Name) (u : Option Subroutine) (ts : List Todo)
    → open_calls (end_of_routine at hidden as' callee caller u ++ ts) ≡ one_if (is_more (end_of_routine at hidden as' callee caller u)) + open_calls ts
open_routine at hidden as' callee caller None ts = none_more (open_calls ts)
open_routine at hidden as' callee caller (Some u) ts = refl

open_form : (d : Parts) (at : Place) (hidden : Option ℕ) (f : CallForm) (callee caller : Option Name) (ts : List Todo)
    → open_calls (end_of_form d at hidden f callee caller ++ ts) ≡ one_if (is_more (end_of_form d at hidden f callee caller)) + open_calls ts
open_form d at hidden (call.Routine r None as') callee caller ts = open_routine at hidden as' callee caller (routine_of d r).subroutine ts
open_form d at hidden f callee caller ts = none_more (open_calls ts)

open_call : (d : Parts) (at : Place) (c : Option Call) (callee caller : Option Name) (ts : List Todo)
    → open_calls (end_of_call d at c callee caller ++ ts) ≡ one_if (is_more (end_of_call d at c callee caller)) + open_calls ts
open_call d at None callee caller ts = none_more (open_calls ts)
open_call d at (Some c) callee caller ts = open_form d at c.result c.form callee caller ts

open_end : (d : Parts) (o : Option Stmt) (n : Option ℕ) (callee caller : Option Name) (ts : List Todo)
    → open_calls (end_at d o n callee caller ++ ts) ≡ one_if (is_more (end_at d o n callee caller)) + open_calls ts
open_end d None n callee caller ts = none_more (open_calls ts)
open_end d (Some s) n callee caller ts = open_call d s.at (call_in s n) callee caller ts

-- an entry holds one call open where it is the end of a call
pub open_in : (d : Parts) (f : Frame) (ts : List Todo) → open_calls (todos_in d f ++ ts) ≡ one_if (is_end d f) + open_calls ts
open_in d (frame.Rest p scope) ts = open_stmts (drop p.place (body_of d p.routine)) scope ts ∙ none_more (open_calls ts)
open_in d (frame.Loop p scope) ts = open_turn (stmt_at d p) scope ts ∙ none_more (open_calls ts)
open_in d (frame.Turns p n scope) ts = open_turns (stmt_at d p) n scope ts ∙ none_more (open_calls ts)
open_in d (frame.Elements p n scope) ts = open_elements (stmt_at d p) n scope ts ∙ none_more (open_calls ts)
open_in d (frame.Put p x scope) ts = open_put (stmt_at d p) x scope ts ∙ none_more (open_calls ts)
open_in d (frame.Children p scope) ts = open_children (stmt_at d p) scope ts ∙ none_more (open_calls ts)
open_in d (frame.Called p n outer hidden) ts = open_called (stmt_at d p) n outer hidden ts ∙ none_more (open_calls ts)
open_in d (frame.Leave p n callee caller) ts = open_end d (stmt_at d p) n callee caller ts

-- ---- a stack

-- an entry more
pub open_more : (d : Parts) (xs ys : List Frame) (f : Frame) (b : Bool) → ys ≡ xs ++ f ∷ [] → is_end d f ≡ b
    → open_calls (todos_of d (reverse ys)) ≡ one_if b + open_calls (todos_of d (reverse xs))
open_more d xs ys f b e g =
    ap (λ (u : List Frame). open_calls (todos_of d (reverse u))) e ∙ ap (λ (u : List Frame). open_calls (todos_of d u)) (push_first xs f)
    ∙ open_in d f (todos_of d (reverse xs)) ∙ ap (λ (u : Bool). one_if u + open_calls (todos_of d (reverse xs))) g

-- the next entry of a stack
pub open_next : (d : Parts) (xs : List Frame) (i : ℕ) (f : Frame) (b a : Bool) → i < length xs → f ≡ get_or xs i f → b ≡ is_end d f → b ≡ a
    → open_calls (todos_of d (reverse (take (i + 1) xs))) ≡ one_if a + open_calls (todos_of d (reverse (take i xs)))
open_next d xs i f b a h is e g = open_more d (take i xs) (take (i + 1) xs) f a (take_more xs i f h ∙ ap (λ u. take i xs ++ u ∷ []) (sym is)) (sym e ∙ g)

-- ---- the entries that end calls

ends_one : (f : Frame) → ends_in f ≤ 1
ends_one (frame.Leave p n callee caller) = omega arith
ends_one f = omega arith

-- no more than all
pub ends_few : (fs : List Frame) → ends_of fs ≤ length fs
ends_few [] = omega arith
ends_few (f ∷ fs) = omega (arith, ends_one f, ends_few fs)

-- what is counted with an entry more
pub ends_pushed : (xs ys : List Frame) (f : Frame) (calls ends : ℕ) → ys ≡ xs ++ f ∷ [] → calls ≡ ends_of (reverse xs) → ends ≡ ends_in f
    → calls + ends ≤ length ys
ends_pushed xs ys f calls ends e g h =
    let all : ends_of (reverse ys) ≡ ends_in f + ends_of (reverse xs) = ap (λ (u : List Frame). ends_of (reverse u)) e ∙ ap ends_of (push_first xs f) in
    omega (arith, all, g, h, ends_few (reverse ys), length-reverse ys)

at_most_one : (b : Bool) → one_if b ≤ 1
at_most_one true = omega arith
at_most_one false = omega arith

open_one : (d : Parts) (f : Frame) → one_if (is_end d f) ≤ ends_in f
open_one d (frame.Leave p n callee caller) = at_most_one (is_more (end_at d (stmt_at d p) n callee caller))
open_one d f = omega arith

-- no more calls are open than entries end calls
open_few : (d : Parts) (fs : List Frame) → open_calls (todos_of d fs) ≤ ends_of fs
open_few d [] = omega arith
open_few d (f ∷ fs) = omega (arith, open_in d f (todos_of d fs), open_one d f, open_few d fs)

pub few_calls : (d : Parts) (fs : List Frame) → ends_of fs < 1000 → nat_le 1000 (open_calls (todos_of d fs)) ≡ false
few_calls d fs few = above (open_calls (todos_of d fs)) (omega (arith, open_few d fs))
  where
    above : (n : ℕ) → n < 1000 → nat_le 1000 n ≡ false
    above n h = grind (arith, nat_tests)

-- What remains after `return`.
use Rattle.std.proofs.Common.{ℕ, ◌≡◌, List, [], ◌∷◌, ◌++◌, Option, None, Some, true, false, refl, ap, sym, ◌∙◌, map, drop}
use Rattle.sv_value.specs.declared.place.Place.{Place}
use Rattle.sv_value.specs.declared.val.Val.{Val}
use Rattle.sv_flat.specs.declared.call.Argument.{Argument}
use Rattle.sv_flat.specs.declared.call.Call.{Call}
use Rattle.sv_flat.specs.declared.call.CallForm.{CallForm}
use Rattle.sv_flat.specs.declared.call.CallForm.TheVariants as call
use Rattle.sv_flat.specs.declared.class.Subroutine.{Subroutine}
use Rattle.sv_flat.specs.declared.stmt.Stmt.{Stmt}
use Rattle.sv_flat.specs.declared.stmt.Form.{Form}
use Rattle.sv_flat.specs.declared.stmt.Form.TheVariants as form
use Rattle.sv_flat.specs.declared.design.Parts.{Parts}
use Rattle.sv_flat.specs.State.{Name}
use Rattle.sv_flat.specs.Process.{Todo, routine_of}
use Rattle.sv_flat.specs.Statements.Jumps.{after_return}
use Rattle.sv_built.specs.Positions.{body_of, stmt_at}
use Rattle.sv_stack.specs.declared.frames.Frame.{Frame}
use Rattle.sv_stack.specs.declared.frames.Frame.TheVariants as frame
use Rattle.sv_stack.specs.Calls.{called_at, call_in, end_at, end_of_call, end_of_form, end_of_routine}
use Rattle.sv_stack.specs.Frames.{to_do, turn_at, turns_of, turns_at, elements_at, put_of, put_at, children_of, children_at, todos_in, todos_of, is_end, is_more}

-- ---- the end of a call

returned_routine : (at : Place) (hidden : Option ℕ) (as' : List Argument) (callee caller : Option Name) (u : Option Subroutine) (ts : List Todo)
    → is_more (end_of_routine at hidden as' callee caller u) ≡ true
    → after_return (end_of_routine at hidden as' callee caller u ++ ts) ≡ end_of_routine at hidden as' callee caller u ++ ts
returned_routine at hidden as' callee caller None ts h = cc
returned_routine at hidden as' callee caller (Some u) ts h = refl

returned_form : (d : Parts) (at : Place) (hidden : Option ℕ) (f : CallForm) (callee caller : Option Name) (ts : List Todo)
    → is_more (end_of_form d at hidden f callee caller) ≡ true
    → after_return (end_of_form d at hidden f callee caller ++ ts) ≡ end_of_form d at hidden f callee caller ++ ts
returned_form d at hidden (call.Routine r None as') callee caller ts h = returned_routine at hidden as' callee caller (routine_of d r).subroutine ts h
returned_form d at hidden f callee caller ts h = cc

returned_call : (d : Parts) (at : Place) (c : Option Call) (callee caller : Option Name) (ts : List Todo) → is_more (end_of_call d at c callee caller) ≡ true
    → after_return (end_of_call d at c callee caller ++ ts) ≡ end_of_call d at c callee caller ++ ts
returned_call d at None callee caller ts h = cc
returned_call d at (Some c) callee caller ts h = returned_form d at c.result c.form callee caller ts h

returned_end : (d : Parts) (o : Option Stmt) (n : Option ℕ) (callee caller : Option Name) (ts : List Todo) → is_more (end_at d o n callee caller) ≡ true
    → after_return (end_at d o n callee caller ++ ts) ≡ end_at d o n callee caller ++ ts
returned_end d None n callee caller ts h = cc
returned_end d (Some s) n callee caller ts h = returned_call d s.at (call_in s n) callee caller ts h

returned_at : (d : Parts) (f : Frame) (ts : List Todo) → is_end d f ≡ true → after_return (todos_in d f ++ ts) ≡ todos_in d f ++ ts
returned_at d (frame.Leave p n callee caller) ts h = returned_end d (stmt_at d p) n callee caller ts h
returned_at d f ts h = cc

pub returned : (d : Parts) (xs ys zs : List Frame) (f : Frame) → xs ≡ f ∷ ys → is_end d f ≡ true → zs ≡ f ∷ ys → todos_of d zs ≡ after_return (todos_of d xs)
returned d xs ys zs f e h g = ap (todos_of d) g ∙ sym (ap (λ u. after_return (todos_of d u)) e ∙ returned_at d f (todos_of d ys) h)

-- ---- other entries

past_stmts : (ss : List Stmt) (scope : Option Name) (ts : List Todo) → after_return (map (to_do scope) ss ++ ts) ≡ after_return ts
past_stmts [] scope ts = refl
past_stmts (s ∷ ss) scope ts = past_stmts ss scope ts

past_turn : (o : Option Stmt) (scope : Option Name) (ts : List Todo) → after_return (turn_at o scope ++ ts) ≡ after_return ts
past_turn None scope ts = refl
past_turn (Some s) scope ts = refl

past_turns : (o : Option Stmt) (n : ℕ) (scope : Option Name) (ts : List Todo) → after_return (turns_at o n scope ++ ts) ≡ after_return ts
past_turns None n scope ts = refl
past_turns (Some s) n scope ts = by_form s.at s.form
  where
    by_form : (at : Place) (f : Form) → after_return (turns_of at f n scope ++ ts) ≡ after_return ts
    by_form at (form.Repeat e body) = refl
    by_form at f = refl

past_elements : (o : Option Stmt) (n : ℕ) (scope : Option Name) (ts : List Todo) → after_return (elements_at o n scope ++ ts) ≡ after_return ts
past_elements None n scope ts = refl
past_elements (Some s) n scope ts = refl

past_put : (o : Option Stmt) (x : Val) (scope : Option Name) (ts : List Todo) → after_return (put_at o x scope ++ ts) ≡ after_return ts
past_put None x scope ts = refl
past_put (Some s) x scope ts = by_form s.at s.form
  where
    by_form : (at : Place) (f : Form) → after_return (put_of at f x scope ++ ts) ≡ after_return ts
    by_form at (form.AssignAfter to e delay in_ticks) = refl
    by_form at f = refl

past_children : (o : Option Stmt) (scope : Option Name) (ts : List Todo) → after_return (children_at o scope ++ ts) ≡ after_return ts
past_children None scope ts = refl
past_children (Some s) scope ts = by_form s.at s.form
  where
    by_form : (at : Place) (f : Form) → after_return (children_of at f scope ++ ts) ≡ after_return ts
    by_form at (form.Fork vs initializers children join) = refl
    by_form at f = refl

past_called : (o : Option Stmt) (n : ℕ) (outer hidden : Option Name) (ts : List Todo) → after_return (called_at o n outer hidden ++ ts) ≡ after_return ts
past_called None n outer hidden ts = refl
past_called (Some s) n outer hidden ts = refl

nothing_left : (us : List Todo) → is_more us ≡ false → us ≡ []
nothing_left [] h = refl
nothing_left (u ∷ us) h = cc

returned_over : (d : Parts) (f : Frame) (ts : List Todo) → is_end d f ≡ false → after_return (todos_in d f ++ ts) ≡ after_return ts
returned_over d (frame.Rest p scope) ts h = past_stmts (drop p.place (body_of d p.routine)) scope ts
returned_over d (frame.Loop p scope) ts h = past_turn (stmt_at d p) scope ts
returned_over d (frame.Turns p n scope) ts h = past_turns (stmt_at d p) n scope ts
returned_over d (frame.Elements p n scope) ts h = past_elements (stmt_at d p) n scope ts
returned_over d (frame.Put p x scope) ts h = past_put (stmt_at d p) x scope ts
returned_over d (frame.Children p scope) ts h = past_children (stmt_at d p) scope ts
returned_over d (frame.Called p n outer hidden) ts h = past_called (stmt_at d p) n outer hidden ts
returned_over d (frame.Leave p n callee caller) ts h = ap (λ u. after_return (u ++ ts)) (nothing_left (end_at d (stmt_at d p) n callee caller) h)

pub returned_past : (d : Parts) (xs ys : List Frame) (f : Frame) → xs ≡ f ∷ ys → is_end d f ≡ false → after_return (todos_of d ys) ≡ after_return (todos_of d xs)
returned_past d xs ys f e h = sym (ap (λ u. after_return (todos_of d u)) e ∙ returned_over d f (todos_of d ys) h)

-- What remains after `break` and `continue`.
use Rattle.std.proofs.Common.{ℕ, ◌≡◌, List, [], ◌∷◌, ◌++◌, Option, None, Some, true, false, refl, ap, sym, ◌∙◌, map, drop}
use Rattle.sv_value.specs.declared.place.Place.{Place}
use Rattle.sv_value.specs.declared.val.Val.{Val}
use Rattle.sv_flat.specs.declared.call.Argument.{Argument}
use Rattle.sv_flat.specs.declared.call.Call.{Call}
use Rattle.sv_flat.specs.declared.call.CallForm.{CallForm}
use Rattle.sv_flat.specs.declared.call.CallForm.TheVariants as call
use Rattle.sv_flat.specs.declared.class.Subroutine.{Subroutine}
use Rattle.sv_flat.specs.declared.stmt.Stmt.{Stmt}
use Rattle.sv_flat.specs.declared.stmt.Form.{Form}
use Rattle.sv_flat.specs.declared.stmt.Form.TheVariants as form
use Rattle.sv_flat.specs.declared.design.Parts.{Parts}
use Rattle.sv_flat.specs.State.{Name}
use Rattle.sv_flat.specs.Process.{Todo, optional_body_in, routine_of}
use Rattle.sv_flat.specs.Statements.Jumps.{after_break, after_continue}
use Rattle.sv_built.specs.Positions.{body_of, stmt_at}
use Rattle.sv_stack.specs.declared.frames.Frame.{Frame}
use Rattle.sv_stack.specs.declared.frames.Frame.TheVariants as frame
use Rattle.sv_stack.specs.Calls.{call_in, called_at, end_at, end_of_call, end_of_form, end_of_routine}
use Rattle.sv_stack.specs.Frames.{to_do, turn_at, turns_of, turns_at, elements_at, put_of, put_at, children_of, children_at, todos_in, todos_of, scope_in, is_more, is_turn, step_at, step_in}

-- ---- the entry of a loop

broken_turn : (o : Option Stmt) (scope : Option Name) → is_more (turn_at o scope) ≡ true → (ts : List Todo) → after_break (turn_at o scope ++ ts) ≡ ts
broken_turn None scope h ts = cc
broken_turn (Some s) scope h ts = refl

broken_turns : (o : Option Stmt) (n : ℕ) (scope : Option Name) → is_more (turns_at o n scope) ≡ true → (ts : List Todo)
    → after_break (turns_at o n scope ++ ts) ≡ ts
broken_turns None n scope h ts = cc
broken_turns (Some s) n scope h ts = by_form s.at s.form h
  where
    by_form : (at : Place) (f : Form) → is_more (turns_of at f n scope) ≡ true → after_break (turns_of at f n scope ++ ts) ≡ ts
    by_form at (form.Repeat e body) h = refl
    by_form at f h = cc

broken_elements : (o : Option Stmt) (n : ℕ) (scope : Option Name) → is_more (elements_at o n scope) ≡ true → (ts : List Todo)
    → after_break (elements_at o n scope ++ ts) ≡ ts
broken_elements None n scope h ts = cc
broken_elements (Some s) n scope h ts = refl

-- a loop is left
broken_at : (d : Parts) (f : Frame) (ts : List Todo) → is_turn d f ≡ true → after_break (todos_in d f ++ ts) ≡ ts
broken_at d (frame.Rest p scope) ts h = cc
broken_at d (frame.Loop p scope) ts h = broken_turn (stmt_at d p) scope h ts
broken_at d (frame.Turns p n scope) ts h = broken_turns (stmt_at d p) n scope h ts
broken_at d (frame.Elements p n scope) ts h = broken_elements (stmt_at d p) n scope h ts
broken_at d f ts h = cc

pub broken : (d : Parts) (xs ys : List Frame) (f : Frame) → xs ≡ f ∷ ys → is_turn d f ≡ true → todos_of d ys ≡ after_break (todos_of d xs)
broken d xs ys f e h = sym (ap (λ u. after_break (todos_of d u)) e ∙ broken_at d f (todos_of d ys) h)

continued_turn : (d : Parts) (o : Option Stmt) (scope : Option Name) → is_more (turn_at o scope) ≡ true → (ts : List Todo)
    → after_continue d (turn_at o scope ++ ts) ≡ optional_body_in d (step_at o) scope ++ (turn_at o scope ++ ts)
continued_turn d None scope h ts = cc
continued_turn d (Some s) scope h ts = refl

continued_turns : (d : Parts) (o : Option Stmt) (n : ℕ) (scope : Option Name) → is_more (turns_at o n scope) ≡ true → (ts : List Todo)
    → after_continue d (turns_at o n scope ++ ts) ≡ turns_at o n scope ++ ts
continued_turns d None n scope h ts = cc
continued_turns d (Some s) n scope h ts = by_form s.at s.form h
  where
    by_form : (at : Place) (f : Form) → is_more (turns_of at f n scope) ≡ true → after_continue d (turns_of at f n scope ++ ts) ≡ turns_of at f n scope ++ ts
    by_form at (form.Repeat e body) h = refl
    by_form at f h = cc

continued_elements : (d : Parts) (o : Option Stmt) (n : ℕ) (scope : Option Name) → is_more (elements_at o n scope) ≡ true → (ts : List Todo)
    → after_continue d (elements_at o n scope ++ ts) ≡ elements_at o n scope ++ ts
continued_elements d None n scope h ts = cc
continued_elements d (Some s) n scope h ts = refl

-- a loop goes on
continued_at : (d : Parts) (f : Frame) (ts : List Todo) → is_turn d f ≡ true
    → after_continue d (todos_in d f ++ ts) ≡ optional_body_in d (step_in d f) (scope_in f) ++ (todos_in d f ++ ts)
continued_at d (frame.Rest p scope) ts h = cc
continued_at d (frame.Loop p scope) ts h = continued_turn d (stmt_at d p) scope h ts
continued_at d (frame.Turns p n scope) ts h = continued_turns d (stmt_at d p) n scope h ts
continued_at d (frame.Elements p n scope) ts h = continued_elements d (stmt_at d p) n scope h ts
continued_at d f ts h = cc

pub continued : (d : Parts) (xs ys zs : List Frame) (f : Frame) → xs ≡ f ∷ ys → is_turn d f ≡ true
    → todos_of d zs ≡ optional_body_in d (step_in d f) (scope_in f) ++ (todos_in d f ++ todos_of d ys) → todos_of d zs ≡ after_continue d (todos_of d xs)
continued d xs ys zs f e h g = g ∙ sym (ap (λ u. after_continue d (todos_of d u)) e ∙ continued_at d f (todos_of d ys) h)

-- ---- other entries

broken_stmts : (ss : List Stmt) (scope : Option Name) (ts : List Todo) → after_break (map (to_do scope) ss ++ ts) ≡ after_break ts
broken_stmts [] scope ts = refl
broken_stmts (s ∷ ss) scope ts = broken_stmts ss scope ts

broken_no_turn : (o : Option Stmt) (scope : Option Name) → is_more (turn_at o scope) ≡ false → (ts : List Todo) → after_break (turn_at o scope ++ ts) ≡ after_break ts
broken_no_turn None scope h ts = refl
broken_no_turn (Some s) scope h ts = cc

nothing_left : (us : List Todo) → is_more us ≡ false → us ≡ []
nothing_left [] h = refl
nothing_left (u ∷ us) h = cc

broken_put : (o : Option Stmt) (x : Val) (scope : Option Name) (ts : List Todo) → after_break (put_at o x scope ++ ts) ≡ after_break ts
broken_put None x scope ts = refl
broken_put (Some s) x scope ts = by_form s.at s.form
  where
    by_form : (at : Place) (f : Form) → after_break (put_of at f x scope ++ ts) ≡ after_break ts
    by_form at (form.AssignAfter to e delay in_ticks) = refl
    by_form at f = refl

broken_children : (o : Option Stmt) (scope : Option Name) (ts : List Todo) → after_break (children_at o scope ++ ts) ≡ after_break ts
broken_children None scope ts = refl
broken_children (Some s) scope ts = by_form s.at s.form
  where
    by_form : (at : Place) (f : Form) → after_break (children_of at f scope ++ ts) ≡ after_break ts
    by_form at (form.Fork vs initializers children join) = refl
    by_form at f = refl

broken_called : (o : Option Stmt) (n : ℕ) (outer hidden : Option Name) (ts : List Todo) → after_break (called_at o n outer hidden ++ ts) ≡ after_break ts
broken_called None n outer hidden ts = refl
broken_called (Some s) n outer hidden ts = refl

broken_end : (d : Parts) (o : Option Stmt) (n : Option ℕ) (callee caller : Option Name) (ts : List Todo) → after_break (end_at d o n callee caller ++ ts) ≡ after_break ts
broken_end d None n callee caller ts = refl
broken_end d (Some s) n callee caller ts = by_call (call_in s n)
  where
    by_routine : (at : Place) (hidden : Option ℕ) (as' : List Argument) (u : Option Subroutine)
        → after_break (end_of_routine at hidden as' callee caller u ++ ts) ≡ after_break ts
    by_routine at hidden as' None = refl
    by_routine at hidden as' (Some u) = refl

    by_form : (at : Place) (hidden : Option ℕ) (f : CallForm) → after_break (end_of_form d at hidden f callee caller ++ ts) ≡ after_break ts
    by_form at hidden (call.Routine r None as') = by_routine at hidden as' (routine_of d r).subroutine
    by_form at hidden f = refl

    by_call : (c : Option Call) → after_break (end_of_call d s.at c callee caller ++ ts) ≡ after_break ts
    by_call None = refl
    by_call (Some c) = by_form s.at c.result c.form

broken_over : (d : Parts) (f : Frame) (ts : List Todo) → is_turn d f ≡ false → after_break (todos_in d f ++ ts) ≡ after_break ts
broken_over d (frame.Rest p scope) ts h = broken_stmts (drop p.place (body_of d p.routine)) scope ts
broken_over d (frame.Loop p scope) ts h = broken_no_turn (stmt_at d p) scope h ts
broken_over d (frame.Turns p n scope) ts h = ap (λ u. after_break (u ++ ts)) (nothing_left (turns_at (stmt_at d p) n scope) h)
broken_over d (frame.Elements p n scope) ts h = ap (λ u. after_break (u ++ ts)) (nothing_left (elements_at (stmt_at d p) n scope) h)
broken_over d (frame.Put p x scope) ts h = broken_put (stmt_at d p) x scope ts
broken_over d (frame.Children p scope) ts h = broken_children (stmt_at d p) scope ts
broken_over d (frame.Called p n outer hidden) ts h = broken_called (stmt_at d p) n outer hidden ts
broken_over d (frame.Leave p n callee caller) ts h = broken_end d (stmt_at d p) n callee caller ts

pub broken_past : (d : Parts) (xs ys : List Frame) (f : Frame) → xs ≡ f ∷ ys → is_turn d f ≡ false → after_break (todos_of d ys) ≡ after_break (todos_of d xs)
broken_past d xs ys f e h = sym (ap (λ u. after_break (todos_of d u)) e ∙ broken_over d f (todos_of d ys) h)

continued_stmts : (d : Parts) (ss : List Stmt) (scope : Option Name) (ts : List Todo) → after_continue d (map (to_do scope) ss ++ ts) ≡ after_continue d ts
continued_stmts d [] scope ts = refl
continued_stmts d (s ∷ ss) scope ts = continued_stmts d ss scope ts

continued_put : (d : Parts) (o : Option Stmt) (x : Val) (scope : Option Name) (ts : List Todo) → after_continue d (put_at o x scope ++ ts) ≡ after_continue d ts
continued_put d None x scope ts = refl
continued_put d (Some s) x scope ts = by_form s.at s.form
  where
    by_form : (at : Place) (f : Form) → after_continue d (put_of at f x scope ++ ts) ≡ after_continue d ts
    by_form at (form.AssignAfter to e delay in_ticks) = refl
    by_form at f = refl

continued_children : (d : Parts) (o : Option Stmt) (scope : Option Name) (ts : List Todo) → after_continue d (children_at o scope ++ ts) ≡ after_continue d ts
continued_children d None scope ts = refl
continued_children d (Some s) scope ts = by_form s.at s.form
  where
    by_form : (at : Place) (f : Form) → after_continue d (children_of at f scope ++ ts) ≡ after_continue d ts
    by_form at (form.Fork vs initializers children join) = refl
    by_form at f = refl

continued_called : (d : Parts) (o : Option Stmt) (n : ℕ) (outer hidden : Option Name) (ts : List Todo) → after_continue d (called_at o n outer hidden ++ ts) ≡ after_continue d ts
continued_called d None n outer hidden ts = refl
continued_called d (Some s) n outer hidden ts = refl

continued_end : (d : Parts) (o : Option Stmt) (n : Option ℕ) (callee caller : Option Name) (ts : List Todo) → after_continue d (end_at d o n callee caller ++ ts) ≡ after_continue d ts
continued_end d None n callee caller ts = refl
continued_end d (Some s) n callee caller ts = by_call (call_in s n)
  where
    by_routine : (at : Place) (hidden : Option ℕ) (as' : List Argument) (u : Option Subroutine)
        → after_continue d (end_of_routine at hidden as' callee caller u ++ ts) ≡ after_continue d ts
    by_routine at hidden as' None = refl
    by_routine at hidden as' (Some u) = refl

    by_form : (at : Place) (hidden : Option ℕ) (f : CallForm) → after_continue d (end_of_form d at hidden f callee caller ++ ts) ≡ after_continue d ts
    by_form at hidden (call.Routine r None as') = by_routine at hidden as' (routine_of d r).subroutine
    by_form at hidden f = refl

    by_call : (c : Option Call) → after_continue d (end_of_call d s.at c callee caller ++ ts) ≡ after_continue d ts
    by_call None = refl
    by_call (Some c) = by_form s.at c.result c.form

continued_over : (d : Parts) (f : Frame) (ts : List Todo) → is_turn d f ≡ false → after_continue d (todos_in d f ++ ts) ≡ after_continue d ts
continued_over d (frame.Rest p scope) ts h = continued_stmts d (drop p.place (body_of d p.routine)) scope ts
continued_over d (frame.Loop p scope) ts h = ap (λ u. after_continue d (u ++ ts)) (nothing_left (turn_at (stmt_at d p) scope) h)
continued_over d (frame.Turns p n scope) ts h = ap (λ u. after_continue d (u ++ ts)) (nothing_left (turns_at (stmt_at d p) n scope) h)
continued_over d (frame.Elements p n scope) ts h = ap (λ u. after_continue d (u ++ ts)) (nothing_left (elements_at (stmt_at d p) n scope) h)
continued_over d (frame.Put p x scope) ts h = continued_put d (stmt_at d p) x scope ts
continued_over d (frame.Children p scope) ts h = continued_children d (stmt_at d p) scope ts
continued_over d (frame.Called p n outer hidden) ts h = continued_called d (stmt_at d p) n outer hidden ts
continued_over d (frame.Leave p n callee caller) ts h = continued_end d (stmt_at d p) n callee caller ts

pub continued_past : (d : Parts) (xs ys : List Frame) (f : Frame) → xs ≡ f ∷ ys → is_turn d f ≡ false
    → after_continue d (todos_of d ys) ≡ after_continue d (todos_of d xs)
continued_past d xs ys f e h = sym (ap (λ u. after_continue d (todos_of d u)) e ∙ continued_over d f (todos_of d ys) h)

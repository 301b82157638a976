-- What stands in the bodies of a side stands there when there are more processes.
use Rattle.std.proofs.Common.{ℕ, zero, suc, ◌≡◌, List, [], ◌∷◌, ◌++◌, Option, None, Some, slice_get}
use Rattle.std.specs.List.{AllByRecursion}
use Rattle.sv_value.specs.declared.schedule.Side.{Side}
use Rattle.sv_flat.specs.declared.design.Parts.{Parts}
use Rattle.sv_flat.specs.State.{Name, Activation}
use Rattle.sv_flat.specs.Process.{Todo, Do, Turn, Turns, Walk, Walk_elements, Start_children, Leave, Receive, Put, Effect, Remain, Enter, Spawn}
use Rattle.sv_frame.proofs.Scopes.{IsScope, IsEnclosed}
use Rattle.sv_frame.proofs.Home.{IsHome}
use Rattle.sv_frame.proofs.MicroHome.{IsHomeEffect}

pub get_wider : {A : Type 0} (xs ys : List A) (i : ℕ) (x : A) → slice_get xs i ≡ Some x → slice_get (xs ++ ys) i ≡ Some x
get_wider [] ys i x h = absurd (cc)
get_wider (z ∷ xs) ys zero x h = h
get_wider (z ∷ xs) ys (suc i) x h = get_wider xs ys i x h

module _ (d : Parts) (ss more : List Side) (s : Side) where
  pub scope_wider : (o : Option Name) → IsScope ss s o → IsScope (ss ++ more) s o
  scope_wider None h = tt
  scope_wider (Some n) h = get_wider ss more n.process.0 s h

  todo_wider : (t : Todo) → IsHome d ss s t → IsHome d (ss ++ more) s t
  todo_wider (Do t cs outer hidden) h = (h.0, h.1, scope_wider outer h.2, scope_wider hidden h.3)
  todo_wider (Turn t scope) h = (h.0, scope_wider scope h.1)
  todo_wider (Turns at n b scope) h = (h.0, scope_wider scope h.1)
  todo_wider (Walk t i outer scope) h = (h.0, scope_wider outer h.1, scope_wider scope h.2)
  todo_wider (Walk_elements t n scope) h = (h.0, scope_wider scope h.1)
  todo_wider (Start_children at cs j scope) h = (h.0, scope_wider scope h.1)
  todo_wider (Leave at r) h = (h.0, h.1, scope_wider r.callee h.2, scope_wider r.caller h.3)
  todo_wider (Receive at ts w scope) h = (h.0, scope_wider scope h.1)
  todo_wider (Put at ts x scope) h = (h.0, scope_wider scope h.1)

  pub todos_wider : (ts : List Todo) → AllByRecursion (IsHome d ss s) ts → AllByRecursion (IsHome d (ss ++ more) s) ts
  todos_wider [] h = tt
  todos_wider (t ∷ ts) h = (todo_wider t h.0, todos_wider ts h.1)

  effect_wider : (x : Effect) → IsHomeEffect d ss s x → IsHomeEffect d (ss ++ more) s x
  effect_wider (Remain rest) h = todos_wider rest h
  effect_wider (Enter ts around) h = scope_wider around h
  effect_wider (Spawn rs scope k) h = (h.0, scope_wider scope h.1)
  effect_wider x h = tt

  pub effects_wider : (xs : List Effect) → AllByRecursion (IsHomeEffect d ss s) xs → AllByRecursion (IsHomeEffect d (ss ++ more) s) xs
  effects_wider [] h = tt
  effects_wider (x ∷ xs) h = (effect_wider x h.0, effects_wider xs h.1)

pub around_wider : (d : Parts) (ss more : List Side) (as' : List Activation) → AllByRecursion (IsEnclosed ss) as' → AllByRecursion (IsEnclosed (ss ++ more)) as'
around_wider d ss more [] h = tt
around_wider d ss more (a ∷ as') h =
    ((h.0.0, get_wider ss more a.name.process.0 h.0.0 h.0.1, scope_wider d ss more h.0.0 a.around h.0.2), around_wider d ss more as' h.1)

-- The first store is that of the opening of a run, where no object needs the heap.
use Rattle.std.proofs.Common.{◌≡◌, List, [], ◌∷◌, ◌++◌, refl, sym, ap, ◌∙◌, append_assoc, append-nil}
use Rattle.std.specs.List.{AllByRecursion}
use Rattle.sv_value.specs.declared.val.Plain.TheVariants as plain
use Rattle.sv_flat.specs.declared.object.DataType.{DataType}
use Rattle.sv_flat.specs.declared.object.DataType.TheVariants as type
use Rattle.sv_flat.specs.declared.object.Object.{Object}
use Rattle.sv_flat.specs.State.{World, Stored, first_value}
use Rattle.sv_flat.specs.Effects.Creation.{fresh_value}
use Rattle.sv_flat.specs.Opening.{stored, with_first, objects_added}
use Rattle.sv_store.specs.First.{first_store}

-- a type whose first value is not on the heap
abbrev pub NeedsNoHeap : DataType → Type 0
NeedsNoHeap (type.Plain plain.Event) = ⊥
NeedsNoHeap (type.Plain t) = Unit {0}
NeedsNoHeap type.Mailbox = Unit {0}
NeedsNoHeap type.Semaphore = Unit {0}
NeedsNoHeap t = ⊥

one_added : (o : Object) (t : DataType) (w : World) → NeedsNoHeap t → with_first o (fresh_value t w.heap) w ≡ record w { store = w.store ++ stored o (first_value t) ∷ [] }
one_added o (type.Plain (plain.Integral t)) w h = refl
one_added o (type.Plain plain.Text) w h = refl
one_added o (type.Plain (plain.Class k)) w h = refl
one_added o (type.Plain plain.Event) w h = absurd h
one_added o type.Mailbox w h = refl
one_added o type.Semaphore w h = refl
one_added o (type.Queue t) w h = absurd h
one_added o (type.Dynamic t) w h = absurd h
one_added o (type.Assoc k t) w h = absurd h

pub objects_added-first_store : (os : List Object) (w : World) → AllByRecursion (λ (o : Object). NeedsNoHeap o.ty) os → objects_added os w ≡ record w { store = w.store ++ first_store os }
objects_added-first_store [] w h = ap (λ (s : List Stored). record w { store = s }) (sym (append-nil w.store))
objects_added-first_store (o ∷ os) w h =
    let first : List Stored = stored o (first_value o.ty) ∷ [] in
    ap (objects_added os) (one_added o o.ty w h.0)
    ∙ objects_added-first_store os (record w { store = w.store ++ first }) h.1
    ∙ ap (λ (s : List Stored). record w { store = s }) (append_assoc w.store first (first_store os))

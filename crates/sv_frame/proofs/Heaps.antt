-- Effects that change the heap alone of all that has a value.
use Rattle.std.proofs.Common.{ℕ, ◌≡◌, List, [], Option, None, Some, Bool, true, false, cond, refl}
use Rattle.std.specs.Prelude.{Result, Ok, Err, not, nat_le}
use Rattle.sv_value.specs.declared.number.ProcessId.{ProcessId}
use Rattle.sv_value.specs.declared.number.ClassId.{ClassId}
use Rattle.sv_value.specs.declared.place.FaultKind.{FaultKind}
use Rattle.sv_value.specs.declared.place.FaultKind.TheVariants as fault
use Rattle.sv_value.specs.declared.val.Val.{Val}
use Rattle.sv_value.specs.declared.val.Index.{Index}
use Rattle.sv_value.specs.declared.schedule.Range.{Range}
use Rattle.sv_value.specs.Containers.{Container, with_item, size_of, may_hold}
use Rattle.sv_flat.specs.declared.object.DataType.{DataType}
use Rattle.sv_flat.specs.declared.design.Parts.{Parts}
use Rattle.sv_flat.specs.State.{Heap, World, Property, ClassObject, container_at, item_count, object_at}
use Rattle.sv_flat.specs.Eval.{with_result}
use Rattle.sv_flat.specs.Classes.{class_of}
use Rattle.sv_flat.specs.Process.{types_of, Held, Cell, Variable_of, Item_of, Effect, Enter, Write, Make, Copy, Make_mailbox, Make_semaphore, Contain}
use Rattle.sv_flat.specs.Effects.{world_after}
use Rattle.sv_flat.specs.Effects.Writes.{Worlded, contained, contained_if, part_of_item, item_over, with_content}
use Rattle.sv_flat.specs.Effects.Creation.{made, copied, object_added, has_place, fresh_properties}

-- the heap of a world
abbrev heap_in : Worlded → Result Heap FaultKind
heap_in (Err k) = Err k
heap_in (Ok w) = Ok w.heap

-- a world with the heap that came, or the fault
abbrev pub heaped : Result Heap FaultKind → World → Worlded
heaped (Err k) w = Err k
heaped (Ok h) w = Ok (record w { heap = h })

-- a world with this heap and nothing else
abbrev heap_only : Heap → World
heap_only h = record { store = []; heap = h; activations = [] }

-- what comes of a world depends on its heap alone
abbrev pub ByHeap : (World → Worlded) → Type 0
ByHeap f = (w : World) → f w ≡ heaped (heap_in (f (heap_only w.heap))) w

either_heap : (b : Bool) (k : FaultKind) (h : Heap) (w : World) → cond b (Ok (record w { heap = h })) (Err k) ≡ heaped (heap_in (cond b (Ok (record (heap_only w.heap) { heap = h })) (Err k))) w
either_heap true k h w = refl
either_heap false k h w = refl

pub contained_heap : (h : Held) (q : Container) → ByHeap (contained h q)
contained_heap h q w = either_heap (may_hold (item_count w.heap) (size_of (container_at w.heap h.key h.property)) (size_of q)) fault.Items (with_content h q w.heap) w

contained_if_heap : (h : Held) (o : Option Container) → ByHeap (contained_if h o)
contained_if_heap h None w = refl
contained_if_heap h (Some q) w = contained_heap h q w

item_heap : (h : Held) (i : Index) (r : Option Range) (x : Val) → ByHeap (item_over h i r x)
item_heap h i None x w = contained_if_heap h (with_item (container_at w.heap h.key h.property) i x) w
item_heap h i (Some r) x w = contained_if_heap h (part_of_item (container_at w.heap h.key h.property) i r x) w

made_heap : (k : ClassId) (ts : List DataType) → ByHeap (made k ts)
made_heap k ts w = by_place (has_place w.heap.objects) (fresh_properties ts w.heap)
  where
    by_place : (b : Bool) (p : Result (List Property × Heap) FaultKind)
        → cond b (with_result p (λ a. Ok (record w { heap = object_added k a.0 a.1 }))) (Err fault.Objects)
        ≡ heaped (heap_in (cond b (with_result p (λ a. Ok (record (heap_only w.heap) { heap = object_added k a.0 a.1 }))) (Err fault.Objects))) w
    by_place true (Ok a) = refl
    by_place true (Err f) = refl
    by_place false p = refl

copied_heap : (o : ClassObject) (w : World) → copied o w ≡ heaped (heap_in (copied o (heap_only w.heap))) w
copied_heap o w = by_tests (not (has_place w.heap.objects)) (nat_le _ _)
  where
    by_tests : (b g : Bool)
        → cond b (Err fault.Objects) (cond g (Ok (record w { heap = object_added o.class o.properties w.heap })) (Err fault.Items))
        ≡ heaped (heap_in (cond b (Err fault.Objects) (cond g (Ok (record (heap_only w.heap) { heap = object_added o.class o.properties w.heap })) (Err fault.Items)))) w
    by_tests true g = refl
    by_tests false true = refl
    by_tests false false = refl

-- the heap after an effect, or the fault
abbrev pub heap_after : Parts → ProcessId → ℕ → Effect → Heap → Result Heap FaultKind
heap_after d p n e h = heap_in (world_after d p n e (heap_only h))

-- what changes neither the objects nor the activations
abbrev pub IsOfHeap : Effect → Type 0
IsOfHeap (Enter ts around) = ⊥
IsOfHeap (Write (Cell o i r) x) = ⊥
IsOfHeap (Write (Variable_of n i r) x) = ⊥
IsOfHeap e = Unit {0}

pub effect_heap : (d : Parts) (p : ProcessId) (n : ℕ) (e : Effect) → IsOfHeap e → ByHeap (world_after d p n e)
effect_heap d p n (Enter ts around) h w = absurd h
effect_heap d p n (Write (Cell o i r) x) h w = absurd h
effect_heap d p n (Write (Variable_of m i r) x) h w = absurd h
effect_heap d p n (Write (Item_of q i r) x) h w = item_heap q i r x w
effect_heap d p n (Make k) h w = made_heap k (types_of (class_of d k).properties) w
effect_heap d p n (Copy k) h w = copied_heap (object_at w.heap k) w
effect_heap d p n (Make_mailbox b) h w = either_heap (has_place w.heap.mailboxes) fault.Objects _ w
effect_heap d p n (Make_semaphore m) h w = either_heap (has_place w.heap.semaphores) fault.Objects _ w
effect_heap d p n (Contain q x) h w = contained_heap q x w
effect_heap d p n e h w = refl

-- how many activations the process made is not asked
pub any_number : (d : Parts) (p : ProcessId) (n m : ℕ) (e : Effect) → IsOfHeap e → (h : Heap) → heap_after d p n e h ≡ heap_after d p m e h
any_number d p n m (Enter ts around) o h = absurd o
any_number d p n m e o h = refl

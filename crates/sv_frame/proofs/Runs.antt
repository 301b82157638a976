-- In each configuration that a run comes to, what a process has still to run stands in the bodies of its side.
use Rattle.std.proofs.Common.{ℕ, ◌≡◌, ◌+◌, List, [], ◌∷◌, ◌++◌, Option, None, Some, refl, ap, subst, sym, ◌∙◌, map, slice_get}
use Rattle.std.specs.Prelude.{Result, Ok, Err, option_map}
use Rattle.std.specs.List.{AllByRecursion}
use Rattle.std.proofs.lemmas.Option.{slice_get-map}
use Rattle.sv_value.specs.declared.number.ProcessId.{ProcessId}
use Rattle.sv_value.specs.declared.place.FaultKind.{FaultKind}
use Rattle.sv_value.specs.declared.val.Val.{Val}
use Rattle.sv_value.specs.declared.schedule.Side.{Side}
use Rattle.sv_flat.specs.declared.process.Process.{Process}
use Rattle.sv_flat.specs.declared.design.Parts.{Parts}
use Rattle.sv_flat.specs.Process.{ProcessState}
use Rattle.sv_flat.specs.Config.{Config, first_process, unit_ticks}
use Rattle.sv_flat.specs.Opening.{opening, opening_process, empty_world, with_first, objects_added, container_of, container_copied, copy_kept, mailbox_made, semaphore_made, initialized, initial_expr, initializer_run, initializers_run}
use Rattle.sv_flat.specs.State.{Heap, World, container_at, view_of}
use Rattle.sv_flat.specs.Eval.{Valued, value_of, vector_in, reference_in}
use Rattle.sv_flat.specs.Statements.Shared.{count_of}
use Rattle.sv_flat.specs.declared.object.DataType.{DataType}
use Rattle.sv_flat.specs.declared.object.Object.{Object}
use Rattle.sv_flat.specs.declared.object.Initial.{Initial}
use Rattle.sv_flat.specs.declared.object.Initial.TheVariants as initial
use Rattle.sv_value.specs.declared.number.ObjId.{ObjId}
use Rattle.sv_value.specs.declared.number.Key.{Key}
use Rattle.sv_flat.specs.Effects.Creation.{fresh_value}
use Rattle.sv_flat.specs.Effects.Writes.{Worlded, contained}
use Rattle.sv_flat.specs.Steps.{IsLegal}
use Rattle.sv_flat.specs.Laws.{IsReached}
use Rattle.sv_frame.proofs.Paths.{body_of_side}
use Rattle.sv_frame.proofs.Heaps.{heaped, contained_heap}
use Rattle.sv_frame.proofs.Scopes.{sides, IsEnclosed}
use Rattle.sv_frame.proofs.MicroHome.{body_home}
use Rattle.sv_frame.proofs.Homes.{IsHomeState, AllHome, BeginsWith, RunsHome, sides_of, in_at, some_same}
use Rattle.sv_frame.proofs.Grown.{Grown, begins_wider, after_grown}

-- ---- the opening makes no activation

first_made : (o : Object) (r : Result (Val × Heap) FaultKind) (w : World) → (with_first o r w).activations ≡ w.activations
first_made o (Err k) w = refl
first_made o (Ok a) w = refl

objects_made : (os : List Object) (w : World) → (objects_added os w).activations ≡ w.activations
objects_made [] w = refl
objects_made (o ∷ os) w = objects_made os (with_first o (fresh_value o.ty w.heap) w) ∙ first_made o (fresh_value o.ty w.heap) w

copied_made : (t s : Option Key) (p : Option ℕ) (w : World) → (container_copied t s p w).activations ≡ w.activations
copied_made None s p w = refl
copied_made (Some k) None p w = refl
copied_made (Some k) (Some s) p w = by_result _ (contained_heap (record { key = k; property = None }) (container_at w.heap s p) w)
  where
    by_result : (r : Result Heap FaultKind) → contained (record { key = k; property = None }) (container_at w.heap s p) w ≡ heaped r w
        → (container_copied (Some k) (Some s) p w).activations ≡ w.activations
    by_result (Err f) e = ap (λ (x : Worlded). (copy_kept x w).activations) e
    by_result (Ok b) e = ap (λ (x : Worlded). (copy_kept x w).activations) e

mailbox_keeps : (o : ObjId) (n : Option ℕ) (w : World) → (mailbox_made o n w).activations ≡ w.activations
mailbox_keeps o None w = refl
mailbox_keeps o (Some n) w = refl

semaphore_keeps : (o : ObjId) (n : Option ℕ) (w : World) → (semaphore_made o n w).activations ≡ w.activations
semaphore_keeps o None w = refl
semaphore_keeps o (Some n) w = refl

initialized_made : (o : ObjId) (i : Initial) (t : DataType) (v : Valued) (w : World) → (initialized o i t v w).activations ≡ w.activations
initialized_made o i t (Err k) w = refl
initialized_made o (initial.Value e) t (Ok x) w = refl
initialized_made o (initial.Copy c) t (Ok x) w = copied_made (container_of o w) (reference_in x) c.property w
initialized_made o (initial.Mailbox e) t (Ok x) w = mailbox_keeps o (count_of (vector_in x)) w
initialized_made o (initial.Semaphore e) t (Ok x) w = semaphore_keeps o (count_of (vector_in x)) w

initializers_made : (d : Parts) (n : ℕ) (os : List Object) (w : World) → (initializers_run d n os w).activations ≡ w.activations
initializers_made d n [] w = refl
initializers_made d n (o ∷ os) w = initializers_made d (n + 1) os (initializer_run d (record { 0 = n }) o o.initial w) ∙ one o.initial
  where
    one : (i : Option Initial) → (initializer_run d (record { 0 = n }) o i w).activations ≡ w.activations
    one None = refl
    one (Some i) = initialized_made (record { 0 = n }) i o.ty (value_of (initial_expr i) (view_of w 0 (unit_ticks d.scale) None)) w

opening_made : (d : Parts) → (opening d).activations ≡ []
opening_made d = initializers_made d 0 d.objects (objects_added d.objects empty_world) ∙ objects_made d.objects empty_world

-- ---- runs

module _ (d : Parts) where
  pub begins_with : BeginsWith d (sides_of d)
  begins_with p f is = slice_get-map (λ (f : Process). f.side) d.processes p.0 ∙ ap (option_map (λ (f : Process). f.side)) is

  opening_sides : (fs : List Process) → sides (map (opening_process d) fs) ≡ map (λ f. f.side) fs
  opening_sides [] = refl
  opening_sides (f ∷ fs) = ap (λ (ss : List Side). f.side ∷ ss) (opening_sides fs)

  opening_home : AllHome d (sides_of d) (opening d)
  opening_home = record {
    each = λ p q is. by_process p q (slice_get d.processes p.0) refl (sym (slice_get-map (opening_process d) d.processes p.0) ∙ is);
    are = opening_sides d.processes;
    around = subst (AllByRecursion (IsEnclosed (sides_of d))) (sym (opening_made d)) tt;
  }
    where
      by_process : (p : ProcessId) (q : ProcessState) (o : Option Process) → first_process d p ≡ o → option_map (opening_process d) o ≡ Some q → IsHomeState d (sides_of d) q
      by_process p q None e is = absurd (cc)
      by_process p q (Some f) e is =
          subst (IsHomeState d (sides_of d)) (some_same is) (body_home d (sides_of d) f.side f.body (body_of_side d f (in_at d.processes p.0 f e)) None tt)

  -- there are sides of which the processes of a configuration are
  pub record IsHomeOf (c : Config) : Type 0 where
    pub all : List Side
    pub begins : BeginsWith d all
    pub home : AllHome d all c

  grown_home : (ss : List Side) → BeginsWith d ss → (c : Config) → Grown d ss c → IsHomeOf c
  grown_home ss b c g = record { all = ss ++ g.more; begins = begins_wider d ss g.more b; home = g.home }

  -- where each reached configuration lets its running process do such a step
  pub legal_home : ((c : Config) → IsReached d c → (k : IsHomeOf c) → RunsHome d k.all k.begins c) → (c : Config) (run : List Config) → IsLegal d (c ∷ run) → IsHomeOf c
  legal_home w c [] l = record { all = sides_of d; begins = begins_with; home = subst (AllHome d (sides_of d)) (sym l) opening_home }
  legal_home w c (e ∷ run) l =
      let h = legal_home w e run l.1 in
      subst IsHomeOf (sym l.0.2) (grown_home h.all h.begins _ (after_grown d h.all h.begins e (w e (run, l.1) h) h.home l.0.0))

-- The opening configuration of a built design is sound.
use Rattle.std.proofs.Common.{ℕ, suc, ◌≡◌, ◌+◌, ◌≤◌, List, [], ◌∷◌, ◌++◌, Option, None, Some, Bool, true, false, cond, refl, ap, subst, sym, ◌∙◌, arith, slice_get, map}
use Rattle.std.specs.Prelude.{option_map, length, Result, Ok, Err, ◌&&◌, ◌||◌, filter, sum_by, if◌then◌else◌}
use Rattle.std.specs.List.{AllByRecursion, list_any}
use Rattle.std.proofs.lemmas.List.Sums.{sum_by-cons}
use Rattle.std.proofs.lemmas.Option.{slice_get-map}
use Rattle.sv_value.specs.declared.number.ProcessId.{ProcessId}
use Rattle.sv_value.specs.declared.place.FaultKind.{FaultKind}
use Rattle.sv_value.specs.declared.schedule.Side.{Side}
use Rattle.sv_value.specs.declared.schedule.Side.TheVariants.{Active, Reactive}
use Rattle.sv_value.specs.declared.val.Val.{Val}
use Rattle.sv_value.specs.declared.val.Plain.TheVariants as plain
use Rattle.sv_value.specs.Regions.{same_side}
use Rattle.sv_flat.specs.declared.object.Object.{Object}
use Rattle.sv_flat.specs.declared.object.DataType.{DataType}
use Rattle.sv_flat.specs.declared.object.DataType.TheVariants as type
use Rattle.sv_flat.specs.declared.object.Initial.{Initial}
use Rattle.sv_flat.specs.declared.object.Initial.TheVariants as initial
use Rattle.sv_flat.specs.declared.process.Process.{Process}
use Rattle.sv_flat.specs.declared.design.Parts.{Parts}
use Rattle.sv_flat.specs.State.{World, first_value}
use Rattle.sv_flat.specs.Process.{ProcessState, Status, Ready, Waiting, Start}
use Rattle.sv_flat.specs.Effects.Creation.{fresh_value}
use Rattle.sv_flat.specs.Config.{starts, is_always_comb, state_test, numbered_from}
use Rattle.sv_flat.specs.Opening.{opening, opening_world, initializers_run, initializer_run, initialized, objects_added, with_first, stored, opening_process, first_status, is_ready, empty_world}
use Rattle.sv_flat.specs.Clocks.{opening_clock}
use Rattle.sv_built.specs.Built.{IsBuiltObject, IsBuiltType, IsBuiltInitial, IsBuiltProcess, IsBuilt}
use Rattle.sv_sound.specs.Sound.{IsSound, AreAwaited, AreStates, is_pending, is_parked, parked_weight, weight_of_event, AreChildren, is_complete, IsRelated, AreRelated, IsMadeBy}
use Rattle.sv_sound.proofs.Weights.{standing_weight}
use Rattle.sv_sound.proofs.Plain.{body_plain}
use Rattle.sv_sound.proofs.Wakes.{TestsStates}

-- ---- the world

-- a world with another store
pub record OnlyStore (w v : World) : Type 0 where
  pub is : v ≡ record w { store = v.store }

only_then : {u v w : World} → OnlyStore u v → OnlyStore v w → OnlyStore u w
only_then {u} {v} {w} h k = record { is = k.is ∙ ap (λ (x : World). record x { store = w.store }) h.is }

first_only : (t : DataType) → IsBuiltType t → (o : Object) (w : World) → with_first o (fresh_value t w.heap) w ≡ record w { store = w.store ++ stored o (first_value t) ∷ [] }
first_only (type.Plain (plain.Integral t)) h o w = refl
first_only (type.Plain plain.Text) h o w = refl
first_only t h o w = absurd h

pub added_only : (os : List Object) → AllByRecursion IsBuiltObject os → (w : World) → OnlyStore w (objects_added os w)
added_only [] h w = record { is = refl }
added_only (o ∷ os) h w =
    only_then (record { is = first_only o.ty h.0.ty o w ∙ ap (λ (x : World). record w { store = x.store }) (sym (first_only o.ty h.0.ty o w)) }) (added_only os h.1 (with_first o (fresh_value o.ty w.heap) w))

module _ (d : Parts) where
  initialized_only : (o : Rattle.sv_value.specs.declared.number.ObjId.ObjId) (e : Rattle.sv_flat.specs.Expr.Expr) (t : DataType) (x : Result Val FaultKind) (w : World) → OnlyStore w (initialized o (initial.Value e) t x w)
  initialized_only o e t (Ok x) w = record { is = refl }
  initialized_only o e t (Err k) w = record { is = refl }

  run_only : (n : Rattle.sv_value.specs.declared.number.ObjId.ObjId) (o : Object) (i : Option Initial) → IsBuiltInitial i → (w : World) → OnlyStore w (initializer_run d n o i w)
  run_only n o None h w = record { is = refl }
  run_only n o (Some (initial.Value e)) h w = initialized_only n e o.ty _ w
  run_only n o (Some i) h w = absurd h

  pub all_run_only : (n : ℕ) (os : List Object) → AllByRecursion IsBuiltObject os → (w : World) → OnlyStore w (initializers_run d n os w)
  all_run_only n [] h w = record { is = refl }
  all_run_only n (o ∷ os) h w = only_then (run_only (record { 0 = n }) o o.initial h.0.initial w) (all_run_only (n + 1) os h.1 (initializer_run d (record { 0 = n }) o o.initial w))

-- ---- the processes

module _ (d : Parts) (b : IsBuilt d) where
  pub opening_only : OnlyStore empty_world (opening_world d)
  opening_only = only_then (added_only d.objects b.each_object empty_world) (all_run_only d 0 d.objects b.each_object (objects_added d.objects empty_world))

  abbrev pub all_states : List ProcessState
  all_states = map (opening_process d) d.processes

  pends : (fs : List Process) → is_pending fs (map (opening_process d) fs) ≡ list_any starts fs
  pends [] = refl
  pends (f ∷ fs) = by_test (starts f) (pends fs)
    where
      by_test : (y : Bool) → is_pending fs (map (opening_process d) fs) ≡ list_any starts fs → ((y && true) || is_pending fs (map (opening_process d) fs)) ≡ (y || list_any starts fs)
      by_test true i = refl
      by_test false i = i

  held_first : (y : Bool) (f : Process) → y ≡ true → is_always_comb f.kind ≡ true → first_status y f ≡ Waiting Start
  held_first y f h c = ap (λ x. if x && y then Waiting Start else Ready) c ∙ ap (λ x. if x then Waiting Start else Ready) h

  first_awaits : (y : Bool) (f : Process) → AreAwaited (first_status y f)
  first_awaits y f = by_test (is_always_comb f.kind && y)
    where
      by_test : (z : Bool) → AreAwaited (if z then Waiting Start else Ready)
      by_test true = tt
      by_test false = tt

  states_are : (fs : List Process) → AllByRecursion IsBuiltProcess fs → AreStates (list_any starts d.processes) fs (map (opening_process d) fs)
  states_are [] h = tt
  states_are (f ∷ fs) h =
      (record { side = refl; program = h.0.of_module; parent = refl; rest = body_plain d b f.body None; awaits = first_awaits (list_any starts d.processes) f; held = λ y c. held_first (list_any starts d.processes) f y c }, states_are fs h.1)

  -- ---- their weights

  ready_test : Side → ProcessState → Bool
  ready_test s q = same_side s q.side && is_ready q.latest

three_weights : (w : ProcessId → ℕ) (f g : ProcessId → Bool) (t u : ℕ → ProcessState → Bool) (n : ℕ) (qs : List ProcessState) → TestsStates f t n qs → TestsStates g u n qs
    → ((m : ℕ) (q : ProcessState) → t m q ≡ true → u m q ≡ false) → ((m : ℕ) (q : ProcessState) → t m q ≡ true → is_parked q.latest ≡ false) → ((m : ℕ) (q : ProcessState) → u m q ≡ true → is_parked q.latest ≡ false)
    → sum_by w (filter f (numbered_from n qs)) + sum_by w (filter g (numbered_from n qs)) + parked_weight w n qs ≤ sum_by w (numbered_from n qs)
three_weights w f g t u n [] a b x y z = let s : sum_by w [] ≡ 0 = refl in omega (arith, s)
three_weights w f g t u n (q ∷ qs) a b x y z =
    by_tests (t n q) (u n q) (is_parked q.latest) (here a) (here b) (x n q) (y n q) (z n q) (three_weights w f g t u (n + 1) qs (later a) (later b) x y z)
  where
    here : {f : ProcessId → Bool} {t : ℕ → ProcessState → Bool} → TestsStates f t n (q ∷ qs) → f (record { 0 = n }) ≡ t n q
    here {f} {t} h = (let z : n ≡ n + 0 = omega arith in ap (λ m. f (record { 0 = m })) z ∙ h.at 0 q refl ∙ ap (λ m. t m q) (sym z))

    later : {f : ProcessId → Bool} {t : ℕ → ProcessState → Bool} → TestsStates f t n (q ∷ qs) → TestsStates f t (n + 1) qs
    later {f} {t} h = record { at = λ i x g. (let z : n + 1 + i ≡ n + suc i = omega arith in ap (λ m. f (record { 0 = m })) z ∙ h.at (suc i) x g ∙ ap (λ m. t m x) (sym z)) }

    all : sum_by w (record { 0 = n } ∷ numbered_from (n + 1) qs) ≡ w (record { 0 = n }) + sum_by w (numbered_from (n + 1) qs)
    all = sum_by-cons w (record { 0 = n }) (numbered_from (n + 1) qs)

    kept : (h : ProcessId → Bool) (y : Bool) → h (record { 0 = n }) ≡ y → sum_by w (filter h (record { 0 = n } ∷ numbered_from (n + 1) qs)) ≡ (if y then w (record { 0 = n }) else 0) + sum_by w (filter h (numbered_from (n + 1) qs))
    kept h true e = ap (λ y. sum_by w (cond y (record { 0 = n } ∷ filter h (numbered_from (n + 1) qs)) (filter h (numbered_from (n + 1) qs)))) e ∙ sum_by-cons w (record { 0 = n }) (filter h (numbered_from (n + 1) qs))
    kept h false e = let z = ap (λ y. sum_by w (cond y (record { 0 = n } ∷ filter h (numbered_from (n + 1) qs)) (filter h (numbered_from (n + 1) qs)))) e in omega (arith, z)

    by_tests : (i j k : Bool) → f (record { 0 = n }) ≡ i → g (record { 0 = n }) ≡ j → (i ≡ true → j ≡ false) → (i ≡ true → k ≡ false) → (j ≡ true → k ≡ false)
        → sum_by w (filter f (numbered_from (n + 1) qs)) + sum_by w (filter g (numbered_from (n + 1) qs)) + parked_weight w (n + 1) qs ≤ sum_by w (numbered_from (n + 1) qs)
        → sum_by w (filter f (record { 0 = n } ∷ numbered_from (n + 1) qs)) + sum_by w (filter g (record { 0 = n } ∷ numbered_from (n + 1) qs)) + ((if k then w (record { 0 = n }) else 0) + parked_weight w (n + 1) qs) ≤ sum_by w (record { 0 = n } ∷ numbered_from (n + 1) qs)
    by_tests true true k e h a b c i = absurd (let z : true ≡ false = a refl in cc)
    by_tests true false true e h a b c i = absurd (let z : true ≡ false = b refl in cc)
    by_tests false true true e h a b c i = absurd (let z : true ≡ false = c refl in cc)
    by_tests true false false e h a b c i = let m = kept f true e in let n = kept g false h in omega (arith, all, i, m, n)
    by_tests false true false e h a b c i = let m = kept f false e in let n = kept g true h in omega (arith, all, i, m, n)
    by_tests false false true e h a b c i = let m = kept f false e in let n = kept g false h in omega (arith, all, i, m, n)
    by_tests false false false e h a b c i = let m = kept f false e in let n = kept g false h in omega (arith, all, i, m, n)

module _ (d : Parts) (b : IsBuilt d) where
  tests : (s : Side) → TestsStates (λ p. state_test (λ q. same_side s q.side && is_ready q.latest) (slice_get (all_states d b) p.0)) (λ m q. same_side s q.side && is_ready q.latest) 0 (all_states d b)
  tests s = record { at = λ i q e. (let z : 0 + i ≡ i = omega arith in ap (λ m. state_test (λ q. same_side s q.side && is_ready q.latest) (slice_get (all_states d b) m)) z ∙ ap (state_test (λ q. same_side s q.side && is_ready q.latest)) e) }

  apart : (m : ℕ) (q : ProcessState) → (same_side Active q.side && is_ready q.latest) ≡ true → (same_side Reactive q.side && is_ready q.latest) ≡ false
  apart m q = by_side q.side (is_ready q.latest)
    where
      by_side : (s : Side) (y : Bool) → (same_side Active s && y) ≡ true → (same_side Reactive s && y) ≡ false
      by_side Active y h = refl
      by_side Reactive y h = cc

  ready_not_parked : (s : Side) (m : ℕ) (q : ProcessState) → (same_side s q.side && is_ready q.latest) ≡ true → is_parked q.latest ≡ false
  ready_not_parked s m q = by_status (same_side s q.side) q.latest
    where
      by_status : (y : Bool) (l : Status) → (y && is_ready l) ≡ true → is_parked l ≡ false
      by_status true Ready h = refl
      by_status true l h = absurd (cc)
      by_status false l h = absurd (cc)

  opened_related : (p : ProcessId) (y : Bool) (f : Process) (qs : List ProcessState) → AreChildren qs p (first_status y f) × (is_complete qs (first_status y f) ≡ false)
  opened_related p y f qs = by_test (is_always_comb f.kind && y)
    where
      by_test : (z : Bool) → AreChildren qs p (if z then Waiting Start else Ready) × (is_complete qs (if z then Waiting Start else Ready) ≡ false)
      by_test true = (tt, refl)
      by_test false = (tt, refl)

  all_related : AreRelated (all_states d b)
  all_related = record {
    few = (let f = b.few_processes in let e = length_map d.processes in omega (arith, e, f));
    each = λ p q is. by_process p q (slice_get d.processes p.0) (sym (slice_get-map (opening_process d) d.processes p.0) ∙ is);
  }
    where
      length_map : (fs : List Process) → length (map (opening_process d) fs) ≡ length fs
      length_map [] = refl
      length_map (f ∷ fs) = ap suc (length_map fs)

      by_process : (p : ProcessId) (q : ProcessState) (o : Option Process) → option_map (opening_process d) o ≡ Some q → IsRelated (all_states d b) p q
      by_process p q None e = absurd (cc)
      by_process p q (Some f) e =
          let w = opened_related p (list_any starts d.processes) f (all_states d b) in
          let same : opening_process d f ≡ q = cc in
          subst (IsRelated (all_states d b) p) same (record { parent = tt; children = w.0; waits = w.1 })

  pub opening_sound : IsSound d (opening d)
  opening_sound =
      record {
        no_heap = ap (λ (w : World). w.heap) (opening_only d b).is;
        no_clocks = ap (map (opening_clock d)) b.no_clockings;
        no_monitor = refl;
        plain = record { active = record { jobs = tt; updates = tt; clocks = refl }; reactive = record { jobs = tt; updates = tt; clocks = refl } };
        each_event = tt;
        states = subst (λ y. AreStates y d.processes (all_states d b)) (sym (pends d b d.processes)) (states_are d b d.processes b.each_process);
        related = all_related;
        made = subst (AllByRecursion (IsMadeBy (all_states d b))) (sym (ap (λ (w : World). w.activations) (opening_only d b).is)) tt;
        weights = λ w.
            let s = standing_weight w (opening d).regions in
            let l = three_weights w _ _ _ _ 0 (all_states d b) (tests Active) (tests Reactive) apart (ready_not_parked Active) (ready_not_parked Reactive) in
            let z : sum_by (weight_of_event w) [] ≡ 0 = refl in
            let y : sum_by w [] ≡ 0 = refl in
            omega (arith, s, l, z, y);
      }

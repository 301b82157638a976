-- What each effect of a built design leaves.
use Rattle.std.proofs.Common.{ℕ, ◌≡◌, List, [], ◌∷◌, ◌++◌, Option, None, Some, Bool, true, false, cond, refl, ap, ◌∙◌, slice_get, slice_set, filter, map, length}
use Rattle.std.specs.Prelude.{Result, Ok, Err, ◌+◌, ◌^◌, nat_lt, IsNone, ◌&&◌, ◌||◌, not, is_some, if◌then◌else◌}
use Rattle.std.specs.List.{AllByRecursion}
use Rattle.std.proofs.lemmas.Bool.{eq-eqb}
use Rattle.sv_value.specs.declared.number.ProcessId.{ProcessId}
use Rattle.sv_value.specs.declared.number.RoutineId.{RoutineId}
use Rattle.sv_value.specs.declared.place.Place.{Place}
use Rattle.sv_value.specs.declared.place.FaultKind.{FaultKind}
use Rattle.sv_value.specs.declared.place.FaultKind.TheVariants as fault
use Rattle.sv_value.specs.declared.val.Val.{Val}
use Rattle.sv_value.specs.declared.val.Plain.TheVariants as plain
use Rattle.sv_value.specs.Regions.{ready_in, front_of, idle_of}
use Rattle.sv_value.specs.declared.operator.Piece.{Piece}
use Rattle.sv_value.specs.declared.schedule.Range.{Range}
use Rattle.sv_value.specs.declared.schedule.Job.{Job}
use Rattle.sv_value.specs.declared.schedule.Due.TheVariants.{Resume}
use Rattle.sv_flat.specs.declared.object.DataType.{DataType}
use Rattle.sv_flat.specs.declared.object.DataType.TheVariants as type
use Rattle.sv_flat.specs.declared.clocking.Clocking.{Clocking}
use Rattle.sv_flat.specs.declared.design.Parts.{Parts}
use Rattle.sv_flat.specs.declared.process.Process.{Process}
use Rattle.sv_flat.specs.declared.process.ProcessKind.{ProcessKind}
use Rattle.sv_flat.specs.declared.process.ProcessKind.TheVariants as kind
use Rattle.sv_flat.specs.declared.process.Watch.{Watch}
use Rattle.sv_flat.specs.declared.stmt.PrintKind.TheVariants as print
use Rattle.sv_flat.specs.declared.stmt.JoinKind.{JoinKind}
use Rattle.sv_flat.specs.Expr.{Expr}
use Rattle.sv_flat.specs.State.{Name, Heap, World, first_value}
use Rattle.sv_flat.specs.Eval.{with_result}
use Rattle.sv_flat.specs.Process
use Rattle.sv_flat.specs.Process.{ProcessState, Status, Waiting, Moment, Turn_in_slot, Watches, Todo, Effect, Spot, Cell, Variable_of, Remain, Enter, Write, Suspend, Resume_at, Update_at, Spawn, Await_children, End_descendants, Print_text, Keep_print, Finish_run, End, Fail, body_in}
use Rattle.sv_flat.specs.Config.{Config, process_at, set_at, with_process, first_process, numbers_of, side_in, side_of, all_made_ready, met_fault}
use Rattle.sv_flat.specs.Woken.{Changed, woken}
use Rattle.sv_flat.specs.Effects.{is_in, woken_by, all_occurred, occurred, applied, after_change, clocks_from, occurrence, event_waiters, woken_by_effect, world_after, scheduled_after, with_world, made_by, may_go_on}
use Rattle.sv_flat.specs.Effects.Creation.{entered, fresh_value, fresh_values}
use Rattle.sv_flat.specs.Effects.Ends.{is_running, ended, all_ended, at_end, joined, descendants, living_children, program_checked}
use Rattle.sv_flat.specs.Effects.Scheduling.{scheduled, suspended, update_scheduled, spawned, awaiting}
use Rattle.sv_flat.specs.Effects.Writes.{variable_over}
use Rattle.sv_built.specs.Built.{IsBuiltType}
use Rattle.sv_sound.specs.Sound.{IsCell}
use Rattle.sv_sound.specs.After.{with_state, remaining, waiting_until, turned, watching, with_values, changed_in, changed_to, varied_to, store_after, entered_by, entering, recorded, strobe_kept}
use Rattle.sv_sound.proofs.Wakes.{woken_within, change_is, slice_get-set_same, slice_set-set}

-- the first values of variables of built types make nothing on the heap
fresh_first : (t : DataType) → IsBuiltType t → (h : Heap) → fresh_value t h ≡ Ok (first_value t, h)
fresh_first (type.Plain (plain.Integral t)) b h = refl
fresh_first (type.Plain plain.Text) b h = refl
fresh_first t b h = absurd b

pub fresh_built : (ts : List DataType) → AllByRecursion IsBuiltType ts → (h : Heap) → fresh_values ts h ≡ Ok (map first_value ts, h)
fresh_built [] b h = refl
fresh_built (t ∷ ts) b h =
    ap (λ x. with_result x (λ a. with_result (fresh_values ts a.1) (λ b. Ok (a.0 ∷ b.0, b.1)))) (fresh_first t b.0 h)
    ∙ ap (λ x. with_result x (λ b. Ok (first_value t ∷ b.0, b.1))) (fresh_built ts b.1 h)

none_kept : {A : Type 0} (xs : List A) → filter (λ x. false) xs ≡ []
none_kept [] = refl
none_kept (x ∷ xs) = none_kept xs

module _ (d : Parts) (none : d.clockings ≡ []) (at : Place) (p : ProcessId) (c : Config) where
  -- ---- effects that change no value

  -- where there is no clocking block, an effect that wakes nobody leaves what it does itself
  quiet : (e : Effect) → occurrence e ≡ None → event_waiters e c ≡ [] → world_after d p (made_by (process_at c p)) e c.world ≡ Ok c.world
      → woken_by_effect d e c (applied d at p e c) ≡ [] → occurred d at p e c ≡ scheduled_after d at p e c
  quiet e o w k n =
      ap (λ ps. after_change d ps c (applied d at p e c)) n
      ∙ ap (λ (ks : List Clocking). record (applied d at p e c) { regions = clocks_from 0 ks c (applied d at p e c) (applied d at p e c).regions }) none
      ∙ ap (with_world d at p e c) k

  -- it wakes nobody
  pub quiet_is : (e : Effect) → occurrence e ≡ None → event_waiters e c ≡ [] → occurred d at p e c ≡ applied d at p e c
  quiet_is e o w =
      let new = applied d at p e c in
      (λ i. after_change d (filter (λ q. is_in q (w i) || is_in q (woken_by d (o i) c new)) (numbers_of c)) c new)
      ∙ ap (λ ps. after_change d ps c new) (none_kept (numbers_of c))
      ∙ ap (λ (ks : List Clocking). record new { regions = clocks_from 0 ks c new new.regions }) none

  pub fail_is : (k : FaultKind) → occurred d at p (Fail k) c ≡ met_fault k at c
  fail_is k =
      ap (λ ps. after_change d ps c (met_fault k at c)) (none_kept (numbers_of c))
      ∙ ap (λ (ks : List Clocking). record (met_fault k at c) { regions = clocks_from 0 ks c (met_fault k at c) c.regions }) none

  pub finish_is : occurred d at p Finish_run c ≡ record c { finishing = true }
  finish_is = quiet Finish_run refl refl refl (none_kept (numbers_of c))

  pub await_is : occurred d at p Await_children c ≡ awaiting p (living_children c p) c
  await_is = quiet Await_children refl refl refl (none_kept (numbers_of c))

  pub disable_is : occurred d at p End_descendants c ≡ all_ended (descendants c p) c
  disable_is = quiet End_descendants refl refl refl (none_kept (numbers_of c))

  -- a process that was forked is at the end of its body
  pub end_forked : first_process d p ≡ None → occurred d at p End c ≡ all_made_ready (joined (ended p c)) (ended p c)
  end_forked e = quiet End refl refl refl (none_kept (numbers_of c)) ∙ ap (λ o. at_end d p o c) e

  pub now_is : (ps : List Piece) (es : List Expr) → occurred d at p (Keep_print print.Now ps es) c ≡ c
  now_is ps es = quiet (Keep_print print.Now ps es) refl refl refl (none_kept (numbers_of c))

  -- ---- a write

  -- other values, with those whom the change wakes
  wakes_those : (w : World)
      → after_change d (filter (λ q. is_in q (woken d Changed c (with_values w c))) (numbers_of c)) c (with_values w c) ≡ changed_in d w c
  wakes_those w = ap (λ ps. after_change d ps c (with_values w c)) (woken_within d c (with_values w c)) ∙ change_is d none c w

  pub effect_write_is : (s : Spot) → IsCell s → (x : Val) → occurred d at p (Write s x) c ≡ changed_to d (store_after s x c.store) c
  effect_write_is (Cell o i r) h x = wakes_those (record c.world { store = store_after (Cell o i r) x c.store })
  effect_write_is Process.Nowhere h x = wakes_those c.world
  effect_write_is s h x = absurd h

  -- of a variable of an activation
  pub variable_write_is : (n : Name) (i : ℕ) (r : Option Range) (x : Val)
      → occurred d at p (Write (Variable_of n i r) x) c ≡ varied_to d (variable_over n i r x c.activations) c
  variable_write_is n i r x = wakes_those (record c.world { activations = variable_over n i r x c.activations })

  -- ---- effects on the process itself

  module _ (q : ProcessState) (is : process_at c p ≡ Some q) where
    changed : (g : ProcessState → ProcessState) (e : Config) → e.processes ≡ c.processes → with_process p g e ≡ record e { processes = slice_set c.processes p.0 (g q) }
    changed g e same =
        ap (λ qs. record e { processes = set_at (slice_get qs p.0) g p qs }) same
        ∙ ap (λ o. record e { processes = set_at o g p c.processes }) is

    side : side_of c p ≡ q.side
    side = ap side_in is

    pub remain_is : (rest : List Todo) → occurred d at p (Remain rest) c ≡ remaining p q rest c
    remain_is rest = quiet (Remain rest) refl refl refl (none_kept (numbers_of c)) ∙ changed (λ q. record q { rest = rest }) c refl

    pub print_is : (t : List ℕ) → occurred d at p (Print_text t) c ≡ recorded q t c
    print_is t =
        quiet (Print_text t) refl refl refl (none_kept (numbers_of c))
        ∙ ap (λ s. record c { records = c.records ++ record { side = s; text = t } ∷ [] }) side

    pub strobe_is : (ps : List Piece) (es : List Expr) → occurred d at p (Keep_print print.Strobe ps es) c ≡ strobe_kept (record { side = q.side; at = at; pieces = ps; values = es }) c
    strobe_is ps es =
        quiet (Keep_print print.Strobe ps es) refl refl refl (none_kept (numbers_of c))
        ∙ ap (λ s. strobe_kept (record { side = s; at = at; pieces = ps; values = es }) c) side

    pub resume_is : (t : ℕ) → occurred d at p (Resume_at t) c ≡ waiting_until p q t c
    resume_is t =
        quiet (Resume_at t) refl refl refl (none_kept (numbers_of c))
        ∙ ap (λ s. scheduled t (front_of s) (Resume p) (suspended p Moment c)) side
        ∙ ap (λ (e : Config). scheduled t (front_of q.side) (Resume p) e) (changed (λ q. record q { latest = Waiting Moment }) (record c { running = None }) refl)

    pub turn_is : occurred d at p (Suspend Turn_in_slot) c ≡ turned p q c
    turn_is =
        quiet (Suspend Turn_in_slot) refl refl refl (none_kept (numbers_of c))
        ∙ ap (λ s. record (suspended p Turn_in_slot c) { regions = ready_in (idle_of s) p c.regions }) side
        ∙ ap (λ (e : Config). record e { regions = ready_in (idle_of q.side) p c.regions }) (changed (λ q. record q { latest = Waiting Turn_in_slot }) (record c { running = None }) refl)

    pub watch_is : (ws : List Watch) (scope : Option Name) → occurred d at p (Suspend (Watches ws scope)) c ≡ watching p q ws scope c
    watch_is ws scope =
        quiet (Suspend (Watches ws scope)) refl refl refl (none_kept (numbers_of c))
        ∙ changed (λ q. record q { latest = Waiting (Watches ws scope) }) (record c { running = None }) refl

    pub spawn_is : (rs : List RoutineId) (scope : Option Name) (k : JoinKind) → occurred d at p (Spawn rs scope k) c ≡ spawned d at p rs scope k (Some q) c
    spawn_is rs scope k = quiet (Spawn rs scope k) refl refl refl (none_kept (numbers_of c)) ∙ ap (λ o. spawned d at p rs scope k o c) is

    -- an activation more
    pub enter_is : (ts : List DataType) → AllByRecursion IsBuiltType ts → (around : Option Name) → occurred d at p (Enter ts around) c ≡ entering at p q ts around c
    enter_is ts h around =
        ap (λ ps. after_change d ps c (applied d at p (Enter ts around) c)) (none_kept (numbers_of c))
        ∙ ap (λ (ks : List Clocking). record (applied d at p (Enter ts around) c) { regions = clocks_from 0 ks c (applied d at p (Enter ts around) c) (applied d at p (Enter ts around) c).regions }) none
        ∙ ap (λ o. with_world d at p (Enter ts around) c (entered p (made_by o) ts around c.world)) is
        ∙ by_room (nat_lt (length c.activations) (2 ^ 24))
      where
        added : World
        added = record c.world { activations = c.activations ++ record { name = record { process = p; place = q.made }; around = around; values = map first_value ts } ∷ [] }

        to : Bool → Result (List Val × Heap) FaultKind → Config
        to y r =
            with_world d at p (Enter ts around) c
            (if y
            then with_result r (λ a. Ok (record c.world {
              heap = a.1;
              activations = c.activations ++ record { name = record { process = p; place = q.made }; around = around; values = a.0 } ∷ [];
            }))
            else Err fault.Activations)

        by_room : (y : Bool) → to y (fresh_values ts c.heap) ≡ (if y then entered_by p q ts around c else met_fault fault.Activations at c)
        by_room true = ap (to true) (fresh_built ts h c.heap) ∙ changed (λ q. record q { made = q.made + 1 }) (record c { world = added }) refl
        by_room false = refl

    pub update_is : (t : ℕ) (j : Job) → occurred d at p (Update_at t j) c ≡ update_scheduled q.side t j c
    update_is t j = quiet (Update_at t j) refl refl refl (none_kept (numbers_of c)) ∙ ap (λ s. update_scheduled s t j c) side

    -- at the end of its body
    module _ (f : Process) (first : first_process d p ≡ Some f) where
      end_is : occurred d at p End c ≡ at_end d p (Some f) c
      end_is = quiet End refl refl refl (none_kept (numbers_of c)) ∙ ap (λ o. at_end d p o c) first

      of_kind : (k : ProcessKind) → f.kind ≡ k → occurred d at p End c ≡ at_end d p (Some (record f { kind = k })) c
      of_kind k e = end_is ∙ ap (λ k. at_end d p (Some (record f { kind = k })) c) e

      pub end_initial : f.kind ≡ kind.Initial → f.program ≡ None → occurred d at p End c ≡ ended p c
      end_initial k g = of_kind kind.Initial k ∙ ap (λ o. program_checked d o (ended p c)) g

      again : (l : Status) (e : Config) → e ≡ remaining p q (body_in d f.body None) c
          → with_process p (λ q. record q { latest = l }) (record e { running = None })
          ≡ record (with_state p (record q { rest = body_in d f.body None; latest = l }) c) { running = None }
      again l e h =
          let v : ProcessState = record q { rest = body_in d f.body None } in
          ap (λ (e : Config). with_process p (λ q. record q { latest = l }) (record e { running = None })) h
          ∙ ap (λ o. record c { running = None; processes = set_at o (λ q. record q { latest = l }) p (slice_set c.processes p.0 v) }) (slice_get-set_same c.processes p.0 v q is)
          ∙ ap (λ qs. record c { running = None; processes = qs }) (slice_set-set c.processes p.0 v (record v { latest = l }))

      body_again : with_process p (λ q. record q { rest = body_in d f.body None }) c ≡ remaining p q (body_in d f.body None) c
      body_again = changed (λ q. record q { rest = body_in d f.body None }) c refl

      pub end_always : f.kind ≡ kind.Always → occurred d at p End c ≡ remaining p q (body_in d f.body None) c
      end_always k = of_kind kind.Always k ∙ body_again

      pub end_always_ff : f.kind ≡ kind.AlwaysFf → occurred d at p End c ≡ remaining p q (body_in d f.body None) c
      end_always_ff k = of_kind kind.AlwaysFf k ∙ body_again

      pub end_always_comb : f.kind ≡ kind.AlwaysComb → occurred d at p End c ≡ watching p (record q { rest = body_in d f.body None }) f.watched None c
      end_always_comb k = of_kind kind.AlwaysComb k ∙ again (Waiting (Watches f.watched None)) _ body_again

      pub end_assign : f.kind ≡ kind.Assign → occurred d at p End c ≡ watching p (record q { rest = body_in d f.body None }) f.watched None c
      end_assign k = of_kind kind.Assign k ∙ again (Waiting (Watches f.watched None)) _ body_again

      pub end_port : f.kind ≡ kind.Port → occurred d at p End c ≡ watching p (record q { rest = body_in d f.body None }) f.watched None c
      end_port k = of_kind kind.Port k ∙ again (Waiting (Watches f.watched None)) _ body_again

-- ---- the effects of a step, one after another

module _ (d : Parts) (at : Place) (p : ProcessId) where
  pub may_go : (c : Config) → c.running ≡ Some p → IsNone c.fault → may_go_on p c ≡ true
  may_go c r f = ap (λ o. is_running o p && not (is_some c.fault)) r ∙ ap (λ b. b && not (is_some c.fault)) (eq-eqb p.0 p.0 refl) ∙ no_fault c.fault f
    where
      no_fault : {A : Type 0} (o : Option A) → IsNone o → not (is_some o) ≡ true
      no_fault None h = refl
      no_fault (Some x) h = cc

  pub next : (e : Effect) (es : List Effect) (c : Config) → c.running ≡ Some p → IsNone c.fault → all_occurred d at p (e ∷ es) c ≡ all_occurred d at p es (occurred d at p e c)
  next e es c r f = ap (λ b. cond b (all_occurred d at p es (occurred d at p e c)) c) (may_go c r f)

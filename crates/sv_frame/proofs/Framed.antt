-- Equal reach gives equal steps.
use Rattle.std.proofs.Common.{◌≡◌, List, [], ◌∷◌, Option, None, Some, refl, ap, subst, sym, ◌∙◌, inl, inr}
use Rattle.std.specs.Prelude.{◌⊎◌, IsNone}
use Rattle.std.specs.List.{AllByRecursion}
use Rattle.sv_value.specs.declared.number.ProcessId.{ProcessId}
use Rattle.sv_value.specs.declared.schedule.Side.{Side}
use Rattle.sv_value.specs.declared.place.RunFault.{RunFault}
use Rattle.sv_flat.specs.declared.call.Call.{Call}
use Rattle.sv_flat.specs.declared.call.CallForm.{CallForm}
use Rattle.sv_flat.specs.declared.call.CallForm.TheVariants as call
use Rattle.sv_flat.specs.declared.stmt.Form.{Form}
use Rattle.sv_flat.specs.declared.stmt.Form.TheVariants as form
use Rattle.sv_flat.specs.declared.process.Process.{Process}
use Rattle.sv_flat.specs.declared.design.Parts.{Parts}
use Rattle.sv_flat.specs.Process.{ProcessState, Todo, Do, Turn, Effect, Exit_program, End}
use Rattle.sv_flat.specs.Config.{Config, process_at, first_process, side_of, side_in, seen}
use Rattle.sv_flat.specs.Laws.{IsReached, DoesStep, MeetsActivations, SameReach, SameStep, Frames, all_applied, effects_of, step_effects, place_in, step_before_wakes}
use Rattle.sv_built.specs.Built.{IsBuiltProcess, IsBuilt, IsBuiltCallForm, IsBuiltCall, IsBuiltForm}
use Rattle.sv_sound.specs.Sound.{IsSound, IsPlainTodo, IsPlainEffect}
use Rattle.sv_sound.proofs.Weights.{all_at}
use Rattle.sv_sound.proofs.Changes.{plain_at}
use Rattle.sv_sound.proofs.MicroPlain.{micro_plain}
use Rattle.sv_sound.proofs.Reached.{reached_sound}
use Rattle.sv_frame.specs.Framed.{IsFramed}
use Rattle.sv_frame.proofs.Masks.{states_same}
use Rattle.sv_frame.proofs.Alike.{Alike, same_step}
use Rattle.sv_frame.proofs.Outcomes.{IsOfNoProgram, IsFramedEffect, Outcome, all_outcome}
use Rattle.sv_frame.proofs.Heads.{micro_same}
use Rattle.sv_frame.proofs.Home.{head_same}
use Rattle.sv_frame.proofs.MicroHome.{IsFramedCall, IsFramedForm, IsFramedTodo}
use Rattle.sv_frame.proofs.StepHome.{micro_home}
use Rattle.sv_frame.proofs.Homes.{AllHome, RunsHome, own_side}
use Rattle.sv_frame.proofs.Runs.{IsHomeOf, legal_home}

-- ---- two configurations with equal reach, where what is left to run stands in the bodies of the side

module _ (d : Parts) (p : ProcessId) (c e : Config) (same : SameReach d (side_of c p) c e) (ss : List Side) (home : AllHome d ss c) where
  own_state : process_at c p ≡ process_at e p
  own_state = states_same (side_of c p) c.processes e.processes same.processes p.0 refl

  effects_same : step_effects d p c ≡ step_effects d p e
  effects_same = by_state (process_at c p) refl ∙ ap (effects_of d p e) own_state
    where
      by_state : (o : Option ProcessState) → process_at c p ≡ o → effects_of d p c o ≡ effects_of d p e o
      by_state None is = refl
      by_state (Some q) is =
          let here : SameReach d q.side c e = subst (λ s. SameReach d s c e) (ap side_in is) same in
          micro_same d (seen d c) (seen d e) p q (head_same d q.side c e here ss home.are home.around q.rest (home.each p q is))

  -- equal effects, and after them an equal step, or the fault that depends on all activations
  pub frames : IsBuilt d → AllByRecursion (IsFramedEffect (first_process d p)) (step_effects d p c) → AllByRecursion IsPlainEffect (step_effects d p c) → IsSound d c → IsSound d e
      → DoesStep p c → DoesStep p e → Frames d p c e
  frames b framed plain sound sound_too runs ran = record { effects = effects_same; outcome = by_outcome outcome }
    where
      no_fault : (o u : Option RunFault) → IsNone o → IsNone u → o ≡ u
      no_fault None None h k = refl
      no_fault None (Some f) h k = absurd (cc)
      no_fault (Some f) u h k = absurd (cc)

      s : Side
      s = side_of c p

      alike : Alike d s p c e
      alike = record { reach = same; fault = no_fault c.fault e.fault runs.going ran.going; running = runs.running ∙ sym ran.running; mine = refl }

      outcome : Outcome d s p c e (step_before_wakes d p c) (step_before_wakes d p e)
      outcome =
          subst (λ o. Outcome d s p c e (step_before_wakes d p c) (all_applied d (place_in o) p (step_effects d p e) e)) own_state
          (subst (λ xs. Outcome d s p c e (step_before_wakes d p c) (all_applied d (place_in (process_at c p)) p xs e)) effects_same
          (all_outcome d s (place_in (process_at c p)) p b (step_effects d p c) framed plain c e alike sound sound_too))

      by_outcome : Outcome d s p c e (step_before_wakes d p c) (step_before_wakes d p e)
          → MeetsActivations (step_before_wakes d p c) ⊎ (MeetsActivations (step_before_wakes d p e) ⊎ SameStep d s c e (step_before_wakes d p c) (step_before_wakes d p e))
      by_outcome (inl m) = inl m
      by_outcome (inr (inl m)) = inr (inl m)
      by_outcome (inr (inr m)) = inr (inr (same_step d s p c e (step_before_wakes d p c) (step_before_wakes d p e) m))

-- ---- built designs

call_framed : (c : CallForm) → IsBuiltCallForm c → IsFramedCall c
call_framed (call.Routine r e as') h = tt
call_framed c h = absurd h

calls_framed : (cs : List Call) → AllByRecursion IsBuiltCall cs → AllByRecursion (λ c. IsFramedCall c.form) cs
calls_framed [] h = tt
calls_framed (c ∷ cs) h = (call_framed c.form h.0, calls_framed cs h.1)

form_framed : (f : Form) → IsBuiltForm f → IsFramedForm f
form_framed (form.Call c) h = call_framed c.form h
form_framed f h = tt

todo_framed : (t : Todo) → IsPlainTodo t → IsFramedTodo t
todo_framed (Do t cs outer hidden) h = (form_framed t.form h.0.built, calls_framed cs h.1)
todo_framed (Turn t scope) h = (form_framed t.form h.built, calls_framed t.calls h.calls)
todo_framed t h = tt

todos_framed : (ts : List Todo) → AllByRecursion IsPlainTodo ts → AllByRecursion IsFramedTodo ts
todos_framed [] h = tt
todos_framed (t ∷ ts) h = (todo_framed t h.0, todos_framed ts h.1)

effect_framed : (f : Option Process) → IsOfNoProgram f → (x : Effect) → IsPlainEffect x → IsFramedEffect f x
effect_framed f b Exit_program h = absurd h
effect_framed f b End h = b
effect_framed f b x h = tt

effects_framed : (f : Option Process) → IsOfNoProgram f → (xs : List Effect) → AllByRecursion IsPlainEffect xs → AllByRecursion (IsFramedEffect f) xs
effects_framed f b [] h = tt
effects_framed f b (x ∷ xs) h = (effect_framed f b x h.0, effects_framed f b xs h.1)

module _ (d : Parts) (b : IsBuilt d) where
  runs_home : (c : Config) → IsReached d c → (k : IsHomeOf d c) → RunsHome d k.all k.begins c
  runs_home c reached k p q r is =
      let plain = (plain_at d c (reached_sound d b c reached) p q is).rest in
      micro_home d k.all q.side (seen d c) p q (own_side d k.all k.begins c k.home p q is) (k.home.each p q is) (todos_framed q.rest plain)

  no_program : (p : ProcessId) (o : Option Process) → first_process d p ≡ o → IsOfNoProgram o
  no_program p None is = tt
  no_program p (Some f) is = (all_at IsBuiltProcess d.processes p.0 f is b.each_process).of_module

  step_plain : (c : Config) → IsSound d c → (p : ProcessId) (o : Option ProcessState) → process_at c p ≡ o → AllByRecursion IsPlainEffect (effects_of d p c o)
  step_plain c h p None is = tt
  step_plain c h p (Some q) is = micro_plain d b (seen d c) p q (plain_at d c h p q is).rest

  pub built_framed : IsFramed d
  built_framed p c e reached too runs ran same =
      let k = legal_home d runs_home c reached.0 reached.1 in
      let sound = reached_sound d b c reached in
      let plain = step_plain c sound p (process_at c p) refl in
      frames d p c e same k.all k.home b (effects_framed (first_process d p) (no_program p (first_process d p) refl) (step_effects d p c) plain) plain sound (reached_sound d b e too) runs ran

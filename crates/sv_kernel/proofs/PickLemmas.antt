-- What a machine keeps after a pick.
use Rattle.std.proofs.Common.{ℕ, zero, suc, ◌≡◌, List, [], ◌∷◌, Option, None, Some, Bool, true, false, refl, ap, subst, sym, ◌∙◌, arith, length, slice_get}
use Rattle.std.specs.Prelude.{IsNone, remove, ◌==◌, if◌then◌else◌, is_some}
use Rattle.std.specs.List.{AllByRecursion}
use Rattle.sv_value.specs.declared.number.ProcessId.{ProcessId}
use Rattle.sv_value.specs.declared.schedule.Side.{Side}
use Rattle.sv_value.specs.declared.schedule.Side.TheVariants.{Active, Reactive}
use Rattle.sv_value.specs.declared.schedule.Job.{Job}
use Rattle.sv_value.specs.Regions.{Regions, Set, set_of, with_set, pickable, job_count}
use Rattle.sv_flat.specs.declared.choices.Choices.{Choices}
use Rattle.sv_flat.specs.declared.design.Parts.{Parts}
use Rattle.sv_flat.specs.Config.{Config, made_ready, all_made_ready}
use Rattle.sv_flat.specs.Steps.{Kind, Take_process, Take_job, after, effect, counted, front, acting, job_done, combs_started, held_combs}
use Rattle.sv_flat.specs.Directed.{kind_at, place_among, place_on}
use Rattle.sv_flat.proofs.Grows.{Settled, Still, taken_still}
use Rattle.sv_flat.proofs.Converse.{one_job, process_at_place, jobs_at_most}
use Rattle.sv_built.specs.Built.{IsBuilt}
use Rattle.sv_sound.specs.Sound.{IsPlainJob}
use Rattle.sv_sound.specs.After.{taken_short, is_last}
use Rattle.sv_sound.proofs.Reached.{take_is, job_is, job_short, job_sound, plain_front}
use Rattle.sv_sched.specs.declared.regions.Picked.TheVariants as picked
use Rattle.sv_sched.specs.Lists.{picks, without_pick}
use Rattle.sv_sched.proofs.PickLemmas.{picks_process, picks_job}
use Rattle.sv_machine.specs.declared.machine.Machine.{Machine}
use Rattle.sv_machine.specs.Machine.{Picture, of_machine, Stands, StandsFor, Tracks, Makes}
use Rattle.sv_machine.specs.Starts.{Takes, Begins}
use Rattle.sv_kernel.specs.Picks.{acting_side, with_used, numbers_for, place_for, picked as picked_in, taken_from, SameNumbers}
use Rattle.sv_kernel.proofs.StepLemmas.{acting_is, set_is, used_tracks}

-- a machine with other regions
pub with_regions : (d : Parts) (m : Machine) (c : Config) (r q : Regions) → Stands d m c → r ≡ q → Stands d (record m { regions = r }) (record c { regions = q })
with_regions d m c r q s e = record {
  picture = (λ i. record (of_machine d m) { regions = e i }) ∙ ap (λ (u : Picture). record u { regions = q }) s.picture;
  covers = s.covers;
  alive = s.alive;
  last = s.last;
}

none_runs : (o : Option ProcessId) → o ≡ None → IsNone o
none_runs o e = ap is_some e

-- ---- the place of a pick

module _ (d : Parts) (b : IsBuilt d) (m : Machine) (side : Side) (place : ℕ) (r : Regions) (is : side ≡ acting_side m) (left : r ≡ with_set side (without_pick (set_of side m.regions) place) m.regions) where
  module _ (c : Config) (h : StandsFor d m c) where
    side_is : side ≡ acting c
    side_is = is ∙ acting_is d m c h.stands

    picked_set : set_of side m.regions ≡ front c
    picked_set = ap (λ (e : Side). set_of e m.regions) is ∙ set_is d m c h.stands

    regions_are : (x : Set) → without_pick (front c) place ≡ x → r ≡ with_set (acting c) x c.regions
    regions_are x e =
        left ∙ ap (λ (y : Set). with_set side (without_pick y place) m.regions) picked_set ∙ ap (λ (y : Set). with_set side y m.regions) e
        ∙ ap (λ (t : Side). with_set t x m.regions) side_is ∙ ap (λ (u : Picture). with_set (acting c) x u.regions) h.stands.picture

    -- a process is picked
    pub record Picks (p : ProcessId) : Type 0 where
      pub at : ℕ
      pub kind : kind_at (job_count (front c)) place ≡ Take_process at
      pub takes : Takes d (record m { regions = r }) p c at

    pub process_picked : (p : ProcessId) → m.running ≡ None → slice_get (picks (set_of side m.regions)) place ≡ Some (picked.Process p) → Picks p
    process_picked p idle got =
        let k = picks_process (front c) place p (ap (λ (x : Set). slice_get (picks x) place) (sym picked_set) ∙ got) in
        record {
          at = k.place;
          kind = ap (kind_at (job_count (front c))) k.at ∙ process_at_place (job_count (front c)) k.place (jobs_at_most (front c));
          takes = record {
            got = k.got;
            sound = h.sound;
            going = h.going;
            idle = none_runs c.running (sym (ap (λ (u : Picture). u.running) h.stands.picture) ∙ idle);
            fault = h.fault;
            stands = with_regions d m c r (with_set (acting c) (record (front c) { ready = remove (front c).ready k.place }) c.regions) h.stands (regions_are _ k.left);
          };
        }

    -- a job is picked
    pub record PicksWork (j : Job) : Type 0 where
      pub rest : List Job
      pub kind : kind_at (job_count (front c)) place ≡ Take_job
      pub jobs : (front c).jobs ≡ j ∷ rest
      pub plain : IsPlainJob j
      pub stands : StandsFor d (record m { regions = r }) (job_short d b rest c)

    pub job_picked : (j : Job) → slice_get (picks (set_of side m.regions)) place ≡ Some (picked.Job j) → PicksWork j
    job_picked j got =
        let k = picks_job (front c) place j (ap (λ (x : Set). slice_get (picks x) place) (sym picked_set) ∙ got) in
        let all : AllByRecursion IsPlainJob (j ∷ k.rest) = subst (AllByRecursion IsPlainJob) k.jobs (plain_front d c h.sound).jobs in
        let one : job_count (front c) ≡ 1 = ap (λ (js : List Job). if length js == 0 then 0 else 1) k.jobs ∙ one_job (suc (length k.rest)) (omega arith) in
        record {
          rest = k.rest;
          kind = ap (kind_at (job_count (front c))) k.at ∙ ap (λ (n : ℕ). kind_at n 0) one;
          jobs = k.jobs;
          plain = all.0;
          stands = record {
            sound = job_sound d c h.sound b j k.rest k.jobs;
            going = h.going;
            fault = h.fault;
            stands = with_regions d m c r (with_set (acting c) (record (front c) { jobs = k.rest }) c.regions) h.stands (regions_are _ k.left);
          };
        }

  -- ---- what is made of it

  module _ (n : Machine) where
    pub process_done : (p : ProcessId) → m.running ≡ None → slice_get (picks (set_of side m.regions)) place ≡ Some (picked.Process p) → Begins d (record m { regions = r }) n p
        → Makes d m n (taken_from d place)
    process_done p idle got begins c h =
        let k = process_picked c h p idle got in
        subst (λ (x : Kind). Tracks d n (effect d c x)) (sym k.kind) (subst (Tracks d n) (sym (take_is d c k.at p k.takes.got)) (begins c k.at k.takes))

    pub job_picked_done : (j : Job) → slice_get (picks (set_of side m.regions)) place ≡ Some (picked.Job j) → Makes d (record m { regions = r }) n (job_done d j) → Makes d m n (taken_from d place)
    job_picked_done j got does c h =
        let k = job_picked c h j got in
        subst (λ (x : Kind). Tracks d n (effect d c x)) (sym k.kind) (subst (Tracks d n) (sym (job_is d b c j k.rest k.jobs)) (does (job_short d b k.rest c) k.stands))

    made_fault : (ps : List ProcessId) (c : Config) → (all_made_ready ps c).fault ≡ c.fault
    made_fault [] c = refl
    made_fault (p ∷ ps) c = made_fault ps (made_ready p c)

    combs_fault : (y : Bool) (c : Config) → (combs_started d y c).fault ≡ c.fault
    combs_fault true c = made_fault (held_combs d c) c
    combs_fault false c = refl

    -- no number is used yet
    pub process_numbers : (c : Config) → StandsFor d m c → (p : ProcessId) → m.running ≡ None → slice_get (picks (set_of side m.regions)) place ≡ Some (picked.Process p)
        → Begins d (record m { regions = r }) n p → SameNumbers m n
    process_numbers c h p idle got begins =
        let k = process_picked c h p idle got in
        let e = combs_started d (is_last d k.at p c) (taken_short k.at p c) in
        let t : Tracks d n e = begins c k.at k.takes in
        let still : Still c e = taken_still d (acting c) k.at (Some p) c in
        let s = t.going (ap is_some (combs_fault (is_last d k.at p c) (taken_short k.at p c)) ∙ h.going) in
        record {
          active = ap (λ (u : Picture). u.used_active) s.picture ∙ ap (λ (u : Settled). u.used_active) still.all ∙ sym (ap (λ (u : Picture). u.used_active) h.stands.picture);
          reactive = ap (λ (u : Picture). u.used_reactive) s.picture ∙ ap (λ (u : Settled). u.used_reactive) still.all ∙ sym (ap (λ (u : Picture). u.used_reactive) h.stands.picture);
        }

-- ---- the pick is counted

uses_number : (d : Parts) (c : Config) (j place : ℕ) → after d c (kind_at j place) ≡ counted (acting c) (numbers_for (pickable (front c))) (effect d c (kind_at j place))
uses_number d c zero place = refl
uses_number d c (suc j) zero = refl
uses_number d c (suc j) (suc place) = refl

module _ (d : Parts) (m : Machine) (side : Side) (count place : ℕ) (is : side ≡ acting_side m) (open_picks : count ≡ pickable (set_of side m.regions)) where
  module _ (c : Config) (h : StandsFor d m c) (a r : Choices) (at : place ≡ place_for side a r m count) where
    acts : side ≡ acting c
    acts = is ∙ acting_is d m c h.stands

    many : count ≡ pickable (front c)
    many = open_picks ∙ ap (λ (e : Side). pickable (set_of e m.regions)) is ∙ ap pickable (set_is d m c h.stands)

    used_for : (t : Side) → place_for t a r m (pickable (front c)) ≡ place_on t a r c
    used_for Active = ap (λ (u : Picture). place_among a u.used_active (pickable (front c))) h.stands.picture
    used_for Reactive = ap (λ (u : Picture). place_among r u.used_reactive (pickable (front c))) h.stands.picture

    place_is : place ≡ place_on (acting c) a r c
    place_is = at ∙ ap (λ (t : Side). place_for t a r m count) acts ∙ ap (place_for (acting c) a r m) many ∙ used_for (acting c)

    pub pick_tracks : (n f : Machine) → f ≡ with_used side (numbers_for count) (record n { executed = side }) → Tracks d n (taken_from d place c) → Tracks d f (picked_in d a r c)
    pick_tracks n f e t =
        let g : f ≡ with_used (acting c) (numbers_for (pickable (front c))) (record n { executed = acting c }) =
        e ∙ ap (λ (s : Side). with_used s (numbers_for count) (record n { executed = s })) acts
        ∙ ap (λ (k : ℕ). with_used (acting c) (numbers_for k) (record n { executed = acting c })) many in
        let kind : effect d c (kind_at (job_count (front c)) place) ≡ effect d c (kind_at (job_count (front c)) (place_on (acting c) a r c)) =
        ap (λ (k : ℕ). effect d c (kind_at (job_count (front c)) k)) place_is in
        subst (Tracks d f) (sym (uses_number d c (job_count (front c)) (place_on (acting c) a r c)))
        (subst (λ (x : Machine). Tracks d x (counted (acting c) (numbers_for (pickable (front c))) (effect d c (kind_at (job_count (front c)) (place_on (acting c) a r c))))) (sym g)
        (used_tracks d (acting c) (numbers_for (pickable (front c))) n _ (subst (Tracks d n) kind t)))

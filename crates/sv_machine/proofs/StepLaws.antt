-- The next step of the running process: its effects, one after another.
use Rattle.std.proofs.Common.{ℕ, ◌≡◌, ◌<◌, ◌+◌, Bool, true, false, List, [], ◌∷◌, ◌++◌, Option, None, Some, refl, ap, subst, sym, ◌∙◌, ◌↔◌, arith, length, map, slice_get, slice_set}
use Rattle.std.proofs.lemmas.Bool.Decides.{nat_tests}
use Rattle.std.specs.Prelude.{nat_lt, ◌^◌, slice_index_or, IsNone, IsTrue, is_some, not, ◌&&◌, ◌==◌, unwrap_or, get_or, reverse, if◌then◌else◌}
use Rattle.std.specs.List.{AllByRecursion}
use Rattle.std.proofs.lemmas.List.{reverse-append}
use Rattle.sv_value.specs.declared.number.ProcessId.{ProcessId}
use Rattle.sv_value.specs.declared.place.Place.{Place}
use Rattle.sv_value.specs.declared.place.RunFault.{RunFault}
use Rattle.sv_flat.specs.declared.design.Parts.{Parts}
use Rattle.sv_flat.specs.State.{Name, View}
use Rattle.sv_value.specs.declared.place.FaultKind.{FaultKind}
use Rattle.sv_value.specs.declared.place.FaultKind.TheVariants as fault
use Rattle.sv_flat.specs.declared.object.DataType.{DataType}
use Rattle.sv_flat.specs.Process.{ProcessState, Todo, Effect, Remain, Enter, no_place}
use Rattle.sv_arena.specs.Made.{next_name}
use Rattle.sv_value.specs.declared.val.Message.{Message}
use Rattle.sv_flat.specs.Micro.{run_first, Looks, micro, place_of_step}
use Rattle.sv_flat.specs.Effects.Ends.{is_running}
use Rattle.sv_flat.specs.Config.{Config, seen, unit_ticks, process_at, set_at, met_fault}
use Rattle.sv_flat.specs.Effects.{occurred, all_occurred, may_go_on}
use Rattle.sv_flat.specs.Steps.{statement_ran, ran_state}
use Rattle.sv_built.specs.Built.{IsBuilt, IsBuiltType}
use Rattle.sv_built.specs.Entered.{types_at}
use Rattle.sv_sound.specs.Sound.{IsSound, IsPlainEffect, IsPlainTodo}
use Rattle.sv_sound.specs.After.{with_state, remaining, entered_by, entering}
use Rattle.sv_sound.proofs.Weights.{there, got, map_at}
use Rattle.sv_sound.proofs.Wakes.{slice_get-set_same, slice_set-set}
use Rattle.sv_sound.proofs.Occurs.{next, remain_is, enter_is}
use Rattle.sv_sound.proofs.Changes.{plain_at}
use Rattle.sv_sound.proofs.Running.{state_sound, remain_sound, runs_calm}
use Rattle.sv_sound.proofs.EffectSound.{all_sound}
use Rattle.sv_sound.proofs.MicroPlain.{micro_plain}
use Rattle.sv_assign.specs.Seen.{view_in}
use Rattle.sv_stack.specs.declared.effect.Effect.{Effect as Own_effect}
use Rattle.sv_stack.specs.declared.frames.Frame.{Frame}
use Rattle.sv_process.specs.declared.steps.Stepped.{Stepped}
use Rattle.sv_stack.specs.declared.went.Went.{Went}
use Rattle.sv_stack.specs.declared.went.Went.TheVariants as went
use Rattle.sv_stack.specs.Effects.{effects_in, effects_of, is_held}
use Rattle.sv_stack.specs.Frames.{todos_of, SeesAll}
use Rattle.sv_machine.specs.Steps.{effects_done}
use Rattle.sv_sense.specs.Sensed.{Covers}
use Rattle.sv_machine.specs.declared.machine.Machine.{Machine}
use Rattle.sv_machine.specs.declared.line.Line.{Line}
use Rattle.sv_machine.specs.Waits.{awaited_by}
use Rattle.sv_machine.specs.Machine.{Picture, of_machine, of_config, IsAlive, Tracks, StandsFor, IsAt, Does, rest_of}
use Rattle.sv_machine.proofs.WriteLaws.{seen_before}
use Rattle.sv_machine.proofs.EffectLaws.{running_is, state_is, made_is, map_set, set_same, plain_picture, remain_tracks}

-- ---- one effect after another

goes : (p : ProcessId) (x : Config) → may_go_on p x ≡ true → (x.running ≡ Some p) × (x.fault ≡ None)
goes p x h = by_parts x.running x.fault h
  where
    by_parts : (o : Option ProcessId) (f : Option RunFault) → (is_running o p && not (is_some f)) ≡ true → (o ≡ Some p) × (f ≡ None)
    by_parts None f h = absurd (cc)
    by_parts (Some q) (Some y) h = absurd (never (q.0 == p.0) h)
      where
        never : (t : Bool) → (t && false) ≡ true → ⊥
        never true h = cc
        never false h = cc
    by_parts (Some q) None h = (let e : q.0 ≡ p.0 = grind (arith, nat_tests) in ap (λ (k : ℕ). Some (record { 0 = k })) e, refl)

pub reverse_last : {A : Type 0} (xs : List A) (x : A) → reverse (xs ++ x ∷ []) ≡ x ∷ reverse xs
reverse_last xs x = reverse-append xs (x ∷ [])

pub nothing_does : (d : Parts) (at : Place) (p : ProcessId) (m : Machine) (ls : List Line) → Does d m m (all_occurred d at p []) ls ls
nothing_does d at p m ls = record {
  makes = λ c a. record { time = ap (λ (x : Picture). x.time) a.stands.picture; fault = a.fault; going = λ g. a.stands };
  adds = λ c rs a g. g;
}

module _ (d : Parts) (b : IsBuilt d) (at : Place) (p : ProcessId) (m n : Machine) (r : m.running ≡ Some p) (e : Effect) (plain : IsPlainEffect e)
    (before after : List Line) (h : Does d m n (occurred d at p e) before after) where
  one_sound : (c : Config) → StandsFor d m c → IsSound d (occurred d at p e c)
  one_sound c a = subst (IsSound d) (next d at p e [] c (running_is d m c a p r) a.going) (all_sound d b at p (e ∷ []) (plain, tt) c a.sound)

  stands_after : IsNone n.fault → (c : Config) → StandsFor d m c → StandsFor d n (occurred d at p e c)
  stands_after g c a =
      let t = h.makes c a in
      let f : IsNone (occurred d at p e c).fault = subst (λ (o : Option RunFault). IsNone o) t.fault g in
      record { sound = one_sound c a; going = f; fault = t.fault; stands = t.going f }

  pub at_after : IsNone n.fault → IsAt d m → IsAt d n
  at_after g a = record { config = occurred d at p e a.config; stands = stands_after g a.config a.stands }

  pub more_does : (l : Machine) (es : List Effect) (last : List Line) → IsNone n.fault → Does d n l (all_occurred d at p es) after last → Does d m l (all_occurred d at p (e ∷ es)) before last
  more_does l es last g k = record {
    makes = λ c a. subst (Tracks d l) (sym (next d at p e es c (running_is d m c a p r) a.going)) (k.makes (occurred d at p e c) (stands_after g c a));
    adds = λ c rs a f. ap (λ (x : Config). x.records) (next d at p e es c (running_is d m c a p r) a.going) ∙ k.adds (occurred d at p e c) rs (stands_after g c a) (h.adds c rs a f);
  }

  stays : (es : List Effect) (c : Config) → may_go_on p c ≡ false → all_occurred d at p es c ≡ c
  stays [] c f = refl
  stays (x ∷ es) c f = ap (λ (t : Bool). if t then all_occurred d at p es (occurred d at p x c) else c) f

  stopped : (go : Bool) → (IsTrue go ↔ ((n.running ≡ Some p) × (n.fault ≡ None))) → go ≡ false → (c : Config) → StandsFor d m c → may_go_on p (occurred d at p e c) ≡ false
  stopped go i s c a = by_test (may_go_on p x) refl
    where
      x : Config
      x = occurred d at p e c

      t : Tracks d n x
      t = h.makes c a

      by_test : (u : Bool) → may_go_on p x ≡ u → u ≡ false
      by_test false f = refl
      by_test true f =
          let g = goes p x f in
          let k : n.fault ≡ None = t.fault ∙ g.1 in
          let st = t.going (ap is_some g.1) in
          let y : n.running ≡ Some p = ap (λ (z : Picture). z.running) st.picture ∙ g.0 in
          (let z : IsTrue go = i.1 (y, k) in let w : true ≡ false = sym z ∙ s in cc)

  pub last_does : (go : Bool) → (IsTrue go ↔ ((n.running ≡ Some p) × (n.fault ≡ None))) → go ≡ false → (es : List Effect) → Does d m n (all_occurred d at p (e ∷ es)) before after
  last_does go i s es = record {
    makes = λ c a. subst (Tracks d n) (sym (all c a)) (h.makes c a);
    adds = λ c rs a f. ap (λ (x : Config). x.records) (all c a) ∙ h.adds c rs a f;
  }
    where
      all : (c : Config) → StandsFor d m c → all_occurred d at p (e ∷ es) c ≡ occurred d at p e c
      all c a = next d at p e es c (running_is d m c a p r) a.going ∙ stays es (occurred d at p e c) (stopped go i s c a)

-- ---- an activation that is made before it is told what remains

-- where nothing goes on, all stays
all_stay : (d : Parts) (at : Place) (p : ProcessId) (es : List Effect) (c : Config) → may_go_on p c ≡ false → all_occurred d at p es c ≡ c
all_stay d at p [] c f = refl
all_stay d at p (e ∷ es) c f = ap (λ (t : Bool). if t then all_occurred d at p es (occurred d at p e c) else c) f

-- after a fault nothing goes on
fault_stays : (p : ProcessId) (k : FaultKind) (at : Place) (c : Config) → may_go_on p (met_fault k at c) ≡ false
fault_stays p k at c = by_test (is_running c.running p)
  where
    by_test : (t : Bool) → (t && false) ≡ false
    by_test true = refl
    by_test false = refl

module _ (d : Parts) (b : IsBuilt d) (at : Place) (p : ProcessId) (c : Config) (q : ProcessState) (r : c.running ≡ Some p) (g : IsNone c.fault) (is : process_at c p ≡ Some q)
    (ts : List DataType) (built : AllByRecursion IsBuiltType ts) (around : Option Name) (rest : List Todo) (es : List Effect) where
  abbrev told : Config
  told = remaining p q rest c

  told_is : process_at told p ≡ Some (record q { rest = rest })
  told_is = slice_get-set_same c.processes p.0 (record q { rest = rest }) q is

  abbrev made : Config
  made = entered_by p q ts around c

  made_state : process_at made p ≡ Some (record q { made = q.made + 1 })
  made_state = slice_get-set_same c.processes p.0 (record q { made = q.made + 1 }) q is

  -- both, in either order
  abbrev both : Config
  both = record made { processes = slice_set c.processes p.0 (record q { rest = rest; made = q.made + 1 }) }

  told_then_made : entered_by p (record q { rest = rest }) ts around told ≡ both
  told_then_made = λ i. record made { processes = slice_set-set c.processes p.0 (record q { rest = rest }) (record q { rest = rest; made = q.made + 1 }) i }

  made_then_told : remaining p (record q { made = q.made + 1 }) rest made ≡ both
  made_then_told = λ i. record made { processes = slice_set-set c.processes p.0 (record q { made = q.made + 1 }) (record q { rest = rest; made = q.made + 1 }) i }

  first_made : all_occurred d at p (Enter ts around ∷ Remain rest ∷ es) c ≡ all_occurred d at p (Remain rest ∷ es) (entering at p q ts around c)
  first_made = next d at p (Enter ts around) (Remain rest ∷ es) c r g ∙ ap (all_occurred d at p (Remain rest ∷ es)) (enter_is d b.no_clockings at p c q is ts built around)

  first_told : all_occurred d at p (Enter ts around ∷ es) told ≡ all_occurred d at p es (entering at p (record q { rest = rest }) ts around told)
  first_told = next d at p (Enter ts around) es told r g ∙ ap (all_occurred d at p es) (enter_is d b.no_clockings at p told (record q { rest = rest }) told_is ts built around)

  -- they leave the same, or meet the same fault
  abbrev Alike : (one other : Config) → Type 0
  Alike one other = ((l : Machine) → Tracks d l other → Tracks d l one) × (one.records ≡ other.records)

  alike : Alike (all_occurred d at p (Enter ts around ∷ Remain rest ∷ es) c) (all_occurred d at p (Enter ts around ∷ es) told)
  alike = subst (λ (y : Config). Alike y (all_occurred d at p (Enter ts around ∷ es) told)) (sym first_made)
      (subst (Alike (all_occurred d at p (Remain rest ∷ es) (entering at p q ts around c))) (sym first_told) (by_room (nat_lt (length c.activations) (2 ^ 24))))
    where
      by_room : (t : Bool) → Alike
          (all_occurred d at p (Remain rest ∷ es) (if t then made else met_fault fault.Activations at c))
          (all_occurred d at p es (if t then entered_by p (record q { rest = rest }) ts around told else met_fault fault.Activations at told))
      by_room true =
          let one : all_occurred d at p (Remain rest ∷ es) made ≡ all_occurred d at p es both =
          next d at p (Remain rest) es made r g
          ∙ ap (all_occurred d at p es) (remain_is d b.no_clockings at p made (record q { made = q.made + 1 }) made_state rest ∙ made_then_told) in
          let same : all_occurred d at p (Remain rest ∷ es) made ≡ all_occurred d at p es (entered_by p (record q { rest = rest }) ts around told) =
          one ∙ ap (all_occurred d at p es) (sym told_then_made) in
          (λ l t. subst (Tracks d l) (sym same) t, ap (λ (y : Config). y.records) same)
      by_room false =
          let one = all_stay d at p (Remain rest ∷ es) (met_fault fault.Activations at c) (fault_stays p fault.Activations at c) in
          let two = all_stay d at p es (met_fault fault.Activations at told) (fault_stays p fault.Activations at told) in (
            λ l t. (let u : Tracks d l (met_fault fault.Activations at told) = subst (Tracks d l) two t in
                subst (Tracks d l) (sym one) (record { time = u.time; fault = u.fault; going = λ g. absurd (cc) })),
            ap (λ (y : Config). y.records) one ∙ sym (ap (λ (y : Config). y.records) two),
          )

  pub swapped_tracks : (l : Machine) → Tracks d l (all_occurred d at p (Enter ts around ∷ es) told) → Tracks d l (all_occurred d at p (Enter ts around ∷ Remain rest ∷ es) c)
  swapped_tracks l t = alike.0 l t

  pub swapped_records : (all_occurred d at p (Enter ts around ∷ Remain rest ∷ es) c).records ≡ (all_occurred d at p (Enter ts around ∷ es) told).records
  swapped_records = alike.1

-- ---- the step

-- what the machine has of what a scope sees
abbrev pub view_at : Parts → Machine → Option Name → View
view_at d m scope = view_in m.store m.activations.activations m.time (unit_ticks d.scale) scope

-- a step of the running process was computed: what it had to run, what is left, and its effects
pub record TookStep (d : Parts) (p : ProcessId) (m n : Machine) (x : Stepped) (old new : List Frame) (out : List Own_effect) : Type 0 where
  pub is : n ≡ record m { processes = n.processes; spare = n.spare }
  pub had : slice_get (map (todos_of d) m.processes.items) p.0 ≡ Some (todos_of d old)
  pub has : map (todos_of d) n.processes.items ≡ slice_set (map (todos_of d) m.processes.items) p.0 (todos_of d new)
  pub does : (look : Looks) (q : ProcessState) → SeesAll look (view_at d m) → q.rest ≡ todos_of d old
      → q.made ≡ slice_index_or m.activations.made p.0 0 → micro d look p q ≡ effects_of d x.went new out
  pub at : x.at ≡ unwrap_or (place_of_step (todos_of d old)) no_place
  pub held : is_held x.went ≡ true → todos_of d new ≡ todos_of d old

module _ (d : Parts) (b : IsBuilt d) (p : ProcessId) (m n : Machine) (r : m.running ≡ Some p) (x : Stepped) (old new : List Frame) (out : List Own_effect)
    (h : TookStep d p m n x old new out) where
  -- the machine with what memory it has to spare
  abbrev other : Machine
  other = record m { spare = n.spare }

  abbrev cleared : ProcessState → ProcessState
  cleared q = record q { handed = None }

  module _ (c : Config) (a : StandsFor d m c) where
    abbrev q : ProcessState
    q = (state_is d m c a p r).0

    is : process_at c p ≡ Some q
    is = (state_is d m c a p r).1

    rest_is : q.rest ≡ todos_of d old
    rest_is =
        let e : Some (todos_of d old) ≡ Some q.rest =
        sym h.had ∙ ap (λ (y : Picture). slice_get y.remaining p.0) a.stands.picture ∙ map_at rest_of c.processes p.0 q is in
        cc

    -- what was handed to the process is not kept
    abbrev here : Config
    here = with_state p (cleared q) c

    runs : c.running ≡ Some p
    runs = running_is d m c a p r

    rests_plain : AllByRecursion IsPlainTodo q.rest
    rests_plain = (plain_at d c a.sound p q is).rest

    here_stands : StandsFor d other here
    here_stands = record {
      sound = state_sound d c a.sound p runs q is (cleared q) refl refl refl refl rests_plain (runs_calm d c a.sound p runs q is) (λ e. e);
      going = a.going;
      fault = a.fault;
      stands = record {
        picture = a.stands.picture ∙ sym (plain_picture d m c a p r q is (cleared q) refl refl refl ∙ (λ i. record (of_config d c) {
          remaining = set_same (map rest_of c.processes) p.0 q.rest (map_at rest_of c.processes p.0 q is) i;
          waiting = set_same (map awaited_by c.processes) p.0 (awaited_by q) (map_at awaited_by c.processes p.0 q is) i;
        }));
        covers = a.stands.covers;
        alive = a.stands.alive;
        last = a.stands.last;
      };
    }

    here_is : process_at here p ≡ Some (cleared q)
    here_is = slice_get-set_same c.processes p.0 (cleared q) q is

    effects_are : micro d (seen d c) p q ≡ effects_of d x.went new out
    effects_are =
        h.does (seen d c) q (seen_before d m c a) rest_is
        (sym (made_is d m c a p r q is) ∙ ap (λ (y : Picture). slice_index_or y.made p.0 0) (sym a.stands.picture))

    plain : AllByRecursion IsPlainEffect (effects_of d x.went new out)
    plain = subst (AllByRecursion IsPlainEffect) effects_are (micro_plain d b (seen d c) p q rests_plain)

    ran_is : statement_ran d (Some p) c ≡ all_occurred d x.at p (effects_of d x.went new out) here
    ran_is =
        ap (λ (o : Option ProcessState). ran_state d p o c) is
        ∙ ap (λ (o : Option ProcessState). all_occurred d (unwrap_or (place_of_step q.rest) no_place) p (micro d (seen d c) p q) (record c { processes = set_at o (λ r. record r { handed = None }) p c.processes })) is
        ∙ ap (λ (es : List Effect). all_occurred d (unwrap_or (place_of_step q.rest) no_place) p es here) effects_are
        ∙ ap (λ (ts : List Todo). all_occurred d (unwrap_or (place_of_step ts) no_place) p (effects_of d x.went new out) here) rest_is
        ∙ ap (λ (k : Place). all_occurred d k p (effects_of d x.went new out) here) (sym h.at)

    -- the configuration for which the machine stands after what remains was told, and before the effects
    pub record Goes : Type 0 where
      pub config : Config
      pub stands : StandsFor d n config
      pub records : config.records ≡ c.records
      pub plain : AllByRecursion IsPlainEffect (effects_done d x.went out)
      pub makes : (l : Machine) → Tracks d l (all_occurred d x.at p (effects_done d x.went out) config) → Tracks d l (statement_ran d (Some p) c)
      pub adds : (statement_ran d (Some p) c).records ≡ (all_occurred d x.at p (effects_done d x.went out) config).records

    -- after what remains was told, and before the other effects
    module _ (ps : AllByRecursion IsPlainTodo (todos_of d new)) where
      abbrev left : Config
      left = remaining p (cleared q) (todos_of d new) here

      left_tracks : Tracks d n left
      left_tracks = remain_tracks d other here here_stands p r (cleared q) here_is (todos_of d new) n h.is (record { remaining = h.has })

      left_stands : StandsFor d n left
      left_stands = record {
        sound = remain_sound d here here_stands.sound p runs (cleared q) here_is (todos_of d new) ps;
        going = a.going;
        fault = left_tracks.fault;
        stands = left_tracks.going a.going;
      }

    -- where all that was to run is left
    same_stands : is_held x.went ≡ true → StandsFor d n here
    same_stands e =
        let same : map (todos_of d) n.processes.items ≡ map (todos_of d) m.processes.items =
        h.has ∙ ap (λ (ts : List Todo). slice_set (map (todos_of d) m.processes.items) p.0 ts) (h.held e) ∙ set_same (map (todos_of d) m.processes.items) p.0 (todos_of d old) h.had in
        record {
          sound = here_stands.sound;
          going = a.going;
          fault = ap (λ (y : Machine). y.fault) h.is ∙ a.fault;
          stands = record {
            picture = ap (of_machine d) h.is ∙ (λ i. record (of_machine d m) { remaining = same i }) ∙ here_stands.stands.picture;
            covers = subst (Covers d) (sym (ap (λ (y : Machine). y.sense) h.is)) a.stands.covers;
            alive = subst (λ (y : Machine). IsAlive y.tree y.running) (sym h.is) a.stands.alive;
            last = (let k = ap (λ (y : Machine). y.wheel.last) h.is in let l = ap (λ (y : Machine). y.time) h.is in let o = a.stands.last in omega (arith, k, l, o));
          };
        }

    -- with what was told of the step, in one case
    abbrev Given : Went → Type 0
    Given w = (config : Config) × StandsFor d n config × (config.records ≡ c.records) × AllByRecursion IsPlainEffect (effects_done d w out)
        × ((l : Machine) → Tracks d l (all_occurred d x.at p (effects_done d w out) config) → Tracks d l (statement_ran d (Some p) c))
        × ((statement_ran d (Some p) c).records ≡ (all_occurred d x.at p (effects_done d w out) config).records)

    goes_on : (w : Went) → x.went ≡ w → Given w
    goes_on went.On e =
        let ps : AllByRecursion IsPlainEffect (Remain (todos_of d new) ∷ effects_in d out) = subst (λ w. AllByRecursion IsPlainEffect (effects_of d w new out)) e plain in
        let ran = ran_is ∙ ap (λ w. all_occurred d x.at p (effects_of d w new out) here) e
        ∙ next d x.at p (Remain (todos_of d new)) (effects_in d out) here runs a.going
        ∙ ap (all_occurred d x.at p (effects_in d out)) (remain_is d b.no_clockings x.at p here (cleared q) here_is (todos_of d new)) in
        (left ps.0, left_stands ps.0, refl, ps.1, λ l t. subst (Tracks d l) (sym ran) t, ap (λ (y : Config). y.records) ran)
    goes_on went.Held e =
        let ps : AllByRecursion IsPlainEffect (effects_in d out) = subst (λ w. AllByRecursion IsPlainEffect (effects_of d w new out)) e plain in
        let ran = ran_is ∙ ap (λ w. all_occurred d x.at p (effects_of d w new out) here) e in
        (here, same_stands (ap is_held e), refl, ps, λ l t. subst (Tracks d l) (sym ran) t, ap (λ (y : Config). y.records) ran)
    goes_on (went.EnteredHeld f around) e =
        let ps : AllByRecursion IsPlainEffect (Enter (types_at d f) around ∷ effects_in d out) = subst (λ w. AllByRecursion IsPlainEffect (effects_of d w new out)) e plain in
        let ran = ran_is ∙ ap (λ w. all_occurred d x.at p (effects_of d w new out) here) e in
        (here, same_stands (ap is_held e), refl, ps, λ l t. subst (Tracks d l) (sym ran) t, ap (λ (y : Config). y.records) ran)
    goes_on (went.Entered f around) e =
        let ps : AllByRecursion IsPlainEffect (Enter (types_at d f) around ∷ Remain (todos_of d new) ∷ effects_in d out) =
        subst (λ w. AllByRecursion IsPlainEffect (effects_of d w new out)) e plain in
        let ran = ran_is ∙ ap (λ w. all_occurred d x.at p (effects_of d w new out) here) e in (
          left ps.1.0,
          left_stands ps.1.0,
          refl,
          (ps.0, ps.1.1),
          λ l t. subst (Tracks d l) (sym ran) (swapped_tracks d b x.at p here (cleared q) runs a.going here_is (types_at d f) ps.0 around (todos_of d new) (effects_in d out) l t),
          ap (λ (y : Config). y.records) ran
              ∙ swapped_records d b x.at p here (cleared q) runs a.going here_is (types_at d f) ps.0 around (todos_of d new) (effects_in d out),
        )

    with_given : Given x.went → Goes
    with_given g = record { config = g.0; stands = g.1; records = g.2; plain = g.3; makes = g.4; adds = g.5 }

    pub step_goes : Goes
    step_goes = with_given (goes_on x.went refl)

  pub step_at : IsAt d m → IsAt d n
  step_at a = let g = step_goes a.config a.stands in record { config = g.config; stands = g.stands }

  pub step_plain : IsAt d m → AllByRecursion IsPlainEffect (effects_done d x.went out)
  step_plain a = (step_goes a.config a.stands).plain

  pub step_makes : (l : Machine) (before after : List Line) → Does d n l (all_occurred d x.at p (effects_done d x.went out)) before after → Does d m l (statement_ran d (Some p)) before after
  step_makes l before after k = record {
    makes = λ c a. (let g = step_goes c a in g.makes l (k.makes g.config g.stands));
    adds = λ c rs a f. (let g = step_goes c a in g.adds ∙ k.adds g.config rs g.stands (g.records ∙ f));
  }

-- ---- what the code has of a step

pub reverse_twice : {A : Type 0} (xs : List A) → reverse (reverse xs) ≡ xs
reverse_twice [] = refl
reverse_twice (x ∷ xs) = ap (reverse {A = _}) (front x xs) ∙ reverse_last (reverse xs) x ∙ (λ i. x ∷ reverse_twice xs i)
  where
    front : {A : Type 0} (x : A) (xs : List A) → reverse (x ∷ xs) ≡ reverse xs ++ x ∷ []
    front x xs = reverse-append (x ∷ []) xs

pub took_step : (d : Parts) (p : ProcessId) (m n : Machine) (x : Stepped) (new : List Frame) (out : List Own_effect) (none : List Frame) (name : Name)
    → p.0 < length m.processes.items → n ≡ record m { processes = n.processes; spare = n.spare } → n.processes.items ≡ slice_set m.processes.items p.0 new
    → none ≡ get_or m.processes.items p.0 none → name ≡ next_name m.activations p
    → ((look : Looks) (q : ProcessId) (handed : Option Message) → SeesAll look (view_at d m)
    → run_first d look q name handed (todos_of d none) ≡ effects_of d x.went new out)
    → x.at ≡ unwrap_or (place_of_step (todos_of d none)) no_place → (is_held x.went ≡ true → todos_of d new ≡ todos_of d none)
    → TookStep d p m n x (get_or m.processes.items p.0 none) new out
took_step d p m n x new out none name l is has same named does at held =
    let k = there m.processes.items p.0 l in
    record {
      is = is;
      had = map_at (todos_of d) m.processes.items p.0 k.0 k.1 ∙ ap (λ (fs : List Frame). Some (todos_of d fs)) (sym (got m.processes.items p.0 k.0 none k.1));
      has = ap (map (todos_of d)) has ∙ map_set (todos_of d) m.processes.items p.0 new;
      does = λ look q e f g.
          (λ i. run_first d look p (record { process = p; place = g i }) q.handed ((f ∙ ap (todos_of d) (sym same)) i))
          ∙ ap (λ (n : Name). run_first d look p n q.handed (todos_of d none)) (sym named)
          ∙ does look p q.handed e;
      at = at ∙ ap (λ (fs : List Frame). unwrap_or (place_of_step (todos_of d fs)) no_place) same;
      held = λ e. held e ∙ ap (todos_of d) same;
    }

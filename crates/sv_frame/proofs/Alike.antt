-- Two configurations that are alike for a side, and what keeps them so.
use Rattle.std.proofs.Common.{ℕ, ◌≡◌, List, [], ◌∷◌, ◌++◌, Option, Some, Bool, refl, ap, sym, ◌∙◌, length}
use Rattle.std.specs.Prelude.{filter, drop, option_map, if◌then◌else◌}
use Rattle.std.proofs.Math.Seq.{drop-append_seam}
use Rattle.std.proofs.lemmas.List.{append-nil, append_assoc}
use Rattle.std.proofs.lemmas.List.Elements.{filter-append}
use Rattle.sv_value.specs.declared.number.ProcessId.{ProcessId}
use Rattle.sv_value.specs.declared.place.Place.{Place}
use Rattle.sv_value.specs.declared.place.FaultKind.{FaultKind}
use Rattle.sv_value.specs.declared.place.RunFault.{RunFault}
use Rattle.sv_value.specs.declared.schedule.Side.{Side}
use Rattle.sv_value.specs.declared.schedule.Event.{Event}
use Rattle.sv_value.specs.declared.schedule.Range.{Range}
use Rattle.sv_value.specs.declared.val.Val.{Val}
use Rattle.sv_value.specs.Regions.{Regions, set_of, same_side}
use Rattle.sv_flat.specs.declared.design.Parts.{Parts}
use Rattle.sv_flat.specs.State.{Name, Activation, Heap, Stored}
use Rattle.sv_flat.specs.Process.{ProcessState}
use Rattle.sv_flat.specs.Config.{Config, Clock, Strobe, Monitor, Record, process_at, side_of, with_process, met_fault}
use Rattle.sv_flat.specs.Effects.Writes.{changed_at, variable_over}
use Rattle.sv_flat.specs.Laws.{SameReach, SameStep, of_side, strobe_of, future_of, region_side}
use Rattle.sv_frame.proofs.Masks.{KeepsSide, masked, kept_side, same_of_side, changed_same, sides_same, states_same}
use Rattle.sv_frame.proofs.Scopes.{variable_masked, same_process}

-- equal reach, the same fault or none, and the same process that runs; the process p is of the side
pub record Alike (d : Parts) (s : Side) (p : ProcessId) (c e : Config) : Type 0 where
  pub reach : SameReach d s c e
  pub fault : c.fault ≡ e.fault
  pub running : c.running ≡ e.running
  pub mine : side_of c p ≡ s

-- from two configurations to two that are alike, with the same added
pub record Moves (d : Parts) (s : Side) (p : ProcessId) (c e c' e' : Config) : Type 0 where
  pub like : Alike d s p c' e'
  pub more : List Record
  pub first : c'.records ≡ c.records ++ more
  pub second : e'.records ≡ e.records ++ more
  pub ready : set_of s c.regions ≡ set_of s e.regions → set_of s c'.regions ≡ set_of s e'.regions
  pub future : future_of s c ≡ future_of s e → future_of s c' ≡ future_of s e'
  pub finishing : c.finishing ≡ e.finishing → c'.finishing ≡ e'.finishing

module _ (d : Parts) (s : Side) (p : ProcessId) where
  pub stays : (c e : Config) → Alike d s p c e → Moves d s p c e c e
  stays c e h = record {
    like = h;
    more = [];
    first = sym (append-nil c.records);
    second = sym (append-nil e.records);
    ready = λ x. x;
    future = λ x. x;
    finishing = λ x. x;
  }

  pub moves_on : (c e x y u v : Config) → Moves d s p c e x y → Moves d s p x y u v → Moves d s p c e u v
  moves_on c e x y u v m n = record {
    like = n.like;
    more = m.more ++ n.more;
    first = n.first ∙ ap (λ rs. rs ++ n.more) m.first ∙ append_assoc c.records m.more n.more;
    second = n.second ∙ ap (λ rs. rs ++ n.more) m.second ∙ append_assoc e.records m.more n.more;
    ready = λ h. n.ready (m.ready h);
    future = λ h. n.future (m.future h);
    finishing = λ h. n.finishing (m.finishing h);
  }

  -- the same step
  pub same_step : (c e x y : Config) → Moves d s p c e x y → SameStep d s c e x y
  same_step c e x y m = record {
    fault = m.like.fault;
    reach = m.like.reach;
    records = ap (drop (length c.records)) m.first ∙ drop-append_seam c.records m.more ∙ sym (ap (drop (length e.records)) m.second ∙ drop-append_seam e.records m.more);
    ready = m.ready;
    future = m.future;
    finishing = m.finishing;
  }

-- ---- each change of a part keeps two configurations alike

module _ (d : Parts) (s : Side) (p : ProcessId) (c e : Config) (h : Alike d s p c e) where
  abbrev r : SameReach d s c e
  r = h.reach

  pub side_same : (q : ProcessId) → side_of c q ≡ side_of e q
  side_same q = sides_same s c.processes e.processes r.processes q.0

  -- the state of the process
  pub state_same : process_at c p ≡ process_at e p
  state_same = states_same s c.processes e.processes r.processes p.0 h.mine

  -- what only the reach sees
  within : (c' e' : Config) → Alike d s p c' e' → c'.records ≡ c.records → e'.records ≡ e.records → c'.regions ≡ c.regions → e'.regions ≡ e.regions → c'.future ≡ c.future
      → e'.future ≡ e.future
      → c'.finishing ≡ c.finishing → e'.finishing ≡ e.finishing → Moves d s p c e c' e'
  within c' e' k a b f g x y m n = record {
    like = k;
    more = [];
    first = a ∙ sym (append-nil c.records);
    second = b ∙ sym (append-nil e.records);
    ready = λ i. ap (set_of s) f ∙ i ∙ sym (ap (set_of s) g);
    future = λ i. ap (λ (es : List Event). filter (λ v. same_side s (region_side v.region)) es) x ∙ i ∙ sym (ap (λ (es : List Event). filter (λ v. same_side s (region_side v.region)) es) y);
    finishing = λ i. m ∙ i ∙ sym n;
  }

  -- what the reach does not see
  abbrev pub beside : Config → Option ProcessId → Regions → List Event → Bool → Option RunFault → Config
  beside x o rs es b f = record x { running = o; regions = rs; future = es; finishing = b; fault = f }

  pub unseen : (o u : Option ProcessId) → o ≡ u
      → (rs ts : Regions) → (set_of s c.regions ≡ set_of s e.regions → set_of s rs ≡ set_of s ts)
      → (xs ys : List Event) → (future_of s c ≡ future_of s e → future_of s (record c { future = xs }) ≡ future_of s (record e { future = ys }))
      → (b g : Bool) → (c.finishing ≡ e.finishing → b ≡ g)
      → (k f : Option RunFault) → k ≡ f
      → Moves d s p c e (beside c o rs xs b k) (beside e u ts ys g f)
  unseen o u running rs ts ready xs ys future b g finishing k f fault = record {
    like = record {
      reach = record { time = r.time; processes = r.processes; activations = r.activations; heap = r.heap; clocks = r.clocks; strobes = r.strobes; monitor = r.monitor; objects = r.objects };
      fault = fault;
      running = running;
      mine = h.mine;
    };
    more = [];
    first = sym (append-nil c.records);
    second = sym (append-nil e.records);
    ready = ready;
    future = future;
    finishing = finishing;
  }

  -- a process that runs, or none
  pub running_moves : (o u : Option ProcessId) → o ≡ u → Moves d s p c e (record c { running = o }) (record e { running = u })
  running_moves o u k = unseen o u k c.regions e.regions (λ x. x) c.future e.future (λ x. x) c.finishing e.finishing (λ x. x) c.fault e.fault h.fault

  -- what stands in the regions
  pub regions_move : (rs ts : Regions) → (set_of s c.regions ≡ set_of s e.regions → set_of s rs ≡ set_of s ts) → Moves d s p c e (record c { regions = rs }) (record e { regions = ts })
  regions_move rs ts k = unseen c.running e.running h.running rs ts k c.future e.future (λ x. x) c.finishing e.finishing (λ x. x) c.fault e.fault h.fault

  -- what is scheduled
  pub future_moves : (xs ys : List Event) → (future_of s c ≡ future_of s e → future_of s (record c { future = xs }) ≡ future_of s (record e { future = ys }))
      → Moves d s p c e (record c { future = xs }) (record e { future = ys })
  future_moves xs ys k = unseen c.running e.running h.running c.regions e.regions (λ x. x) xs ys k c.finishing e.finishing (λ x. x) c.fault e.fault h.fault

  -- `$finish`
  pub finishing_moves : (b : Bool) → Moves d s p c e (record c { finishing = b }) (record e { finishing = b })
  finishing_moves b = unseen c.running e.running h.running c.regions e.regions (λ x. x) c.future e.future (λ x. x) b b (λ x. refl) c.fault e.fault h.fault

  -- a fault
  pub fault_moves : (k : FaultKind) (at : Place) → Moves d s p c e (met_fault k at c) (met_fault k at e)
  fault_moves k at =
      unseen c.running e.running h.running c.regions e.regions (λ x. x) c.future e.future (λ x. x) c.finishing e.finishing (λ x. x)
      (met_fault k at c).fault (met_fault k at e).fault (λ i. Some (record { kind = k; at = at; time = r.time i }))

  -- a record
  pub record_moves : (x y : Record) → x ≡ y → Moves d s p c e (record c { records = c.records ++ x ∷ [] }) (record e { records = e.records ++ y ∷ [] })
  record_moves x y k = record {
    like = record {
      reach = record { time = r.time; processes = r.processes; activations = r.activations; heap = r.heap; clocks = r.clocks; strobes = r.strobes; monitor = r.monitor; objects = r.objects };
      fault = h.fault;
      running = h.running;
      mine = h.mine;
    };
    more = x ∷ [];
    first = refl;
    second = ap (λ x. e.records ++ x ∷ []) (sym k);
    ready = λ x. x;
    future = λ x. x;
    finishing = λ x. x;
  }

  -- a process in another state
  pub process_moves : (r : ProcessId) (f : ProcessState → ProcessState) → KeepsSide f → Moves d s p c e (with_process r f c) (with_process r f e)
  process_moves r f k =
      let o = h.reach in
      within (with_process r f c) (with_process r f e)
      (record {
        reach = record {
          time = o.time;
          processes = masked s f k r c ∙ ap (λ (qs : List (Option ProcessState)). changed_at qs r.0 (option_map f)) o.processes ∙ sym (masked s f k r e);
          activations = same_of_side s (with_process r f c) c (λ q. kept_side f k r q c) c.activations ∙ o.activations
              ∙ sym (same_of_side s (with_process r f e) e (λ q. kept_side f k r q e) e.activations);
          heap = o.heap;
          clocks = o.clocks;
          strobes = o.strobes;
          monitor = o.monitor;
          objects = o.objects;
        };
        fault = h.fault;
        running = h.running;
        mine = kept_side f k r p c ∙ h.mine;
      })
      refl refl refl refl refl refl refl refl

  -- the heap
  pub heap_moves : (x y : Heap) → x ≡ y → Moves d s p c e (record c { world = record c.world { heap = x } }) (record e { world = record e.world { heap = y } })
  heap_moves x y k =
      within (record c { world = record c.world { heap = x } }) (record e { world = record e.world { heap = y } })
      (record {
        reach = record { time = r.time; processes = r.processes; activations = r.activations; heap = k; clocks = r.clocks; strobes = r.strobes; monitor = r.monitor; objects = r.objects };
        fault = h.fault;
        running = h.running;
        mine = h.mine;
      })
      refl refl refl refl refl refl refl refl

  -- the objects, each changed in the same way
  pub store_moves : (n : ℕ) (f : Stored → Stored)
      → Moves d s p c e (record c { world = record c.world { store = changed_at c.store n f } }) (record e { world = record e.world { store = changed_at e.store n f } })
  store_moves n f =
      within (record c { world = record c.world { store = changed_at c.store n f } }) (record e { world = record e.world { store = changed_at e.store n f } })
      (record {
        reach = record {
          time = r.time;
          processes = r.processes;
          activations = r.activations;
          heap = r.heap;
          clocks = r.clocks;
          strobes = r.strobes;
          monitor = r.monitor;
          objects = λ o k. changed_same c.store e.store n o.0 f (r.objects o k);
        };
        fault = h.fault;
        running = h.running;
        mine = h.mine;
      })
      refl refl refl refl refl refl refl refl

  -- the activations, with a write to a variable of one
  pub variable_moves : (n : Name) (i : ℕ) (t : Option Range) (x : Val)
      → Moves d s p c e (record c { world = record c.world { activations = variable_over n i t x c.activations } }) (record e { world = record e.world { activations = variable_over n i t x e.activations } })
  variable_moves n i t x =
      let seen_in : Config → Activation → Bool = of_side s in
      let over : List Activation → List Activation = variable_over n i t x in
      let put : Bool → List Activation → List Activation = λ b xs. if b then over xs else xs in
      let masked_over : (u : Config) → filter (seen_in u) (over u.activations) ≡ put (same_side s (side_of u n.process)) (filter (seen_in u) u.activations) =
      λ u. variable_masked (seen_in u) n (same_side s (side_of u n.process)) (λ a k j. same_side s (side_of u (same_process a n k j))) (λ a vs. refl) i t x u.activations in
      within (record c { world = record c.world { activations = over c.activations } }) (record e { world = record e.world { activations = over e.activations } })
      (record {
        reach = record {
          time = r.time;
          processes = r.processes;
          activations = masked_over c ∙ (λ j. put (same_side s (side_same n.process j)) (r.activations j)) ∙ sym (masked_over e);
          heap = r.heap;
          clocks = r.clocks;
          strobes = r.strobes;
          monitor = r.monitor;
          objects = r.objects;
        };
        fault = h.fault;
        running = h.running;
        mine = h.mine;
      })
      refl refl refl refl refl refl refl refl

  -- an activation more, with another heap
  pub activation_moves : (x y : Activation) → x ≡ y → (b : Heap)
      → Moves d s p c e (record c { world = record c.world { heap = b; activations = c.activations ++ x ∷ [] } }) (record e { world = record e.world { heap = b; activations = e.activations ++ y ∷ [] } })
  activation_moves x y same b =
      within (record c { world = record c.world { heap = b; activations = c.activations ++ x ∷ [] } }) (record e { world = record e.world { heap = b; activations = e.activations ++ y ∷ [] } })
      (record {
        reach = record {
          time = r.time;
          processes = r.processes;
          activations = filter-append (of_side s c) c.activations (x ∷ []) ∙ (λ j. r.activations j ++ filter (λ a. same_side s (side_same a.name.process j)) (same j ∷ []))
              ∙ sym (filter-append (of_side s e) e.activations (y ∷ []));
          heap = refl;
          clocks = r.clocks;
          strobes = r.strobes;
          monitor = r.monitor;
          objects = r.objects;
        };
        fault = h.fault;
        running = h.running;
        mine = h.mine;
      })
      refl refl refl refl refl refl refl refl

  -- the clocking blocks
  pub clocks_move : (f : List Clock → List Clock) → Moves d s p c e (record c { clocks = f c.clocks }) (record e { clocks = f e.clocks })
  clocks_move f =
      within (record c { clocks = f c.clocks }) (record e { clocks = f e.clocks })
      (record {
        reach = record { time = r.time; processes = r.processes; activations = r.activations; heap = r.heap; clocks = ap f r.clocks; strobes = r.strobes; monitor = r.monitor; objects = r.objects };
        fault = h.fault;
        running = h.running;
        mine = h.mine;
      })
      refl refl refl refl refl refl refl refl

  -- a text that is kept
  pub strobe_moves : (x y : Strobe) → x ≡ y → Moves d s p c e (record c { strobes = c.strobes ++ x ∷ [] }) (record e { strobes = e.strobes ++ y ∷ [] })
  strobe_moves x y k =
      within (record c { strobes = c.strobes ++ x ∷ [] }) (record e { strobes = e.strobes ++ y ∷ [] })
      (record {
        reach = record {
          time = r.time;
          processes = r.processes;
          activations = r.activations;
          heap = r.heap;
          clocks = r.clocks;
          strobes = filter-append (strobe_of s) c.strobes (x ∷ []) ∙ (λ i. r.strobes i ++ filter (strobe_of s) (k i ∷ [])) ∙ sym (filter-append (strobe_of s) e.strobes (y ∷ []));
          monitor = r.monitor;
          objects = r.objects;
        };
        fault = h.fault;
        running = h.running;
        mine = h.mine;
      })
      refl refl refl refl refl refl refl refl

  pub monitor_moves : (x y : Option Monitor) → x ≡ y → Moves d s p c e (record c { monitor = x }) (record e { monitor = y })
  monitor_moves x y k =
      within (record c { monitor = x }) (record e { monitor = y })
      (record {
        reach = record { time = r.time; processes = r.processes; activations = r.activations; heap = r.heap; clocks = r.clocks; strobes = r.strobes; monitor = k; objects = r.objects };
        fault = h.fault;
        running = h.running;
        mine = h.mine;
      })
      refl refl refl refl refl refl refl refl

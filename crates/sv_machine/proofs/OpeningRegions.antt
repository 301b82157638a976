-- The regions of an opening.
use Rattle.std.proofs.Common.{ℕ, suc, ◌≡◌, ◌+◌, ◌<◌, ◌≤◌, ◌^◌, List, [], ◌∷◌, ◌++◌, Some, Bool, true, false, cond, refl, ap, sym, ◌∙◌, arith, length, take, get_or, map, slice_get, filter}
use Rattle.std.specs.Prelude.{sum_by, ◌&&◌, if◌then◌else◌}
use Rattle.std.specs.List.{Contains, list_any}
use Rattle.std.proofs.lemmas.Bool.Decides.{nat_tests}
use Rattle.std.proofs.lemmas.List.{take_more, length-take-le}
use Rattle.std.proofs.lemmas.List.Sums.{sum_by-cons}
use Rattle.sv_value.specs.declared.number.ProcessId.{ProcessId}
use Rattle.sv_value.specs.declared.schedule.Side.{Side}
use Rattle.sv_value.specs.declared.schedule.Side.TheVariants.{Active, Reactive}
use Rattle.sv_value.specs.Regions.{Regions, standing, ready_in, front_of, empty_set, same_side}
use Rattle.sv_flat.specs.declared.process.Process.{Process}
use Rattle.sv_flat.specs.declared.design.Parts.{Parts}
use Rattle.sv_flat.specs.Process.{ProcessState}
use Rattle.sv_flat.specs.Config.{numbered_from, state_test, starts}
use Rattle.sv_flat.specs.Opening.{opening, opening_process, is_ready}
use Rattle.sv_sound.proofs.Weights.{one, standing_weight, not_contained}
use Rattle.sv_sound.proofs.Room.{ones, count_processes}
use Rattle.sv_machine.specs.Opening.{numbers_on, first_regions, first_ready, is_first}

-- ---- one process more

module _ (b : Bool) where
  abbrev one_on : Side → ℕ → Process → List ProcessId
  one_on s n f = if same_side s f.side && is_first b f then record { 0 = n } ∷ [] else []

  numbers-push : (s : Side) (n : ℕ) (xs : List Process) (x : Process) → numbers_on b s n (xs ++ x ∷ []) ≡ numbers_on b s n xs ++ one_on s (n + length xs) x
  numbers-push s n [] x = by_side (same_side s x.side && is_first b x)
    where
      by_side : (b : Bool) → cond {A = List ProcessId} b (record { 0 = n } ∷ []) [] ≡ [] ++ cond {A = List ProcessId} b (record { 0 = n + 0 } ∷ []) []
      by_side true = let e : n ≡ n + 0 = omega arith in ap (λ (m : ℕ). let p : ProcessId = record { 0 = m } in p ∷ []) e
      by_side false = refl
  numbers-push s n (y ∷ xs) x = by_side (same_side s y.side && is_first b y) (numbers-push s (n + 1) xs x)
    where
      later : n + 1 + length xs ≡ n + length (y ∷ xs)
      later = omega arith

      by_side : (t : Bool) → numbers_on b s (n + 1) (xs ++ x ∷ []) ≡ numbers_on b s (n + 1) xs ++ one_on s (n + 1 + length xs) x
          → cond t (record { 0 = n } ∷ numbers_on b s (n + 1) (xs ++ x ∷ [])) (numbers_on b s (n + 1) (xs ++ x ∷ []))
          ≡ cond t (record { 0 = n } ∷ numbers_on b s (n + 1) xs) (numbers_on b s (n + 1) xs) ++ one_on s (n + length (y ∷ xs)) x
      by_side true i = ap (λ (u : List ProcessId). record { 0 = n } ∷ u) (i ∙ ap (λ (m : ℕ). numbers_on b s (n + 1) xs ++ one_on s m x) later)
      by_side false i = i ∙ ap (λ (m : ℕ). numbers_on b s (n + 1) xs ++ one_on s m x) later

  nothing_more : (ps : List ProcessId) → ps ++ [] ≡ ps
  nothing_more ps = Rattle.std.proofs.lemmas.List.append-nil ps

  all-push : (xs : List Process) (x : Process) → first_regions b (xs ++ x ∷ []) ≡ first_ready b x (record { 0 = length xs }) (first_regions b xs)
  all-push xs x =
      ap (λ (ps : List ProcessId). record { active = record empty_set { ready = ps }; reactive = record empty_set { ready = numbers_on b Reactive 0 (xs ++ x ∷ []) } }) (numbers-push Active 0 xs x)
      ∙ ap (λ (ps : List ProcessId). record { active = record empty_set { ready = numbers_on b Active 0 xs ++ one_on Active (0 + length xs) x }; reactive = record empty_set { ready = ps } }) (numbers-push Reactive 0 xs x)
      ∙ ap (λ (n : ℕ). both n x.side (is_first b x)) (zero_more (length xs))
      ∙ by_side x.side (is_first b x)
    where
      both : ℕ → Side → Bool → Regions
      both n s t = record {
        active = record empty_set { ready = numbers_on b Active 0 xs ++ (if same_side Active s && t then record { 0 = n } ∷ [] else []) };
        reactive = record empty_set { ready = numbers_on b Reactive 0 xs ++ (if same_side Reactive s && t then record { 0 = n } ∷ [] else []) };
      }

      zero_more : (n : ℕ) → 0 + n ≡ n
      zero_more n = omega arith

      neither : both (length xs) Active false ≡ first_regions b xs
      neither =
          ap (λ (ps : List ProcessId). record { active = record empty_set { ready = ps }; reactive = record empty_set { ready = numbers_on b Reactive 0 xs ++ [] } }) (nothing_more (numbers_on b Active 0 xs))
          ∙ ap (λ (ps : List ProcessId). record { active = record empty_set { ready = numbers_on b Active 0 xs }; reactive = record empty_set { ready = ps } }) (nothing_more (numbers_on b Reactive 0 xs))

      by_side : (s : Side) (t : Bool) → both (length xs) s t ≡ (if t then ready_in (front_of s) (record { 0 = length xs }) (first_regions b xs) else first_regions b xs)
      by_side Active true = ap (λ (ps : List ProcessId). record { active = record empty_set { ready = numbers_on b Active 0 xs ++ record { 0 = length xs } ∷ [] }; reactive = record empty_set { ready = ps } }) (nothing_more (numbers_on b Reactive 0 xs))
      by_side Reactive true = ap (λ (ps : List ProcessId). record { active = record empty_set { ready = ps }; reactive = record empty_set { ready = numbers_on b Reactive 0 xs ++ record { 0 = length xs } ∷ [] } }) (nothing_more (numbers_on b Active 0 xs))
      by_side Active false = neither
      by_side Reactive false = neither

  pub all_more : (xs : List Process) (i : ℕ) (x : Process) → i < length xs → get_or xs i x ≡ x → first_regions b (take (i + 1) xs) ≡ first_ready b x (record { 0 = i }) (first_regions b (take i xs))
  all_more xs i x h e =
      let n : length (take i xs) ≡ i = length-take-le i xs (omega arith) in
      ap (first_regions b) (take_more xs i x h) ∙ all-push (take i xs) (get_or xs i x)
      ∙ ap (λ (y : Process). first_ready b y (record { 0 = length (take i xs) }) (first_regions b (take i xs))) e
      ∙ ap (λ (m : ℕ). first_ready b x (record { 0 = m }) (first_regions b (take i xs))) n

  -- ---- who is not there yet, and how many are

  none_above : (p : ProcessId) (s : Side) (n : ℕ) (xs : List Process) → n + length xs ≤ p.0 → sum_by (one p) (numbers_on b s n xs) ≡ 0
  none_above p s n [] h = refl
  none_above p s n (x ∷ xs) h = by_side (same_side s x.side && is_first b x) (none_above p s (n + 1) xs (omega arith))
    where
      by_side : (t : Bool) → sum_by (one p) (numbers_on b s (n + 1) xs) ≡ 0 → sum_by (one p) (cond t (record { 0 = n } ∷ numbers_on b s (n + 1) xs) (numbers_on b s (n + 1) xs)) ≡ 0
      by_side true i =
          let c = sum_by-cons (one p) (record { 0 = n }) (numbers_on b s (n + 1) xs) in
          let z : one p (record { 0 = n }) ≡ 0 = grind (arith, nat_tests) in
          omega (arith, c, z, i)
      by_side false i = i

  at_most : (s : Side) (n : ℕ) (xs : List Process) → length (numbers_on b s n xs) ≤ length xs
  at_most s n [] = omega arith
  at_most s n (x ∷ xs) = by_side (same_side s x.side && is_first b x) (at_most s (n + 1) xs)
    where
      by_side : (t : Bool) → length (numbers_on b s (n + 1) xs) ≤ length xs → length (cond t (record { 0 = n } ∷ numbers_on b s (n + 1) xs) (numbers_on b s (n + 1) xs)) ≤ length (x ∷ xs)
      by_side true i = omega (arith, i)
      by_side false i = omega (arith, i)

  pub not_there : (r : Regions) (xs : List Process) (i : ℕ) → r ≡ first_regions b (take i xs) → i ≤ length xs → Contains (standing r) (record { 0 = i }) → ⊥
  not_there r xs i e h =
      let p : ProcessId = record { 0 = i } in
      let n : length (take i xs) ≡ i = length-take-le i xs h in
      let x = none_above p Active 0 (take i xs) (omega (arith, n)) in
      let y = none_above p Reactive 0 (take i xs) (omega (arith, n)) in
      let z : sum_by (one p) [] ≡ 0 = refl in
      let w = standing_weight (one p) (first_regions b (take i xs)) in
      let t : sum_by (one p) (standing r) ≡ 0 = ap (λ (r : Regions). sum_by (one p) (standing r)) e ∙ omega (arith, w, x, y, z) in
      not_contained p (standing r) t

  pub few_there : (r : Regions) (xs : List Process) (i : ℕ) → r ≡ first_regions b (take i xs) → i ≤ length xs → length xs < 2 ^ 18 → length (standing r) < 2 ^ 31
  few_there r xs i e h f =
      let n : length (take i xs) ≡ i = length-take-le i xs h in
      let s = at_most Active 0 (take i xs) in
      let t = at_most Reactive 0 (take i xs) in
      let z : sum_by ones [] ≡ 0 = refl in
      let w = standing_weight ones (first_regions b (take i xs)) in
      let x = count_processes (numbers_on b Active 0 (take i xs)) in
      let y = count_processes (numbers_on b Reactive 0 (take i xs)) in
      let c = count_processes (standing (first_regions b (take i xs))) in
      let l : length (standing r) ≡ length (standing (first_regions b (take i xs))) = ap (λ (r : Regions). length (standing r)) e in
      omega (arith, n, s, t, z, w, x, y, c, l, f, h)

-- ---- the opening

module _ (d : Parts) where
  abbrev has_starters : Bool
  has_starters = list_any starts d.processes

  module _ (s : Side) (all : List ProcessState) where
    abbrev test : ProcessId → Bool
    test p = state_test (λ q. same_side s q.side && is_ready q.latest) (slice_get all p.0)

    passes : (n : ℕ) (f : Process) → slice_get all n ≡ Some (opening_process d f) → test (record { 0 = n }) ≡ (same_side s f.side && is_first has_starters f)
    passes n f e = ap (state_test (λ q. same_side s q.side && is_ready q.latest)) e

    kept : (n : ℕ) (fs : List Process) → ((i : ℕ) (f : Process) → slice_get fs i ≡ Some f → slice_get all (n + i) ≡ Some (opening_process d f))
        → filter test (numbered_from n (map (opening_process d) fs)) ≡ numbers_on has_starters s n fs
    kept n [] at = refl
    kept n (f ∷ fs) at =
        let z : n + 0 ≡ n = omega arith in
        let first : slice_get all n ≡ Some (opening_process d f) = ap (slice_get all) (sym z) ∙ at 0 f refl in
        let later : (i : ℕ) (g : Process) → slice_get fs i ≡ Some g → slice_get all (n + 1 + i) ≡ Some (opening_process d g) =
        λ i g e. (let m : n + 1 + i ≡ n + suc i = omega arith in ap (slice_get all) m ∙ at (suc i) g e) in
        let rest = kept (n + 1) fs later in
        ap (λ (x : Bool). cond x (record { 0 = n } ∷ filter test (numbered_from (n + 1) (map (opening_process d) fs))) (filter test (numbered_from (n + 1) (map (opening_process d) fs)))) (passes n f first)
        ∙ ap (λ (ps : List ProcessId). cond (same_side s f.side && is_first has_starters f) (record { 0 = n } ∷ ps) ps) rest

  map_got : (fs : List Process) (i : ℕ) (f : Process) → slice_get fs i ≡ Some f → slice_get (map (opening_process d) fs) (0 + i) ≡ Some (opening_process d f)
  map_got fs i f e = let z : 0 + i ≡ i = omega arith in ap (slice_get (map (opening_process d) fs)) z ∙ Rattle.sv_sound.proofs.Weights.map_at (opening_process d) fs i f e

  pub opening_regions : (opening d).regions ≡ first_regions has_starters d.processes
  opening_regions =
      ap (λ (ps : List ProcessId). record { active = record empty_set { ready = ps }; reactive = (opening d).regions.reactive }) (kept Active (map (opening_process d) d.processes) 0 d.processes (map_got d.processes))
      ∙ ap (λ (ps : List ProcessId). record { active = record empty_set { ready = numbers_on has_starters Active 0 d.processes }; reactive = record empty_set { ready = ps } }) (kept Reactive (map (opening_process d) d.processes) 0 d.processes (map_got d.processes))

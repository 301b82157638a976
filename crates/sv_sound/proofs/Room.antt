-- A design that is built has room for its picks, so that each legal run of it is directed.
use Rattle.std.proofs.Common.{ℕ, suc, ◌≡◌, ◌+◌, ◌≤◌, ◌^◌, List, [], ◌∷◌, refl, ap, ◌∙◌, arith, length}
use Rattle.std.specs.Prelude.{sum_by, ◌==◌, if◌then◌else◌}
use Rattle.std.proofs.lemmas.Bool.Decides.{nat_tests}
use Rattle.std.proofs.lemmas.List.Sums.{sum_by-cons}
use Rattle.sv_value.specs.declared.number.ProcessId.{ProcessId}
use Rattle.sv_value.specs.declared.schedule.Side.{Side}
use Rattle.sv_value.specs.declared.schedule.Side.TheVariants.{Active, Reactive}
use Rattle.sv_value.specs.Regions.{Regions, Set, set_of, standing, job_count}
use Rattle.sv_flat.specs.declared.design.Parts.{Parts}
use Rattle.sv_flat.specs.Config.{numbered_from}
use Rattle.sv_flat.specs.Steps.{acting, front}
use Rattle.sv_flat.specs.Laws.{HasRoom, EachIsDirected}
use Rattle.sv_built.specs.Built.{IsBuilt}
use Rattle.sv_sound.specs.Sound.{weight, weight_of_all}
use Rattle.sv_sound.proofs.Weights.{standing_weight}
use Rattle.sv_sound.proofs.Reached.{reached_sound}
use Rattle.sv_flat.proofs.Converse.{each_directed}

-- each process counts once
abbrev pub ones : ProcessId → ℕ
ones p = 1

pub count_processes : (ps : List ProcessId) → sum_by ones ps ≡ length ps
count_processes [] = refl
count_processes (p ∷ ps) = let s = sum_by-cons ones p ps in omega (arith, s, count_processes ps)

pub count_numbers : {A : Type 0} (n : ℕ) (xs : List A) → length (numbered_from n xs) ≡ length xs
count_numbers n [] = refl
count_numbers n (x ∷ xs) = ap suc (count_numbers (n + 1) xs)

pub all_count : {A : Type 0} (xs : List A) → weight_of_all ones xs ≡ length xs
all_count xs = count_processes (numbered_from 0 xs) ∙ count_numbers 0 xs

ready_count : (s : Side) (r : Regions) → length (set_of s r).ready ≤ sum_by ones (standing r)
ready_count Active r = let e = standing_weight ones r in let c = count_processes r.active.ready in omega (arith, e, c)
ready_count Reactive r = let e = standing_weight ones r in let c = count_processes r.reactive.ready in omega (arith, e, c)

at_most_one : (s : Set) → job_count s ≤ 1
at_most_one s = at_most (length s.jobs)
  where
    at_most : (n : ℕ) → (if n == 0 then 0 else 1) ≤ 1
    at_most n = grind (arith, nat_tests)

pub has_room : (d : Parts) → IsBuilt d → HasRoom d
has_room d b c h =
    let k = reached_sound d b c h in
    let w : weight ones c ≤ weight_of_all ones c.processes = k.weights ones in
    let a = all_count c.processes in
    let f : length c.processes ≤ 2 ^ 18 = k.related.few in
    let n = ready_count (acting c) c.regions in
    let j = at_most_one (front c) in
    omega (arith, w, a, f, n, j)

pub built_directed : (d : Parts) → IsBuilt d → EachIsDirected d
built_directed d b = each_directed d (has_room d b)

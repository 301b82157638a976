-- The lists by process of a machine are as long as that of the configuration for which it stands, and so is the tree.
use Rattle.std.proofs.Common.{ℕ, suc, ◌≡◌, ◌+◌, ◌-◌, ◌≤◌, ◌^◌, List, [], ◌∷◌, Some, refl, ap, sym, ◌∙◌, arith, drop, length, map, slice_get, slice_index_or, take}
use Rattle.std.specs.Prelude.{sum_by}
use Rattle.std.proofs.lemmas.List.{length-map}
use Rattle.sv_value.specs.declared.number.ProcessId.{ProcessId}
use Rattle.sv_flat.specs.declared.design.Parts.{Parts}
use Rattle.sv_flat.specs.Process.{ProcessState}
use Rattle.sv_flat.specs.Config.{Config, numbered_from, process_at}
use Rattle.sv_fork.specs.Tree.{Member, member_of, side_of}
use Rattle.sv_sound.specs.Sound.{IsSound, weight_of_all}
use Rattle.sv_sound.proofs.Weights.{map_at}
use Rattle.sv_stack.specs.Frames.{todos_of}
use Rattle.sv_machine.specs.declared.machine.Machine.{Machine}
use Rattle.sv_machine.specs.Waits.{awaited_at, awaited_by}
use Rattle.sv_machine.specs.Machine.{Picture, of_machine, of_config, rest_of, was_taken, made_of}
use Rattle.sv_machine.specs.Wakes.{side_at}

pub numbers_map : {A B : Type 0} (f : A → B) (n : ℕ) (xs : List A) → numbered_from n (map f xs) ≡ numbered_from n xs
numbers_map f n [] = refl
numbers_map f n (x ∷ xs) = ap (λ (ps : List ProcessId). record { 0 = n } ∷ ps) (numbers_map f (n + 1) xs)

-- a list that is not empty, as a pattern splits it
pub split_first : {A : Type 0} (xs : List A) (x : A) → 1 ≤ length xs → xs ≡ slice_index_or xs 0 x ∷ take (length xs - 1) (drop 1 xs)
split_first [] x l = absurd (omega (arith, l))
split_first (y ∷ ys) x l =
    let n : suc (length ys) - 1 ≡ length ys = omega arith in
    ap (λ (zs : List _). y ∷ zs) (sym (ap (λ k. take k ys) n ∙ take_all ys))
  where
    take_all : {A : Type 0} (zs : List A) → take (length zs) zs ≡ zs
    take_all [] = refl
    take_all (z ∷ zs) = ap (λ (us : List _). z ∷ us) (take_all zs)

module _ (d : Parts) (m : Machine) (c : Config) (same : of_machine d m ≡ of_config d c) where
  pub family_is : m.tree ≡ map member_of c.processes
  family_is = ap (λ (x : Picture). x.family) same

  -- all weigh the same
  pub family_weight : (w : ProcessId → ℕ) → weight_of_all w m.tree ≡ weight_of_all w c.processes
  family_weight w = ap (λ (ms : List Member). weight_of_all w ms) family_is ∙ ap (sum_by w) (numbers_map member_of 0 c.processes)

  pub family_count : length m.tree ≡ length c.processes
  family_count = ap (λ (ms : List Member). length ms) family_is ∙ length-map c.processes member_of

  pub family_few : IsSound d c → length m.tree ≤ 2 ^ 18
  family_few k = let f = k.related.few in let n = family_count in omega (arith, f, n)

  pub frames_count : length m.processes.items ≡ length c.processes
  frames_count =
      let e = ap (λ (x : Picture). length x.remaining) same in
      let l = length-map m.processes.items (todos_of d) in
      let o = length-map c.processes rest_of in
      omega (arith, e, l, o)

  pub waits_count : length m.sense.waits ≡ length c.processes
  waits_count =
      let e = ap (λ (x : Picture). length x.waiting) same in
      let l = length-map m.sense.waits (awaited_at d) in
      let o = length-map c.processes awaited_by in
      omega (arith, e, l, o)

  pub taken_count : length m.taken.items ≡ length c.processes
  taken_count = ap (λ (x : Picture). length x.taken) same ∙ length-map c.processes was_taken

  pub made_count : length m.activations.made ≡ length c.processes
  made_count = ap (λ (x : Picture). length x.made) same ∙ length-map c.processes made_of

  -- the side of a process
  pub side_is : (p : ProcessId) (q : ProcessState) → process_at c p ≡ Some q → side_at m.tree p ≡ q.side
  side_is p q is = ap (λ (ms : List Member). side_of (slice_get ms p.0)) family_is ∙ ap side_of (map_at member_of c.processes p.0 q is)

  pub side_from : (i : ℕ) (q : ProcessState) → slice_get c.processes i ≡ Some q → q.side ≡ side_at m.tree (record { 0 = 0 + i })
  side_from i q is = let z : 0 + i ≡ i = omega arith in sym (ap (λ k. side_of (slice_get m.tree k)) z ∙ side_is (record { 0 = i }) q is)

-- The processes of an opening.
use Rattle.std.proofs.Common.{ℕ, suc, ◌≡◌, ◌+◌, ◌<◌, ◌≤◌, List, [], ◌∷◌, ◌++◌, Option, None, Bool, true, false, cond, refl, ap, sym, ◌∙◌, arith, length, drop, get_or, map, drop-cons, take}
use Rattle.std.proofs.lemmas.List.{take_more, length-take-le, length-map, map-append}
use Rattle.std.specs.Prelude.{replicate, ◌&&◌, ◌||◌, if◌then◌else◌}
use Rattle.std.specs.List.{list_any}
use Rattle.sv_flat.specs.declared.process.Process.{Process}
use Rattle.sv_flat.specs.declared.design.Parts.{Parts}
use Rattle.sv_flat.specs.Process.{Todo, Ready, Waiting, Start, body_in}
use Rattle.sv_flat.specs.Config.{starts, is_always_comb}
use Rattle.sv_flat.specs.Effects.Ends.{is_ended}
use Rattle.sv_flat.specs.Opening.{opening_process}
use Rattle.sv_sound.specs.Sound.{pending_count}
use Rattle.sv_fork.specs.Tree.{Member, join_of, member_of}
use Rattle.sv_stack.specs.declared.frames.Frame.TheVariants.{Rest}
use Rattle.sv_stack.specs.Frames.{todos_of}
use Rattle.sv_machine.specs.Machine.{rest_of, was_taken, made_of}
use Rattle.sv_machine.specs.Waits.{Awaited, awaited, awaited_at, awaited_by}
use Rattle.sv_machine.specs.Opening.{first_member, starter_count}

module _ (d : Parts) where
  beginning : (f : Process) → todos_of d (Rest (record { routine = f.body; place = 0 }) None ∷ []) ≡ body_in d f.body None
  beginning f = Rattle.std.proofs.lemmas.List.append-nil (body_in d f.body None)

  pub opening_rest : (fs : List Process) → map (todos_of d) (map (λ f. Rest (record { routine = f.body; place = 0 }) None ∷ []) fs) ≡ map rest_of (map (opening_process d) fs)
  opening_rest [] = refl
  opening_rest (f ∷ fs) =
      ap (λ (ts : List Todo). ts ∷ map (todos_of d) (map (λ f. Rest (record { routine = f.body; place = 0 }) None ∷ []) fs)) (beginning f)
      ∙ ap (λ (tss : List (List Todo)). body_in d f.body None ∷ tss) (opening_rest fs)

  pub opening_taken : (fs : List Process) → map (λ f. false) fs ≡ map was_taken (map (opening_process d) fs)
  opening_taken [] = refl
  opening_taken (f ∷ fs) = ap (λ (bs : List Bool). false ∷ bs) (opening_taken fs)

  -- each on its side, which no process forked; none waits for children
  pub opening_family : (fs : List Process) → map first_member fs ≡ map member_of (map (opening_process d) fs)
  opening_family [] = refl
  opening_family (f ∷ fs) =
      λ i. record { side = f.side; parent = None; over = not_over (is_always_comb f.kind && list_any starts d.processes) i; join = no_join (is_always_comb f.kind && list_any starts d.processes) i } ∷ opening_family fs i
    where
      not_over : (b : Bool) → false ≡ is_ended (if b then Waiting Start else Ready)
      not_over true = refl
      not_over false = refl

      no_join : (b : Bool) → None ≡ join_of (if b then Waiting Start else Ready)
      no_join true = refl
      no_join false = refl

  -- nobody made an activation
  pub opening_made : (fs : List Process) → replicate (length fs) 0 ≡ map made_of (map (opening_process d) fs)
  opening_made [] = refl
  opening_made (f ∷ fs) = ap (λ (ns : List ℕ). 0 ∷ ns) (opening_made fs)

  by_test : (b : Bool) → awaited (if b then Waiting Start else Ready) ≡ None
  by_test true = refl
  by_test false = refl

  -- nobody waits for a change
  pub opening_waits : (fs : List Process) → map (awaited_at d) (map (λ p. None) fs) ≡ map awaited_by (map (opening_process d) fs)
  opening_waits [] = refl
  opening_waits (f ∷ fs) =
      ap (λ (o : Option Awaited). o ∷ map (awaited_at d) (map (λ p. None) fs)) (sym (by_test (is_always_comb f.kind && list_any starts d.processes)))
      ∙ ap (λ (os : List (Option Awaited)). awaited_by (opening_process d f) ∷ os) (opening_waits fs)

  and_true : (b : Bool) (n : ℕ) → cond b 1 0 + n ≡ cond (b && true) 1 0 + n
  and_true true n = refl
  and_true false n = refl

  pub opening_starters : (fs : List Process) → starter_count fs ≡ pending_count fs (map (opening_process d) fs)
  opening_starters [] = refl
  opening_starters (f ∷ fs) = ap (λ (n : ℕ). (if starts f then 1 else 0) + n) (opening_starters fs) ∙ and_true (starts f) (pending_count fs (map (opening_process d) fs))

-- ---- the tree, one process after another

pub family_so_far : (fs : List Process) (i : ℕ) (ms : List Member) → i ≤ length fs → ms ≡ map first_member (take i fs) → length ms ≡ i
family_so_far fs i ms l e = ap (λ (xs : List Member). length xs) e ∙ length-map (take i fs) first_member ∙ length-take-le i fs l

pub family_more : (fs : List Process) (i : ℕ) (f : Process) → i < length fs → get_or fs i f ≡ f
    → map first_member (take i fs) ++ first_member f ∷ [] ≡ map first_member (take (i + 1) fs)
family_more fs i f l e = sym (ap (map first_member) (take_more fs i f l ∙ ap (λ (g : Process). take i fs ++ g ∷ []) e) ∙ map-append first_member (take i fs) (f ∷ []))

-- ---- one process more

module _ (fs : List Process) (i : ℕ) (f : Process) (h : i < length fs) (is : get_or fs i f ≡ f) where
  split : drop i fs ≡ f ∷ drop (i + 1) fs
  split = let n : suc i ≡ i + 1 = omega arith in drop-cons fs i f h ∙ ap (λ (x : Process). x ∷ drop (suc i) fs) is ∙ ap (λ (n : ℕ). f ∷ drop n fs) n

  counted : (b : Bool) → starts f ≡ b → starter_count (drop i fs) ≡ (if b then 1 else 0) + starter_count (drop (i + 1) fs)
  counted b e = ap starter_count split ∙ ap (λ (b : Bool). (if b then 1 else 0) + starter_count (drop (i + 1) fs)) e

  -- it was counted
  pub one_counted : (n m : ℕ) → starts f ≡ true → m ≡ n + 1 → n + starter_count (drop i fs) ≡ starter_count fs → m + starter_count (drop (i + 1) fs) ≡ starter_count fs
  one_counted n m e k h = let z = counted true e in omega (arith, z, k, h)

  -- it is no starter
  pub none_counted : (n m : ℕ) → starts f ≡ false → m ≡ n → n + starter_count (drop i fs) ≡ starter_count fs → m + starter_count (drop (i + 1) fs) ≡ starter_count fs
  none_counted n m e k h = let z = counted false e in omega (arith, z, k, h)

  pub one_passed : starts f ≡ false → list_any starts (drop i fs) ≡ list_any starts (drop (i + 1) fs)
  one_passed e = ap (list_any starts) split ∙ ap (λ (b : Bool). b || list_any starts (drop (i + 1) fs)) e

  pub one_found : starts f ≡ true → list_any starts (drop i fs) ≡ true
  one_found e = ap (list_any starts) split ∙ ap (λ (b : Bool). b || list_any starts (drop (i + 1) fs)) e

-- Rounds over declarations in place are the rounds of the definition.
use Rattle.std.proofs.Common.{◌≡◌, ℕ, zero, suc, ◌+◌, ◌≤◌, Bool, true, false, List, [], ◌∷◌, ◌++◌, length, refl, ap, sym, subst, length-append, ◌∙◌, arith, ◌&&◌, if◌then◌else◌}
use Rattle.std.specs.Prelude.{nat_lt}
use Rattle.sv_names.specs.declared.named.Known.{Known}
use Rattle.sv_names.specs.Types.{Path}
use Rattle.sv_names.specs.Named.{Around}
use Rattle.sv_names.specs.Rounds.{Row, does_wait, round, rounds, next, waiting, known_rows}
use Rattle.sv_names.specs.Groups.{Group, with_around, in_group}
use Rattle.sv_elab_scope.specs.declared.declared.Entry.{Entry}
use Rattle.sv_elab_scope.specs.Rows.{all_known, rows_at, rows_from, all_rows, Agree, AllAgree, group_over}
use Rattle.sv_elab_scope.specs.Settling.{Meant, prepare_over, evaluated_by, evaluated, marks_in, waiting_in, waiting_lists, waiting_group, group_round, next_group, group_rounds, count, group_known}
use Rattle.sv_elab_scope.specs.Ending.{first_group}
use Rattle.sv_elab_scope.proofs.RoundLaws.{stands_in, lists_with, round-from, evaluated-stands}
use Rattle.sv_elab_scope.proofs.PlaceLaws.{group-over, group-with-over, known-with, agree-group, Becomes, becomes-is, becomes-then}

-- ---- how many wait

waiting-append : (a b : List Row) → waiting (a ++ b) ≡ waiting a + waiting b
waiting-append [] b = omega arith
waiting-append (r ∷ a) b = let e : waiting (a ++ b) ≡ waiting a + waiting b = waiting-append a b in rw e (omega arith)

waiting-at : (h : ℕ) (es : List Entry) (ks : List Known) → Agree es ks → waiting (rows_at h es ks) ≡ waiting_in ks
waiting-at h [] [] a = refl
waiting-at h [] (k ∷ ks) a = absurd a
waiting-at h (e ∷ es) [] a = absurd a
waiting-at h (e ∷ es) (k ∷ ks) (n, t, a) = ap (λ m. (if does_wait k.value then 1 else 0) + m) (waiting-at h es ks a)

waiting-from : (h : ℕ) (ess : List (List Entry)) (kss : List (List Known)) → AllAgree ess kss → waiting (rows_from h ess kss) ≡ waiting_lists kss
waiting-from h [] [] a = refl
waiting-from h [] (ks ∷ kss) a = absurd a
waiting-from h (es ∷ more) [] a = absurd a
waiting-from h (es ∷ more) (ks ∷ kss) (a, b) =
    waiting-append (rows_at h es ks) (rows_from (suc h) more kss)
    ∙ (λ i. waiting-at h es ks a i + waiting-from (suc h) more kss b i)

pub waiting-all : (ess : List (List Entry)) (g : Group) → AllAgree ess (all_known g) → waiting (all_rows ess g) ≡ waiting_group g
waiting-all ess g a = waiting-from 0 ess (all_known g) a

-- ---- rounds

-- what is seen does not depend on the values
pub same_sight : (ar : Around) (old new : Group) → group_over new ≡ group_over old → prepare_over ar new ≡ prepare_over ar old
same_sight ar old new e = ap (λ (f : List Row → Group). λ rs. with_around ar (f rs)) e

module _ (meant : Meant) (l : Bool) (ar : Around) (p : Path) (ess : List (List Entry)) where
  -- what a round keeps
  pub agree-round : (g : Group) → AllAgree ess (all_known g) → AllAgree ess (all_known (group_round meant l ar p ess g))
  agree-round g a = agree-group ess g (evaluated meant l ar p ess (marks_in (all_known g)) g) a

  pub shape-round : (g : Group) → group_over (group_round meant l ar p ess g) ≡ group_over g
  shape-round g = group-with-over g (evaluated meant l ar p ess (marks_in (all_known g)) g)

  -- one round in place is one round of the rows
  rows-round : (g : Group) → AllAgree ess (all_known g)
      → round (prepare_over ar g) (evaluated_by meant l p) (prepare_over ar g (all_rows ess g)) (all_rows ess g)
      ≡ all_rows ess (group_round meant l ar p ess g)
  rows-round g a =
      (λ i. round (prepare_over ar g) (evaluated_by meant l p) (group-over ess g a i, in_group (group-over ess g a i) ar) (all_rows ess g))
      ∙ round-from (prepare_over ar g) (evaluated_by meant l p) (g, in_group g ar) (stands_in meant l p (g, in_group g ar)) (λ h e k. refl) 0 ess (all_known g)
      ∙ ap (λ vss. rows_from 0 ess (lists_with (all_known g) vss)) (sym (evaluated-stands meant l ar p ess (marks_in (all_known g)) g a))
      ∙ ap (rows_from 0 ess) (sym (known-with g (evaluated meant l ar p ess (marks_in (all_known g)) g)))

  further : (b : Bool) (go : List Row → List Row) (go' : Group → Group) (new : Group)
      → go (all_rows ess new) ≡ all_rows ess (go' new)
      → next b go (all_rows ess new) ≡ all_rows ess (next_group b go' new)
  further true go go' new e = e
  further false go go' new e = refl

  rows-rounds : (n : ℕ) (g : Group) → AllAgree ess (all_known g)
      → rounds (prepare_over ar g) (evaluated_by meant l p) n (all_rows ess g) ≡ all_rows ess (group_rounds meant l ar p ess n g)
  rows-rounds zero g a = refl
  rows-rounds (suc n) g a =
      let new : Group = group_round meant l ar p ess g in
      let stands : AllAgree ess (all_known new) = agree-round g a in
      (λ i. next (nat_lt (waiting (rows-round g a i)) (waiting-all ess g a i) && nat_lt 0 (waiting (rows-round g a i)))
      (λ x. rounds (prepare_over ar g) (evaluated_by meant l p) n x) (rows-round g a i))
      ∙ (λ i. next (nat_lt (waiting-all ess new stands i) (waiting_group g) && nat_lt 0 (waiting-all ess new stands i))
      (λ x. rounds (prepare_over ar g) (evaluated_by meant l p) n x) (all_rows ess new))
      ∙ further (nat_lt (waiting_group new) (waiting_group g) && nat_lt 0 (waiting_group new))
      (λ x. rounds (prepare_over ar g) (evaluated_by meant l p) n x) (λ x. group_rounds meant l ar p ess n x) new
      (ap (λ (f : List Row → Group × Around). rounds f (evaluated_by meant l p) n (all_rows ess new)) (sym (same_sight ar g new (shape-round g)))
      ∙ rows-rounds n new stands)

  -- ---- what rounds keep

  step_shape : (b : Bool) (go : Group → Group) (g new : Group) → group_over new ≡ group_over g
      → group_over (go new) ≡ group_over new → group_over (next_group b go new) ≡ group_over g
  step_shape true go g new e more = more ∙ e
  step_shape false go g new e more = e

  shape-rounds : (n : ℕ) (g : Group) → group_over (group_rounds meant l ar p ess n g) ≡ group_over g
  shape-rounds zero g = refl
  shape-rounds (suc n) g =
      let new : Group = group_round meant l ar p ess g in
      step_shape (nat_lt (waiting_group new) (waiting_group g) && nat_lt 0 (waiting_group new)) (λ x. group_rounds meant l ar p ess n x) g new
      (shape-round g) (shape-rounds n new)

  step_agree : (b : Bool) (go : Group → Group) (new : Group)
      → AllAgree ess (all_known new) → AllAgree ess (all_known (go new)) → AllAgree ess (all_known (next_group b go new))
  step_agree true go new a more = more
  step_agree false go new a more = a

  agree-rounds : (n : ℕ) (g : Group) → AllAgree ess (all_known g) → AllAgree ess (all_known (group_rounds meant l ar p ess n g))
  agree-rounds zero g a = a
  agree-rounds (suc n) g a =
      let new : Group = group_round meant l ar p ess g in
      let stands : AllAgree ess (all_known new) = agree-round g a in
      step_agree (nat_lt (waiting_group new) (waiting_group g) && nat_lt 0 (waiting_group new)) (λ x. group_rounds meant l ar p ess n x) new
      stands (agree-rounds n new stands)

-- ---- as many rounds as there are declarations

length-at : (h : ℕ) (es : List Entry) (ks : List Known) → Agree es ks → length (rows_at h es ks) ≡ length es
length-at h [] [] a = refl
length-at h [] (k ∷ ks) a = absurd a
length-at h (e ∷ es) [] a = absurd a
length-at h (e ∷ es) (k ∷ ks) (n, t, a) = ap suc (length-at h es ks a)

length-from : (h : ℕ) (ess : List (List Entry)) (kss : List (List Known)) → AllAgree ess kss → length (rows_from h ess kss) ≡ count ess
length-from h [] [] a = refl
length-from h [] (ks ∷ kss) a = absurd a
length-from h (es ∷ more) [] a = absurd a
length-from h (es ∷ more) (ks ∷ kss) (a, b) =
    length-append (rows_at h es ks) (rows_from (suc h) more kss) ∙ (λ i. length-at h es ks a i + length-from (suc h) more kss b i)

module _ (meant : Meant) (l : Bool) (ar : Around) (p : Path) (ess : List (List Entry)) where
  pub known-becomes : (g : Group) → AllAgree ess (all_known g)
      → Becomes ess g (known_rows (prepare_over ar g) (evaluated_by meant l p) (all_rows ess g)) (group_known meant l ar p ess g)
  known-becomes g a =
      record {
        rows = sym (rows-rounds meant l ar p ess (count ess) g a)
            ∙ ap (λ m. rounds (prepare_over ar g) (evaluated_by meant l p) m (all_rows ess g)) (sym (length-from 0 ess (all_known g) a));
        agree = agree-rounds meant l ar p ess (count ess) g a;
        shape = shape-rounds meant l ar p ess (count ess) g;
      }

  -- the same over rows that a group has become
  pub known-then : (old mid : Group) (rs : List Row) → Becomes ess old rs mid
      → Becomes ess old (known_rows (prepare_over ar old) (evaluated_by meant l p) rs) (group_known meant l ar p ess mid)
  known-then old mid rs b =
      let same : known_rows (prepare_over ar mid) (evaluated_by meant l p) (all_rows ess mid) ≡ known_rows (prepare_over ar old) (evaluated_by meant l p) rs =
      λ i. known_rows (same_sight ar old mid b.shape i) (evaluated_by meant l p) (b.rows i) in
      subst (λ (ts : List Row). Becomes ess old ts (group_known meant l ar p ess mid)) same
      (becomes-then ess old rs _ mid _ b (known-becomes mid b.agree))

pub first-is : (meant : Meant) (ar : Around) (p : Path) (ess : List (List Entry)) (g : Group) → AllAgree ess (all_known g)
    → group_known meant false ar p ess g ≡ first_group meant ar p ess g
first-is meant ar p ess g a = becomes-is ess g _ _ (known-becomes meant false ar p ess g a)

-- ---- the loop of rounds

next_on : (b : Bool) (go : Group → Group) (g : Group) → b ≡ true → next_group b go g ≡ go g
next_on true go g is = refl
next_on false go g is = let no : ⊥ = cc in absurd no

next_off : (b : Bool) (go : Group → Group) (g : Group) → b ≡ false → next_group b go g ≡ g
next_off true go g is = let no : ⊥ = cc in absurd no
next_off false go g is = refl

-- no round is left
pub rounds-none : (meant : Meant) (l : Bool) (ar : Around) (p : Path) (ess : List (List Entry)) (n : ℕ) (g : Group)
    → n ≤ 0 → group_rounds meant l ar p ess n g ≡ g
rounds-none meant l ar p ess zero g none = refl
rounds-none meant l ar p ess (suc n) g none = let no : ⊥ = omega (arith, none) in absurd no

-- what stands after a round, how many wait then, and whether it goes on
module _ (meant : Meant) (l : Bool) (ar : Around) (p : Path) (ess : List (List Entry)) (n k before after : ℕ) (g new : Group) (b : Bool)
    (is : n ≡ suc k) (counted : before ≡ waiting_group g) (made : new ≡ group_round meant l ar p ess g) (waits : after ≡ waiting_group new)
    (test : b ≡ (nat_lt after before && nat_lt 0 after)) where
  tested : (nat_lt (waiting_group (group_round meant l ar p ess g)) (waiting_group g) && nat_lt 0 (waiting_group (group_round meant l ar p ess g))) ≡ b
  tested =
      let same : after ≡ waiting_group (group_round meant l ar p ess g) = waits ∙ ap waiting_group made in
      sym (test ∙ (λ i. nat_lt (same i) (counted i) && nat_lt 0 (same i)))

  pub going-on : b ≡ true → group_rounds meant l ar p ess k new ≡ group_rounds meant l ar p ess n g
  going-on holds =
      ap (λ x. group_rounds meant l ar p ess k x) made
      ∙ sym (ap (λ m. group_rounds meant l ar p ess m g) is
      ∙ next_on _ (λ x. group_rounds meant l ar p ess k x) (group_round meant l ar p ess g) (tested ∙ holds))

  pub ending : b ≡ false → new ≡ group_rounds meant l ar p ess n g
  ending fails =
      made
      ∙ sym (ap (λ m. group_rounds meant l ar p ess m g) is
      ∙ next_off _ (λ x. group_rounds meant l ar p ess k x) (group_round meant l ar p ess g) (tested ∙ fails))

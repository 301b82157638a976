-- What a group knows in place is what its rows say.
use Rattle.std.proofs.Common.{◌≡◌, ◌≢◌, ℕ, suc, ◌<◌, ◌≤◌, Bool, true, false, List, [], ◌∷◌, ◌++◌, Option, refl, ap, sym, subst, ◌∙◌, arith, ◌==◌, if◌then◌else◌, ne_eqb, eq-eqb}
use Rattle.std.proofs.lemmas.List.{append-nil}
use Rattle.sv_names.specs.declared.around.ClassInfo.{ClassInfo}
use Rattle.sv_names.specs.declared.checked.Checked.{Checked}
use Rattle.sv_names.specs.declared.named.Known.{Known}
use Rattle.sv_names.specs.declared.named.Named.{Named}
use Rattle.sv_names.specs.Index.{more_values, with_values}
use Rattle.sv_names.specs.Rounds.{Row, known_of, known_in}
use Rattle.sv_names.specs.Groups.{Group}
use Rattle.sv_elab_scope.specs.declared.declared.Entry.{Entry}
use Rattle.sv_elab_scope.specs.Rows.{members_known, all_known, row_of, rows_at, rows_from, all_rows, Agree, AllAgree, classes_over, group_over}
use Rattle.sv_elab_scope.specs.Settling.{first_row, more_rows, classes_with, group_with}
use Rattle.sv_elab_scope.proofs.RoundLaws.{lists_with}

-- ---- what a scope knows of its own rows

known_if : (r : Row) (xs ys zs : List Known) → xs ≡ ys ++ zs → (t : Bool)
    → (if t then known_of r ∷ xs else xs) ≡ (if t then known_of r ∷ ys else ys) ++ zs
known_if r xs ys zs e true = ap (λ ks. known_of r ∷ ks) e
known_if r xs ys zs e false = e

known-append : (h : ℕ) (a b : List Row) → known_in h (a ++ b) ≡ known_in h a ++ known_in h b
known-append h [] b = refl
known-append h (r ∷ a) b = known_if r (known_in h (a ++ b)) (known_in h a) (known_in h b) (known-append h a b) (h == r.home)

known-at : (h : ℕ) (es : List Entry) (ks : List Known) → Agree es ks → known_in h (rows_at h es ks) ≡ ks
known-at h [] [] a = refl
known-at h [] (k ∷ ks) a = absurd a
known-at h (e ∷ es) [] a = absurd a
known-at h (e ∷ es) (k ∷ ks) (n, t, a) =
    ap (λ b. if b then known_of (row_of h e k) ∷ known_in h (rows_at h es ks) else known_in h (rows_at h es ks)) (eq-eqb h h refl)
    ∙ (λ i. record { name = sym n i; kind = sym t i; value = k.value } ∷ known-at h es ks a i)

known-elsewhere : (h j : ℕ) (es : List Entry) (ks : List Known) → h ≢ j → known_in h (rows_at j es ks) ≡ []
known-elsewhere h j [] ks ne = refl
known-elsewhere h j (e ∷ es) [] ne = refl
known-elsewhere h j (e ∷ es) (k ∷ ks) ne =
    ap (λ b. if b then known_of (row_of j e k) ∷ known_in h (rows_at j es ks) else known_in h (rows_at j es ks)) (ne_eqb h j ne)
    ∙ known-elsewhere h j es ks ne

known-before : (h j : ℕ) (ess : List (List Entry)) (kss : List (List Known)) → h < j → known_in h (rows_from j ess kss) ≡ []
known-before h j [] kss less = refl
known-before h j (es ∷ more) [] less = refl
known-before h j (es ∷ more) (ks ∷ kss) less =
    known-append h (rows_at j es ks) (rows_from (suc j) more kss)
    ∙ (λ i. known-elsewhere h j es ks (λ e. omega (arith, e)) i ++ known-before h (suc j) more kss (omega arith) i)

known-first : (h : ℕ) (es : List Entry) (ks : List Known) (more : List (List Entry)) (kss : List (List Known)) → Agree es ks
    → known_in h (rows_at h es ks ++ rows_from (suc h) more kss) ≡ ks
known-first h es ks more kss a =
    known-append h (rows_at h es ks) (rows_from (suc h) more kss)
    ∙ (λ i. known-at h es ks a i ++ known-before h (suc h) more kss (omega arith) i) ∙ append-nil ks

-- ---- the classes

-- rows that say of these scopes what others say
abbrev Tell : ℕ → List Row → List Row → Type 0
Tell h rs ms = (j : ℕ) → h ≤ j → known_in j rs ≡ known_in j ms

tell_next : (h : ℕ) (rs : List Row) (es : List Entry) (ks : List Known) (ms : List Row)
    → Tell h rs (rows_at h es ks ++ ms) → Tell (suc h) rs ms
tell_next h rs es ks ms t j le =
    t j (omega arith) ∙ known-append j (rows_at h es ks) ms ∙ ap (λ ls. ls ++ known_in j ms) (known-elsewhere j h es ks (λ e. omega (arith, e)))

classes-over : (h : ℕ) (rs : List Row) (more : List (List Entry)) (cs : List ClassInfo)
    → AllAgree more (members_known cs) → Tell h rs (rows_from h more (members_known cs)) → classes_over h rs cs ≡ cs
classes-over h rs [] [] a t = refl
classes-over h rs [] (c ∷ cs) a t = absurd a
classes-over h rs (es ∷ more) [] a t = absurd a
classes-over h rs (es ∷ more) (c ∷ cs) (a, b) t =
    let own : known_in h rs ≡ c.scope.known = t h (omega arith) ∙ known-first h es c.scope.known more (members_known cs) a in
    λ i. record c { scope = record c.scope { known = own i } }
    ∷ classes-over (suc h) rs more cs b (tell_next h rs es c.scope.known (rows_from (suc h) more (members_known cs)) t) i

tell_members : (es : List Entry) (ks : List Known) (ms : List Row) → Tell 1 (rows_at 0 es ks ++ ms) ms
tell_members es ks ms j le =
    known-append j (rows_at 0 es ks) ms ∙ ap (λ ls. ls ++ known_in j ms) (known-elsewhere j 0 es ks (λ e. omega (arith, e)))

-- a group is that over its own rows
pub group-over : (ess : List (List Entry)) (g : Group) → AllAgree ess (all_known g) → group_over g (all_rows ess g) ≡ g
group-over [] g a = absurd a
group-over (es ∷ more) g (a, b) =
    λ i. record {
      scope = record g.scope { known = known-first 0 es g.scope.known more (members_known g.classes) a i };
      classes =
          classes-over 1 (all_rows (es ∷ more) g) more g.classes b
          (tell_members es g.scope.known (rows_from 1 more (members_known g.classes))) i;
    }

-- ---- other values change neither the shape nor the names

classes-with-over : (h : ℕ) (rs : List Row) (cs : List ClassInfo) (vss : List (List (Option (Checked Named))))
    → classes_over h rs (classes_with cs vss) ≡ classes_over h rs cs
classes-with-over h rs [] vss = refl
classes-with-over h rs (c ∷ cs) vss =
    ap (λ ds. record c { scope = record c.scope { known = known_in h rs } } ∷ ds) (classes-with-over (suc h) rs cs (more_rows vss))

pub group-with-over : (g : Group) (vss : List (List (Option (Checked Named)))) → group_over (group_with g vss) ≡ group_over g
group-with-over g vss =
    λ i rs. record { scope = record g.scope { known = known_in 0 rs }; classes = classes-with-over 1 rs g.classes (more_rows vss) i }

members-with : (cs : List ClassInfo) (vss : List (List (Option (Checked Named)))) → members_known (classes_with cs vss) ≡ lists_with (members_known cs) vss
members-with [] vss = refl
members-with (c ∷ cs) vss = ap (λ kss. with_values c.scope.known (first_row vss) ∷ kss) (members-with cs (more_rows vss))

pub known-with : (g : Group) (vss : List (List (Option (Checked Named)))) → all_known (group_with g vss) ≡ lists_with (all_known g) vss
known-with g vss = ap (λ kss. with_values g.scope.known (first_row vss) ∷ kss) (members-with g.classes (more_rows vss))

agree-with : (es : List Entry) (ks : List Known) (vs : List (Option (Checked Named))) → Agree es ks → Agree es (with_values ks vs)
agree-with [] [] vs a = a
agree-with [] (k ∷ ks) vs a = absurd a
agree-with (e ∷ es) [] vs a = absurd a
agree-with (e ∷ es) (k ∷ ks) vs (n, t, a) = (n, t, agree-with es ks (more_values vs) a)

pub lists-agree : (ess : List (List Entry)) (kss : List (List Known)) (vss : List (List (Option (Checked Named))))
    → AllAgree ess kss → AllAgree ess (lists_with kss vss)
lists-agree [] [] vss a = a
lists-agree [] (ks ∷ kss) vss a = absurd a
lists-agree (es ∷ more) [] vss a = absurd a
lists-agree (es ∷ more) (ks ∷ kss) vss (a, b) = (agree-with es ks (first_row vss) a, lists-agree more kss (more_rows vss) b)

pub agree-group : (ess : List (List Entry)) (g : Group) (vss : List (List (Option (Checked Named))))
    → AllAgree ess (all_known g) → AllAgree ess (all_known (group_with g vss))
agree-group ess g vss a = subst (λ (kss : List (List Known)). AllAgree ess kss) (sym (known-with g vss)) (lists-agree ess (all_known g) vss a)

-- ---- a group that has become rows

-- a group has these rows, in the shape of another one
pub record Becomes (ess : List (List Entry)) (old : Group) (rs : List Row) (new : Group) : Type 0 where
  pub rows : all_rows ess new ≡ rs
  pub agree : AllAgree ess (all_known new)
  pub shape : group_over new ≡ group_over old

-- it is the other one over these rows
pub becomes-is : (ess : List (List Entry)) (old : Group) (rs : List Row) (new : Group) → Becomes ess old rs new → new ≡ group_over old rs
becomes-is ess old rs new b = sym (group-over ess new b.agree) ∙ (λ i. b.shape i (all_rows ess new)) ∙ ap (group_over old) b.rows

-- one step after another
pub becomes-then : (ess : List (List Entry)) (old : Group) (rs ts : List Row) (mid new : Group)
    → Becomes ess old rs mid → Becomes ess mid ts new → Becomes ess old ts new
becomes-then ess old rs ts mid new a b = record { rows = b.rows; agree = b.agree; shape = b.shape ∙ a.shape }

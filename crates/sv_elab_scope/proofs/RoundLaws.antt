-- Declarations evaluated in place, and a round over them, are those of the definition.
use Rattle.std.proofs.Common.{◌≡◌, ℕ, suc, ◌+◌, Bool, true, false, List, [], ◌∷◌, ◌++◌, Option, refl, ap, sym, ◌∙◌, arith}
use Rattle.sv_names.specs.declared.around.ClassInfo.{ClassInfo}
use Rattle.sv_names.specs.declared.checked.Checked.{Checked}
use Rattle.sv_names.specs.declared.named.Known.{Known}
use Rattle.sv_names.specs.declared.named.Named.{Named}
use Rattle.sv_names.specs.Types.{Path}
use Rattle.sv_names.specs.Named.{Around}
use Rattle.sv_names.specs.Index.{with_value, with_values}
use Rattle.sv_names.specs.Entries as entries
use Rattle.sv_names.specs.Rounds.{Row, waits, does_wait, or_waits, round, renewed}
use Rattle.sv_names.specs.Groups.{Group, in_class, in_group, home_of}
use Rattle.sv_elab_scope.specs.declared.declared.Entry.{Entry}
use Rattle.sv_elab_scope.specs.Views.{entry_in}
use Rattle.sv_elab_scope.specs.Rows.{members_known, all_known, row_of, rows_at, rows_from, AllAgree}
use Rattle.sv_elab_scope.specs.Settling.{Meant, evaluated_by, renewal, renewals, class_renewals, member_renewals, evaluated, first_row, more_rows, waits_in, marks_in}

-- what declarations stand for, by their scope
abbrev pub Stands : Type 0
Stands = ℕ → entries.Entry → Checked Named

-- those of several scopes, where they are evaluated
abbrev pub renewals_from : Stands → ℕ → List (List Entry) → List (List Bool) → List (List (Option (Checked Named)))
renewals_from f h [] mss = []
renewals_from f h (es ∷ more) [] = []
renewals_from f h (es ∷ more) (ms ∷ mss) = renewals (f h) es ms ∷ renewals_from f (suc h) more mss

-- what is known, with other values
abbrev pub lists_with : List (List Known) → List (List (Option (Checked Named))) → List (List Known)
lists_with [] vss = []
lists_with (ks ∷ kss) vss = with_values ks (first_row vss) ∷ lists_with kss (more_rows vss)

-- ---- a round

pub round-append : {P : Type 0} (prepare : List Row → P) (evaluate : P → Row → Checked Named) (p : P) (a b : List Row)
    → round prepare evaluate p (a ++ b) ≡ round prepare evaluate p a ++ round prepare evaluate p b
round-append prepare evaluate p [] b = refl
round-append prepare evaluate p (r ∷ a) b = ap (λ rs. renewed prepare evaluate p r (does_wait r.value) ∷ rs) (round-append prepare evaluate p a b)

module _ {P : Type 0} (prepare : List Row → P) (evaluate : P → Row → Checked Named) (p : P) (f : Stands)
    (is : (h : ℕ) (e : Entry) (k : Known) → evaluate p (row_of h e k) ≡ f h (entry_in e)) where
  renewed-row : (h : ℕ) (e : Entry) (k : Known) (b : Bool)
      → renewed prepare evaluate p (row_of h e k) b ≡ row_of h e (with_value k (renewal b (f h (entry_in e))))
  renewed-row h e k true = ap (λ c. row_of h e (record k { value = or_waits c })) (is h e k)
  renewed-row h e k false = refl

  round-at : (h : ℕ) (es : List Entry) (ks : List Known)
      → round prepare evaluate p (rows_at h es ks) ≡ rows_at h es (with_values ks (renewals (f h) es (waits_in ks)))
  round-at h [] ks = refl
  round-at h (e ∷ es) [] = refl
  round-at h (e ∷ es) (k ∷ ks) = λ i. renewed-row h e k (does_wait k.value) i ∷ round-at h es ks i

  pub round-from : (h : ℕ) (ess : List (List Entry)) (kss : List (List Known))
      → round prepare evaluate p (rows_from h ess kss) ≡ rows_from h ess (lists_with kss (renewals_from f h ess (marks_in kss)))
  round-from h [] kss = refl
  round-from h (es ∷ more) [] = refl
  round-from h (es ∷ more) (ks ∷ kss) =
      round-append prepare evaluate p (rows_at h es ks) (rows_from (suc h) more kss)
      ∙ (λ i. round-at h es ks i ++ round-from (suc h) more kss i)

-- ---- each declaration in its scope

-- where the classes from one on are those of the whole list
abbrev pub AtHome : ℕ → List ClassInfo → List ClassInfo → Around → Around × Path → Type 0
AtHome h cs all ar here = (n : ℕ) → home_of (suc (h + n)) all ar here ≡ home_of (suc n) cs ar here

at_next : (h : ℕ) (c : ClassInfo) (cs all : List ClassInfo) (ar : Around) (here : Around × Path)
    → AtHome h (c ∷ cs) all ar here → AtHome (suc h) cs all ar here
at_next h c cs all ar here at n =
    let e : suc h + n ≡ h + suc n = omega arith in
    ap (λ m. home_of (suc m) all ar here) e ∙ at (suc n)

at_class : (h : ℕ) (c : ClassInfo) (cs all : List ClassInfo) (ar : Around) (here : Around × Path)
    → AtHome h (c ∷ cs) all ar here → home_of (suc h) all ar here ≡ (in_class c.path ar, c.path)
at_class h c cs all ar here at =
    let e : h ≡ h + 0 = omega arith in
    ap (λ m. home_of (suc m) all ar here) e ∙ at 0

at_start : (all : List ClassInfo) (ar : Around) (here : Around × Path) → AtHome 0 all all ar here
at_start all ar here n = let e : 0 + n ≡ n = omega arith in ap (λ m. home_of (suc m) all ar here) e

-- what the declarations of a group stand for, by their scope
abbrev pub stands_in : Meant → Bool → Path → Group × Around → Stands
stands_in meant l p g h e = evaluated_by meant l p g (record { home = h; entry = e; value = waits })

module _ (meant : Meant) (l : Bool) (p : Path) (g : Group × Around) where
  members-stand : (h : ℕ) (more : List (List Entry)) (mss : List (List Bool)) (cs : List ClassInfo)
      → AllAgree more (members_known cs) → AtHome h cs g.0.classes g.1 (g.1, p)
      → member_renewals meant l g.1 more mss cs ≡ renewals_from (stands_in meant l p g) (suc h) more mss
  members-stand h [] mss cs a at = refl
  members-stand h (es ∷ more) [] cs a at = refl
  members-stand h (es ∷ more) (ms ∷ mss) [] a at = absurd a
  members-stand h (es ∷ more) (ms ∷ mss) (c ∷ cs) (a, b) at =
      let home : home_of (suc h) g.0.classes g.1 (g.1, p) ≡ (in_class c.path g.1, c.path) = at_class h c cs g.0.classes g.1 (g.1, p) at in
      let first : class_renewals meant l g.1 c.path es ms ≡ renewals (stands_in meant l p g (suc h)) es ms =
      ap (λ (x : Around × Path). renewals (λ e. meant l x.0 x.1 e) es ms) (sym home) in
      λ i. first i ∷ members-stand (suc h) more mss cs b (at_next h c cs g.0.classes g.1 (g.1, p) at) i

pub evaluated-stands : (meant : Meant) (l : Bool) (ar : Around) (p : Path) (ess : List (List Entry)) (mss : List (List Bool)) (g : Group)
    → AllAgree ess (all_known g)
    → evaluated meant l ar p ess mss g ≡ renewals_from (stands_in meant l p (g, in_group g ar)) 0 ess mss
evaluated-stands meant l ar p [] mss g a = refl
evaluated-stands meant l ar p (es ∷ more) [] g a = refl
evaluated-stands meant l ar p (es ∷ more) (ms ∷ mss) g (a, b) =
    ap (λ vss. renewals (meant l (in_group g ar) p) es ms ∷ vss)
    (members-stand meant l p (g, in_group g ar) 0 more mss g.classes b (at_start g.classes (in_group g ar) (in_group g ar, p)))

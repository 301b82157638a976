-- Declarations that are tried in place are those that the definition tries; those that did not wait keep their values.
use Rattle.std.proofs.Common.{◌≡◌, ℕ, zero, suc, Bool, true, false, not, ◌&&◌, List, [], ◌∷◌, ◌++◌, map, Option, None, refl, ap, sym, subst, ◌∙◌, ◌==◌, if◌then◌else◌, true≢false}
use Rattle.std.specs.Prelude.{nat_lt}
use Rattle.std.proofs.lemmas.List.{map-append}
use Rattle.std.proofs.lemmas.Bool.{and_parts}
use Rattle.std.proofs.lemmas.Bool.Decides.{Decides-eqb}
use Rattle.sv_names.specs.declared.checked.Checked.{Checked}
use Rattle.sv_names.specs.declared.checked.Checked.TheVariants.{Good, Broken}
use Rattle.sv_names.specs.declared.named.Known.{Known}
use Rattle.sv_names.specs.declared.named.Named.{Named}
use Rattle.sv_names.specs.Types.{Path}
use Rattle.sv_names.specs.Named.{Around, nowhere_yet}
use Rattle.sv_names.specs.Index.{or_old, with_value, with_values}
use Rattle.sv_names.specs.Checked.{same_place, broken_at}
use Rattle.sv_names.specs.Rounds.{Row, waits, does_wait, tried_value, constant_place, as_tried, none_waits}
use Rattle.sv_names.specs.Groups.{Group, in_group}
use Rattle.sv_elab_scope.specs.declared.declared.Entry.{Entry}
use Rattle.sv_elab_scope.specs.declared.ids.RowId.{RowId}
use Rattle.sv_elab_scope.specs.Views.{entry_in}
use Rattle.sv_elab_scope.specs.Rows.{all_known, row_of, rows_at, rows_from, all_rows, Agree, AllAgree, group_over}
use Rattle.sv_elab_scope.specs.Settling.{Meant, evaluated, renewal, renewals, waits_in, marks_in, waiting_group, group_round, next_group, group_rounds, count, group_known}
use Rattle.sv_elab_scope.specs.Ids.{same_id, among_id, id_of, id_at}
use Rattle.sv_elab_scope.specs.Changes.{Change, Others, Among, Unsettled, tried_or, broken_if, change_of, changes_at, changes_from, changed}
use Rattle.sv_elab_scope.proofs.RoundLaws.{Stands, stands_in, renewals_from, lists_with, evaluated-stands}
use Rattle.sv_elab_scope.proofs.PlaceLaws.{group-with-over, known-with, agree-group, Becomes}
use Rattle.sv_elab_scope.proofs.RoundsLaws.{agree-round, shape-round}

-- ---- a declaration that waits has one value

pub waits-are : (c : Checked Named) → does_wait c ≡ true → c ≡ waits
waits-are (Good n) w = absurd (true≢false (sym w))
waits-are (Broken f) w =
    let whole = and_parts (same_place f.at nowhere_yet) (f.rule == 0) w in
    let place = and_parts ((f.at.file == 0) && (f.at.line == 0)) (f.at.col == 0) whole.0 in
    let line = and_parts (f.at.file == 0) (f.at.line == 0) place.0 in
    let file : f.at.file ≡ 0 = (Decides-eqb f.at.file 0).0 line.0 in
    let row : f.at.line ≡ 0 = (Decides-eqb f.at.line 0).0 line.1 in
    let col : f.at.col ≡ 0 = (Decides-eqb f.at.col 0).0 place.1 in
    let number : f.rule ≡ 0 = (Decides-eqb f.rule 0).0 whole.1 in
    λ i. Broken (record { at = record { file = file i; line = row i; col = col i }; rule = number i })

-- ---- those that did not wait keep their values, but for some

abbrev pub Stays : List RowId → ℕ → List Entry → List Known → List Known → Type 0
Stays is h [] ks js = Unit {0}
Stays is h (e ∷ es) [] js = Unit {0}
Stays is h (e ∷ es) (k ∷ ks) [] = Unit {0}
Stays is h (e ∷ es) (k ∷ ks) (j ∷ js) =
    (among_id (id_at h e) is ≡ false → does_wait k.value ≡ false → j.value ≡ k.value) × Stays is h es ks js

-- so it is in several scopes, numbered from here on
abbrev pub AllStay : List RowId → ℕ → List (List Entry) → List (List Known) → List (List Known) → Type 0
AllStay is h [] kss jss = Unit {0}
AllStay is h (es ∷ more) [] jss = Unit {0}
AllStay is h (es ∷ more) (ks ∷ kss) [] = Unit {0}
AllStay is h (es ∷ more) (ks ∷ kss) (js ∷ jss) = Stays is h es ks js × AllStay is (suc h) more kss jss

-- a group as another one, but for what waited there and for some more
pub record Like (is : List RowId) (ess : List (List Entry)) (old new : Group) : Type 0 where
  pub agree : AllAgree ess (all_known new)
  pub shape : group_over new ≡ group_over old
  pub stay : AllStay is 0 ess (all_known old) (all_known new)

stays-same : (is : List RowId) (h : ℕ) (es : List Entry) (ks : List Known) → Stays is h es ks ks
stays-same is h [] ks = tt
stays-same is h (e ∷ es) [] = tt
stays-same is h (e ∷ es) (k ∷ ks) = (λ f w. refl, stays-same is h es ks)

all-stay-same : (is : List RowId) (h : ℕ) (ess : List (List Entry)) (kss : List (List Known)) → AllStay is h ess kss kss
all-stay-same is h [] kss = tt
all-stay-same is h (es ∷ more) [] = tt
all-stay-same is h (es ∷ more) (ks ∷ kss) = (stays-same is h es ks, all-stay-same is (suc h) more kss)

-- a group is as itself
pub like-same : (is : List RowId) (ess : List (List Entry)) (g : Group) → AllAgree ess (all_known g) → Like is ess g g
like-same is ess g a = record { agree = a; shape = refl; stay = all-stay-same is 0 ess (all_known g) }

stays-but : (is : List RowId) (h : ℕ) (es : List Entry) (ks js : List Known) → Stays [] h es ks js → Stays is h es ks js
stays-but is h [] ks js s = tt
stays-but is h (e ∷ es) [] js s = tt
stays-but is h (e ∷ es) (k ∷ ks) [] s = tt
stays-but is h (e ∷ es) (k ∷ ks) (j ∷ js) (s, more) = (λ f w. s refl w, stays-but is h es ks js more)

all-stay-but : (is : List RowId) (h : ℕ) (ess : List (List Entry)) (kss jss : List (List Known)) → AllStay [] h ess kss jss → AllStay is h ess kss jss
all-stay-but is h [] kss jss s = tt
all-stay-but is h (es ∷ more) [] jss s = tt
all-stay-but is h (es ∷ more) (ks ∷ kss) [] s = tt
all-stay-but is h (es ∷ more) (ks ∷ kss) (js ∷ jss) (s, t) = (stays-but is h es ks js s, all-stay-but is (suc h) more kss jss t)

-- some more may differ
pub like-but : (is : List RowId) (ess : List (List Entry)) (old new : Group) → Like [] ess old new → Like is ess old new
like-but is ess old new l = record { agree = l.agree; shape = l.shape; stay = all-stay-but is 0 ess (all_known old) (all_known new) l.stay }

-- ---- changes that leave alone what did not wait, but for some

module _ (c : Change) (is : List RowId)
    (leaves : (h : ℕ) (e : Entry) (m : Bool) → among_id (id_at h e) is ≡ false → m ≡ false → change_of c h e m ≡ None) where
  stays-changed : (h : ℕ) (es : List Entry) (ks js : List Known) → Stays is h es ks js
      → Stays is h es ks (with_values js (changes_at c h es (waits_in ks)))
  stays-changed h [] ks js s = tt
  stays-changed h (e ∷ es) [] js s = tt
  stays-changed h (e ∷ es) (k ∷ ks) [] s = tt
  stays-changed h (e ∷ es) (k ∷ ks) (j ∷ js) (s, more) =
      (λ f w. ap (or_old j.value) (leaves h e (does_wait k.value) f w) ∙ s f w, stays-changed h es ks js more)

  all-stay-changed : (h : ℕ) (ess : List (List Entry)) (kss jss : List (List Known)) → AllStay is h ess kss jss
      → AllStay is h ess kss (lists_with jss (changes_from c h ess (marks_in kss)))
  all-stay-changed h [] kss jss s = tt
  all-stay-changed h (es ∷ more) [] jss s = tt
  all-stay-changed h (es ∷ more) (ks ∷ kss) [] s = tt
  all-stay-changed h (es ∷ more) (ks ∷ kss) (js ∷ jss) (s, t) = (stays-changed h es ks js s, all-stay-changed (suc h) more kss jss t)

  pub like-changed : (ess : List (List Entry)) (old g : Group) → Like is ess old g
      → Like is ess old (changed c ess (marks_in (all_known old)) g)
  like-changed ess old g l =
      let vss : List (List (Option (Checked Named))) = changes_from c 0 ess (marks_in (all_known old)) in
      record {
        agree = agree-group ess g vss l.agree;
        shape = group-with-over g vss ∙ l.shape;
        stay = subst (λ (jss : List (List Known)). AllStay is 0 ess (all_known old) jss) (sym (known-with g vss))
            (all-stay-changed 0 ess (all_known old) (all_known g) l.stay);
      }

-- what is tried one after another leaves these alone
pub others-leave : (y : RowId) (h : ℕ) (e : Entry) (m : Bool) → among_id (id_at h e) [] ≡ false → m ≡ false → change_of (Others y) h e m ≡ None
others-leave y h e m f w = ap (change_of (Others y) h e) w

pub among-leave : (is : List RowId) (h : ℕ) (e : Entry) (m : Bool) → among_id (id_at h e) is ≡ false → m ≡ false → change_of (Among is) h e m ≡ None
among-leave is h e m f w = λ i. tried_or (f i) e (w i)

-- ---- rounds leave alone what does not wait

module _ (f : Stands) (is : List RowId) where
  stays-renewed : (h : ℕ) (es : List Entry) (ks js : List Known) → Stays is h es ks js
      → Stays is h es ks (with_values js (renewals (f h) es (waits_in js)))
  stays-renewed h [] ks js s = tt
  stays-renewed h (e ∷ es) [] js s = tt
  stays-renewed h (e ∷ es) (k ∷ ks) [] s = tt
  stays-renewed h (e ∷ es) (k ∷ ks) (j ∷ js) (s, more) =
      (λ a w. ap (λ b. or_old j.value (renewal b (f h (entry_in e)))) (ap does_wait (s a w) ∙ w) ∙ s a w, stays-renewed h es ks js more)

  all-stay-renewed : (h : ℕ) (ess : List (List Entry)) (kss jss : List (List Known)) → AllStay is h ess kss jss
      → AllStay is h ess kss (lists_with jss (renewals_from f h ess (marks_in jss)))
  all-stay-renewed h [] kss jss s = tt
  all-stay-renewed h (es ∷ more) [] jss s = tt
  all-stay-renewed h (es ∷ more) (ks ∷ kss) [] s = tt
  all-stay-renewed h (es ∷ more) (ks ∷ kss) (js ∷ jss) (s, t) = (stays-renewed h es ks js s, all-stay-renewed (suc h) more kss jss t)

module _ (meant : Meant) (l : Bool) (ar : Around) (p : Path) (ess : List (List Entry)) (is : List RowId) (old : Group) where
  like-round : (g : Group) → Like is ess old g → Like is ess old (group_round meant l ar p ess g)
  like-round g k =
      let vss : List (List (Option (Checked Named))) = evaluated meant l ar p ess (marks_in (all_known g)) g in
      let same : vss ≡ renewals_from (stands_in meant l p (g, in_group g ar)) 0 ess (marks_in (all_known g)) =
      evaluated-stands meant l ar p ess (marks_in (all_known g)) g k.agree in
      record {
        agree = agree-round meant l ar p ess g k.agree;
        shape = shape-round meant l ar p ess g ∙ k.shape;
        stay = subst (λ (jss : List (List Known)). AllStay is 0 ess (all_known old) jss)
            (ap (lists_with (all_known g)) (sym same) ∙ sym (known-with g vss))
            (all-stay-renewed (stands_in meant l p (g, in_group g ar)) is 0 ess (all_known old) (all_known g) k.stay);
      }

  step_like : (b : Bool) (go : Group → Group) (new : Group) → Like is ess old new → Like is ess old (go new) → Like is ess old (next_group b go new)
  step_like true go new a more = more
  step_like false go new a more = a

  like-rounds : (n : ℕ) (g : Group) → Like is ess old g → Like is ess old (group_rounds meant l ar p ess n g)
  like-rounds zero g k = k
  like-rounds (suc n) g k =
      let new : Group = group_round meant l ar p ess g in
      let next : Like is ess old new = like-round g k in
      step_like (nat_lt (waiting_group new) (waiting_group g) && nat_lt 0 (waiting_group new)) (λ x. group_rounds meant l ar p ess n x) new
      next (like-rounds n new next)

  pub like-known : (g : Group) → Like is ess old g → Like is ess old (group_known meant l ar p ess g)
  like-known g k = like-rounds (count ess) g k

-- ---- what is tried is what the definition tries

-- a row that is tried, or not
abbrev pub tried_row : (Row → Bool) → Row → Row
tried_row t r = if t r then record r { value = tried_value (constant_place r.entry) } else r

-- a declaration that waited and is not tried waits again
pub put-back : (h : ℕ) (e : Entry) (k j : Known) (m : Bool) → does_wait k.value ≡ m → (m ≡ false → j.value ≡ k.value)
    → row_of h e (with_value j (tried_or false e m)) ≡ row_of h e k
put-back h e k j true is stay = ap (λ c. row_of h e (record k { value = c })) (sym (waits-are k.value is))
put-back h e k j false is stay = ap (λ c. row_of h e (record k { value = c })) (stay refl)

module _ (c : Change) (is : List RowId) (t : Row → Bool)
    (tries : (h : ℕ) (e : Entry) (k : Known) → change_of c h e (does_wait k.value) ≡ tried_or (t (row_of h e k)) e (does_wait k.value))
    (spares : (h : ℕ) (e : Entry) (k : Known) → t (row_of h e k) ≡ false → among_id (id_at h e) is ≡ false) where
  row-tried : (h : ℕ) (e : Entry) (k j : Known) (b : Bool) → t (row_of h e k) ≡ b
      → (among_id (id_at h e) is ≡ false → does_wait k.value ≡ false → j.value ≡ k.value)
      → row_of h e (with_value j (tried_or b e (does_wait k.value)))
      ≡ (if b then record { home = h; entry = entry_in e; value = tried_value (constant_place (entry_in e)) } else row_of h e k)
  row-tried h e k j true test stay = refl
  row-tried h e k j false test stay = put-back h e k j (does_wait k.value) refl (stay (spares h e k test))

  tried-at : (h : ℕ) (es : List Entry) (ks js : List Known) → Agree es ks → Agree es js → Stays is h es ks js
      → rows_at h es (with_values js (changes_at c h es (waits_in ks))) ≡ map (tried_row t) (rows_at h es ks)
  tried-at h [] ks js a b s = refl
  tried-at h (e ∷ es) [] js a b s = absurd a
  tried-at h (e ∷ es) (k ∷ ks) [] a b s = absurd b
  tried-at h (e ∷ es) (k ∷ ks) (j ∷ js) (n, q, a) (m, r, b) (s, more) =
      let head : row_of h e (with_value j (change_of c h e (does_wait k.value))) ≡ tried_row t (row_of h e k) =
      ap (λ v. row_of h e (with_value j v)) (tries h e k) ∙ row-tried h e k j (t (row_of h e k)) refl s in
      λ i. head i ∷ tried-at h es ks js a b more i

  tried-from : (h : ℕ) (ess : List (List Entry)) (kss jss : List (List Known)) → AllAgree ess kss → AllAgree ess jss → AllStay is h ess kss jss
      → rows_from h ess (lists_with jss (changes_from c h ess (marks_in kss))) ≡ map (tried_row t) (rows_from h ess kss)
  tried-from h [] kss jss a b s = refl
  tried-from h (es ∷ more) [] jss a b s = absurd a
  tried-from h (es ∷ more) (ks ∷ kss) [] a b s = absurd b
  tried-from h (es ∷ more) (ks ∷ kss) (js ∷ jss) (a, x) (b, y) (s, t') =
      (λ i. tried-at h es ks js a b s i ++ tried-from (suc h) more kss jss x y t' i)
      ∙ sym (map-append (tried_row t) (rows_at h es ks) (rows_from (suc h) more kss))

  pub tried-becomes : (ess : List (List Entry)) (old g : Group) → AllAgree ess (all_known old) → Like is ess old g
      → Becomes ess old (as_tried t (all_rows ess old)) (changed c ess (marks_in (all_known old)) g)
  tried-becomes ess old g a l =
      let vss : List (List (Option (Checked Named))) = changes_from c 0 ess (marks_in (all_known old)) in
      record {
        rows = ap (rows_from 0 ess) (known-with g vss) ∙ tried-from 0 ess (all_known old) (all_known g) a l.agree l.stay;
        agree = agree-group ess g vss l.agree;
        shape = group-with-over g vss ∙ l.shape;
      }

-- all but one
abbrev pub others_of : RowId → Row → Bool
others_of y x = does_wait x.value && not (same_id y (id_of x))

pub others-become : (y : RowId) (ess : List (List Entry)) (old g : Group) → AllAgree ess (all_known old) → Like [] ess old g
    → Becomes ess old (as_tried (others_of y) (all_rows ess old)) (changed (Others y) ess (marks_in (all_known old)) g)
others-become y ess old g a l = tried-becomes (Others y) [] (others_of y) (λ h e k. refl) (λ h e k f. refl) ess old g a l

-- some
abbrev pub some_of : List RowId → Row → Bool
some_of is x = among_id (id_of x) is

pub some-become : (is : List RowId) (ess : List (List Entry)) (old g : Group) → AllAgree ess (all_known old) → Like is ess old g
    → Becomes ess old (as_tried (some_of is) (all_rows ess old)) (changed (Among is) ess (marks_in (all_known old)) g)
some-become is ess old g a l = tried-becomes (Among is) is (some_of is) (λ h e k. refl) (λ h e k f. f) ess old g a l

-- ---- what waits after all

-- a row that waits breaks E7
abbrev pub unsettled_row : Row → Row
unsettled_row r = if does_wait r.value then record r { value = broken_at 7 r.entry.name.at } else r

row-unsettled : (h : ℕ) (e : Entry) (k : Known) (m : Bool)
    → row_of h e (with_value k (broken_if e m)) ≡ (if m then record (row_of h e k) { value = broken_at 7 e.name.now.at } else row_of h e k)
row-unsettled h e k true = refl
row-unsettled h e k false = refl

unsettled-at : (h : ℕ) (es : List Entry) (ks : List Known)
    → rows_at h es (with_values ks (changes_at Unsettled h es (waits_in ks))) ≡ map unsettled_row (rows_at h es ks)
unsettled-at h [] ks = refl
unsettled-at h (e ∷ es) [] = refl
unsettled-at h (e ∷ es) (k ∷ ks) = λ i. row-unsettled h e k (does_wait k.value) i ∷ unsettled-at h es ks i

unsettled-from : (h : ℕ) (ess : List (List Entry)) (kss : List (List Known))
    → rows_from h ess (lists_with kss (changes_from Unsettled h ess (marks_in kss))) ≡ map unsettled_row (rows_from h ess kss)
unsettled-from h [] kss = refl
unsettled-from h (es ∷ more) [] = refl
unsettled-from h (es ∷ more) (ks ∷ kss) =
    (λ i. unsettled-at h es ks i ++ unsettled-from (suc h) more kss i)
    ∙ sym (map-append unsettled_row (rows_at h es ks) (rows_from (suc h) more kss))

pub unsettled-becomes : (ess : List (List Entry)) (g : Group) → AllAgree ess (all_known g)
    → Becomes ess g (none_waits (all_rows ess g)) (changed Unsettled ess (marks_in (all_known g)) g)
unsettled-becomes ess g a =
    let vss : List (List (Option (Checked Named))) = changes_from Unsettled 0 ess (marks_in (all_known g)) in
    record {
      rows = ap (rows_from 0 ess) (known-with g vss) ∙ unsettled-from 0 ess (all_known g);
      agree = agree-group ess g vss a;
      shape = group-with-over g vss;
    }

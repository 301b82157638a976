-- The end of the rounds in place is that of the definition.
use Rattle.std.proofs.Common.{◌≡◌, ℕ, suc, Bool, true, false, List, [], ◌∷◌, ◌++◌, map, Option, refl, ap, sym, subst, ◌∙◌, if◌then◌else◌}
use Rattle.std.specs.Prelude.{nat_lt}
use Rattle.std.proofs.lemmas.List.{map-append}
use Rattle.sv_names.specs.declared.checked.Checked.{Checked}
use Rattle.sv_names.specs.declared.named.Known.{Known}
use Rattle.sv_names.specs.declared.named.Named.{Named}
use Rattle.sv_names.specs.Types.{Path}
use Rattle.sv_names.specs.Named.{Around}
use Rattle.sv_names.specs.Index.{with_value, with_values}
use Rattle.sv_names.specs.Rounds as rounds
use Rattle.sv_names.specs.Rounds.{Row, does_wait, or_waits, as_tried, among, needs_itself, constant_place, known_rows, all_looped, waiting}
use Rattle.sv_names.specs.Groups.{Group, in_group}
use Rattle.sv_elab_scope.specs.declared.declared.Entry.{Entry}
use Rattle.sv_elab_scope.specs.declared.ids.RowId.{RowId}
use Rattle.sv_elab_scope.specs.Views.{entry_in}
use Rattle.sv_elab_scope.specs.Rows.{all_known, row_of, rows_at, rows_from, all_rows, Agree, AllAgree, group_over}
use Rattle.sv_elab_scope.specs.Settling.{Meant, prepare_over, evaluated_by, renewal, renewals, evaluated, group_with, waits_in, marks_in, waiting_group, group_known}
use Rattle.sv_elab_scope.specs.Ids.{among_id, id_of, id_at, among_at, among_from, ids_from}
use Rattle.sv_elab_scope.specs.Changes.{Among, Waiting, tried_or, changes_at, changes_from, changed}
use Rattle.sv_elab_scope.specs.Needs.{needed_from, left_over}
use Rattle.sv_elab_scope.specs.Ending.{settled_group, told_of, told_at, told_in, told_over, looped, none_waits, loops_of, ended_over, ended, ended_if, ended_group}
use Rattle.sv_elab_scope.proofs.RoundLaws.{Stands, stands_in, renewals_from, lists_with, evaluated-stands}
use Rattle.sv_elab_scope.proofs.PlaceLaws.{group-with-over, known-with, agree-group, Becomes, becomes-is, becomes-then}
use Rattle.sv_elab_scope.proofs.RoundsLaws.{waiting-all, same_sight, known-becomes, known-then}
use Rattle.sv_elab_scope.proofs.ChangeLaws.{Stays, AllStay, Like, like-same, like-but, like-changed, among-leave, like-known, put-back, some_of, some-become, unsettled-becomes}
use Rattle.sv_elab_scope.proofs.LoopLaws.{among-ids, in_loops-ids}
use Rattle.sv_elab_scope.proofs.NeedLaws.{all-needed, left-like}

-- ---- what is told of those that need themselves

module _ {P : Type 0} (evaluate : P → Row → Checked Named) (p : P) (f : Stands)
    (stands : (h : ℕ) (e : Entry) (k : Known) → evaluate p (row_of h e k) ≡ f h (entry_in e)) (loops : List Row) where
  -- a row that is told, or not
  abbrev pub told_row : Row → Row
  told_row x = if among x loops then record x { value = needs_itself (constant_place x.entry) (or_waits (evaluate p x)) } else x

  row-told : (h : ℕ) (e : Entry) (k j : Known) (b : Bool) → among_id (id_at h e) (map id_of loops) ≡ b
      → (among_id (id_at h e) (map id_of loops) ≡ false → does_wait k.value ≡ false → j.value ≡ k.value)
      → row_of h e (with_value (with_value j (tried_or false e (does_wait k.value))) (told_of e (renewal b (f h (entry_in e)))))
      ≡ (if b then record (row_of h e k) { value = needs_itself (constant_place (entry_in e)) (or_waits (evaluate p (row_of h e k))) } else row_of h e k)
  row-told h e k j true test stay =
      ap (λ c. record (row_of h e k) { value = needs_itself (constant_place (entry_in e)) (or_waits c) }) (sym (stands h e k))
  row-told h e k j false test stay = put-back h e k j (does_wait k.value) refl (stay test)

  told-rows-at : (h : ℕ) (es : List Entry) (ks js : List Known) → Agree es ks → Agree es js → Stays (map id_of loops) h es ks js
      → rows_at h es (with_values (with_values js (changes_at Waiting h es (waits_in ks))) (told_at es (renewals (f h) es (among_at (map id_of loops) h es))))
      ≡ map told_row (rows_at h es ks)
  told-rows-at h [] ks js a b s = refl
  told-rows-at h (e ∷ es) [] js a b s = absurd a
  told-rows-at h (e ∷ es) (k ∷ ks) [] a b s = absurd b
  told-rows-at h (e ∷ es) (k ∷ ks) (j ∷ js) (n, q, a) (m, r, b) (s, more) =
      let told : Checked Named = needs_itself (constant_place (entry_in e)) (or_waits (evaluate p (row_of h e k))) in
      let head : row_of h e (with_value (with_value j (tried_or false e (does_wait k.value))) (told_of e (renewal (among_id (id_at h e) (map id_of loops)) (f h (entry_in e)))))
      ≡ told_row (row_of h e k) =
      row-told h e k j (among_id (id_at h e) (map id_of loops)) refl s
      ∙ ap (λ t. if t then record (row_of h e k) { value = told } else row_of h e k) (among-ids (row_of h e k) loops) in
      λ i. head i ∷ told-rows-at h es ks js a b more i

  told-rows-from : (h : ℕ) (ess : List (List Entry)) (kss jss : List (List Known)) → AllAgree ess kss → AllAgree ess jss → AllStay (map id_of loops) h ess kss jss
      → rows_from h ess (lists_with (lists_with jss (changes_from Waiting h ess (marks_in kss))) (told_in ess (renewals_from f h ess (among_from (map id_of loops) h ess))))
      ≡ map told_row (rows_from h ess kss)
  told-rows-from h [] kss jss a b s = refl
  told-rows-from h (es ∷ more) [] jss a b s = absurd a
  told-rows-from h (es ∷ more) (ks ∷ kss) [] a b s = absurd b
  told-rows-from h (es ∷ more) (ks ∷ kss) (js ∷ jss) (a, x) (b, y) (s, t) =
      (λ i. told-rows-at h es ks js a b s i ++ told-rows-from (suc h) more kss jss x y t i)
      ∙ sym (map-append told_row (rows_at h es ks) (rows_from (suc h) more kss))

-- ---- the end

module _ (meant : Meant) (ar : Around) (p : Path) (ess : List (List Entry)) (old : Group) (a : AllAgree ess (all_known old)) where
  told-becomes : (loops ts : List Row) (g : Group) → Like (map id_of loops) ess old g → Becomes ess old ts g
      → Becomes ess old (rounds.looped (prepare_over ar old) (evaluated_by meant false p) loops (prepare_over ar old ts) (all_rows ess old))
      (told_over meant ar p ess (marks_in (all_known old)) (map id_of loops) g)
  told-becomes loops ts g l b =
      let is : List RowId = map id_of loops in
      let f : Stands = stands_in meant false p (g, in_group g ar) in
      let back : List (List (Option (Checked Named))) = changes_from Waiting 0 ess (marks_in (all_known old)) in
      let told : List (List (Option (Checked Named))) = told_in ess (evaluated meant false ar p ess (among_from is 0 ess) g) in
      let mid : Group = group_with g back in
      let whole : g ≡ group_over old ts = becomes-is ess old ts g b in
      record {
        rows =
            ap (rows_from 0 ess) (known-with mid told ∙ ap (λ kss. lists_with kss told) (known-with g back)
            ∙ ap (λ vss. lists_with (lists_with (all_known g) back) (told_in ess vss)) (evaluated-stands meant false ar p ess (among_from is 0 ess) g l.agree))
            ∙ told-rows-from (evaluated_by meant false p) (g, in_group g ar) f (λ h e k. refl) loops 0 ess (all_known old) (all_known g) a l.agree l.stay
            ∙ ap (λ (n : Group). rounds.looped (prepare_over ar old) (evaluated_by meant false p) loops (n, in_group n ar) (all_rows ess old)) whole;
        agree = agree-group ess mid told (agree-group ess g back l.agree);
        shape = group-with-over mid told ∙ group-with-over g back ∙ l.shape;
      }

  looped-becomes : (loops : List Row) (g : Group) → Like [] ess old g
      → Becomes ess old (all_looped (prepare_over ar old) (evaluated_by meant false p) (all_rows ess old) loops)
      (looped meant ar p ess (marks_in (all_known old)) (map id_of loops) g)
  looped-becomes loops g l =
      let is : List RowId = map id_of loops in
      let some : Like is ess old g = like-but is ess old g l in
      let mid : Group = changed (Among is) ess (marks_in (all_known old)) g in
      let tried : Becomes ess old (as_tried (some_of is) (all_rows ess old)) mid = some-become is ess old g a some in
      let same : as_tried (some_of is) (all_rows ess old) ≡ as_tried (λ x. among x loops) (all_rows ess old) =
      λ i. as_tried (λ x. among-ids x loops i) (all_rows ess old) in
      let begun : Becomes ess old (as_tried (λ x. among x loops) (all_rows ess old)) mid =
      subst (λ (ts : List Row). Becomes ess old ts mid) same tried in
      told-becomes loops _ (group_known meant false ar p ess mid)
      (like-known meant false ar p ess is old mid (like-changed (Among is) is (among-leave is) ess old g some))
      (known-then meant false ar p ess old mid _ begun)

  none-then : (rs : List Row) (g : Group) → Becomes ess old rs g → Becomes ess old (rounds.none_waits rs) (none_waits ess g)
  none-then rs g b =
      subst (λ (ts : List Row). Becomes ess old (rounds.none_waits ts) (none_waits ess g)) b.rows
      (becomes-then ess old rs _ g _ b (unsettled-becomes ess g b.agree))

  ended-becomes : Becomes ess old
      (rounds.ended (prepare_over ar old) (evaluated_by meant false p) (evaluated_by meant true p) true (all_rows ess old))
      (ended meant ar p ess (marks_in (all_known old)) old)
  ended-becomes =
      let mss = marks_in (all_known old) in
      let begun : Like [] ess old old = like-same [] ess old a in
      let ns : List rounds.Needed = rounds.needed (prepare_over ar old) (evaluated_by meant false p) (all_rows ess old) (all_rows ess old) in
      let loops : List Row = rounds.in_loops ns ns in
      let left : Group = left_over ess mss (ids_from 0 ess mss) old in
      let found : loops_of (needed_from meant ar p ess mss (ids_from 0 ess mss) old) ≡ map id_of loops =
      ap loops_of (all-needed meant ar p ess old a old begun) ∙ in_loops-ids ns ns in
      let told : List Row = all_looped (prepare_over ar old) (evaluated_by meant false p) (all_rows ess old) loops in
      let mid : Group = looped meant ar p ess mss (map id_of loops) left in
      let tried : Becomes ess old told mid = looped-becomes loops left (left-like meant ar p ess old a (ids_from 0 ess mss) old begun) in
      let rs : List Row = rounds.none_waits (known_rows (prepare_over ar old) (evaluated_by meant true p) told) in
      subst (λ (is : List RowId). Becomes ess old rs (ended_over meant ar p ess mss is left)) (sym found)
      (none-then (known_rows (prepare_over ar old) (evaluated_by meant true p) told) (group_known meant true ar p ess mid)
      (known-then meant true ar p ess old mid told tried))

  ended-if : (b : Bool) → Becomes ess old
      (rounds.ended (prepare_over ar old) (evaluated_by meant false p) (evaluated_by meant true p) b (all_rows ess old))
      (ended_if b meant ar p ess old)
  ended-if true = ended-becomes
  ended-if false = record { rows = refl; agree = a; shape = refl }

-- a group after its rounds, and then their end, is settled as the definition says
pub settled-is : (meant : Meant) (ar : Around) (p : Path) (ess : List (List Entry)) (g known new : Group) → AllAgree ess (all_known g)
    → known ≡ group_known meant false ar p ess g → new ≡ ended_group meant ar p ess known → new ≡ settled_group meant ar p ess g
settled-is meant ar p ess g known new a rounds_made end_made =
    let mid : Group = group_known meant false ar p ess g in
    let rs : List Row = known_rows (prepare_over ar g) (evaluated_by meant false p) (all_rows ess g) in
    let b : Becomes ess g rs mid = known-becomes meant false ar p ess g a in
    let test : nat_lt 0 (waiting_group mid) ≡ nat_lt 0 (waiting rs) = ap (nat_lt 0) (sym (waiting-all ess mid b.agree) ∙ ap waiting b.rows) in
    let end : Becomes ess mid
    (rounds.ended (prepare_over ar mid) (evaluated_by meant false p) (evaluated_by meant true p) (nat_lt 0 (waiting_group mid)) (all_rows ess mid))
    (ended_group meant ar p ess mid) =
    ended-if meant ar p ess mid b.agree (nat_lt 0 (waiting_group mid)) in
    let same : rounds.ended (prepare_over ar mid) (evaluated_by meant false p) (evaluated_by meant true p) (nat_lt 0 (waiting_group mid)) (all_rows ess mid)
    ≡ rounds.ended (prepare_over ar g) (evaluated_by meant false p) (evaluated_by meant true p) (nat_lt 0 (waiting rs)) rs =
    λ i. rounds.ended (same_sight ar g mid b.shape i) (evaluated_by meant false p) (evaluated_by meant true p) (test i) (b.rows i) in
    end_made ∙ ap (ended_group meant ar p ess) rounds_made
    ∙ becomes-is ess g _ _ (becomes-then ess g rs _ mid _ b end) ∙ ap (group_over g) same

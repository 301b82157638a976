-- What is settled depends on what declarations stand for alone; a scope by itself is a group without classes.
use Rattle.std.proofs.Common.{◌≡◌, ℕ, zero, suc, Bool, true, false, not, List, [], ◌∷◌, ◌++◌, length, map, Option, refl, ap, sym, ◌∙◌, ◌&&◌, if◌then◌else◌}
use Rattle.std.specs.Prelude.{nat_lt}
use Rattle.std.proofs.lemmas.List.{append-nil}
use Rattle.sv_names.specs.declared.around.ClassInfo.{ClassInfo}
use Rattle.sv_names.specs.declared.checked.Checked.{Checked}
use Rattle.sv_names.specs.declared.named.Known.{Known}
use Rattle.sv_names.specs.declared.named.Named.{Named}
use Rattle.sv_names.specs.Types.{Path}
use Rattle.sv_names.specs.Named.{Around}
use Rattle.sv_names.specs.Rounds.{Row, Needed, does_wait, or_waits, same_row, among, as_tried, in_loops, needs_itself, constant_place, renewed, round, rounds, next, waiting, rows_of, known_in, known_rows, waiting_over, needed, looped, all_looped, none_waits, ended, settled}
use Rattle.sv_names.specs.Declarations.{value_of_entry}
use Rattle.sv_names.specs.Scopes.{scope_of, prepared, of_row, settled_scope, first_scope}
use Rattle.sv_names.specs.Groups.{Group, home_of}
use Rattle.sv_elab_scope.specs.declared.declared.Entry.{Entry}
use Rattle.sv_elab_scope.specs.Views.{entry_in}
use Rattle.sv_elab_scope.specs.Rows.{all_rows, rows_at}
use Rattle.sv_elab_scope.specs.Settling.{Meant, prepare_over, evaluated_by}
use Rattle.sv_elab_scope.specs.Starting.{without_announcements, all_waiting}
use Rattle.sv_elab_scope.specs.Ending.{settled_group, first_group}
use Rattle.sv_elab_scope.proofs.StartLaws.{rows-waiting}

-- ---- rounds that evaluate the same

module _ {P Q : Type 0} (prepare : List Row → P) (evaluate : P → Row → Checked Named) (prepare' : List Row → Q) (evaluate' : Q → Row → Checked Named)
    (same : (rs : List Row) (r : Row) → evaluate (prepare rs) r ≡ evaluate' (prepare' rs) r) where
  renewed-like : (rs : List Row) (r : Row) (b : Bool) → renewed prepare evaluate (prepare rs) r b ≡ renewed prepare' evaluate' (prepare' rs) r b
  renewed-like rs r true = ap (λ c. record r { value = or_waits c }) (same rs r)
  renewed-like rs r false = refl

  round-like : (all rs : List Row) → round prepare evaluate (prepare all) rs ≡ round prepare' evaluate' (prepare' all) rs
  round-like all [] = refl
  round-like all (r ∷ rs) = λ i. renewed-like all r (does_wait r.value) i ∷ round-like all rs i

  rounds-like : (n : ℕ) (rs : List Row) → rounds prepare evaluate n rs ≡ rounds prepare' evaluate' n rs
  rounds-like zero rs = refl
  rounds-like (suc n) rs =
      λ i. next (nat_lt (waiting (round-like rs rs i)) (waiting rs) && nat_lt 0 (waiting (round-like rs rs i)))
      (λ x. rounds-like n x i) (round-like rs rs i)

  pub known_rows-like : (rs : List Row) → known_rows prepare evaluate rs ≡ known_rows prepare' evaluate' rs
  known_rows-like rs = rounds-like (length rs) rs

  waiting_over-like : (all xs : List Row) → waiting_over prepare evaluate (prepare all) xs ≡ waiting_over prepare' evaluate' (prepare' all) xs
  waiting_over-like all [] = refl
  waiting_over-like all (x ∷ xs) =
      λ i. if does_wait x.value && does_wait (or_waits (same all x i)) then x ∷ waiting_over-like all xs i else waiting_over-like all xs i

  needed-like : (rs ys : List Row) → needed prepare evaluate rs ys ≡ needed prepare' evaluate' rs ys
  needed-like rs [] = refl
  needed-like rs (y ∷ ys) =
      λ i. if does_wait y.value
      then record { one = y; by = waiting_over-like (as_tried (λ x. does_wait x.value && not (same_row y x)) rs) rs i } ∷ needed-like rs ys i
      else needed-like rs ys i

  looped-like : (loops all xs : List Row) → looped prepare evaluate loops (prepare all) xs ≡ looped prepare' evaluate' loops (prepare' all) xs
  looped-like loops all xs =
      λ i. map {A = Row} (λ x. if among x loops then record x { value = needs_itself (constant_place x.entry) (or_waits (same all x i)) } else x) xs

  all_looped-like : (rs loops : List Row) → all_looped prepare evaluate rs loops ≡ all_looped prepare' evaluate' rs loops
  all_looped-like rs loops =
      let tried : List Row = as_tried (λ x. among x loops) rs in
      ap (λ ks. looped prepare evaluate loops (prepare ks) rs) (known_rows-like tried)
      ∙ looped-like loops (known_rows prepare' evaluate' tried) rs

module _ {P Q : Type 0} (prepare : List Row → P) (evaluate last : P → Row → Checked Named) (prepare' : List Row → Q)
    (evaluate' last' : Q → Row → Checked Named) (same : (rs : List Row) (r : Row) → evaluate (prepare rs) r ≡ evaluate' (prepare' rs) r)
    (same_last : (rs : List Row) (r : Row) → last (prepare rs) r ≡ last' (prepare' rs) r) where
  ended-like : (b : Bool) (rs : List Row) → ended prepare evaluate last b rs ≡ ended prepare' evaluate' last' b rs
  ended-like false rs = refl
  ended-like true rs =
      let found : List Needed = needed prepare' evaluate' rs rs in
      ap (λ ns. none_waits (known_rows prepare last (all_looped prepare evaluate rs (in_loops ns ns)))) (needed-like prepare evaluate prepare' evaluate' same rs rs)
      ∙ ap (λ ls. none_waits (known_rows prepare last ls)) (all_looped-like prepare evaluate prepare' evaluate' same rs (in_loops found found))
      ∙ ap none_waits (known_rows-like prepare last prepare' last' same_last (all_looped prepare' evaluate' rs (in_loops found found)))

  pub settled-like : (rs : List Row) → settled prepare evaluate last rs ≡ settled prepare' evaluate' last' rs
  settled-like rs =
      ap (λ new. ended prepare evaluate last (nat_lt 0 (waiting new)) new) (known_rows-like prepare evaluate prepare' evaluate' same rs)
      ∙ ended-like (nat_lt 0 (waiting (known_rows prepare' evaluate' rs))) (known_rows prepare' evaluate' rs)

-- ---- a scope by itself

-- what its declarations stand for
abbrev pub alone : Meant
alone l ar p e = value_of_entry ar p e e.what

home-none : (h : ℕ) (ar : Around) (here : Around × Path) → home_of h [] ar here ≡ here
home-none zero ar here = refl
home-none (suc h) ar here = refl

module _ (ar : Around) (p : Path) (k : Option Path) (enters : Bool) where
  -- the scope as a group
  abbrev pub group_of_scope : List Known → Group
  group_of_scope ks = record { scope = scope_of p k enters ks; classes = [] }

  sight : (l : Bool) (ks : List Known) (rs : List Row) (r : Row)
      → evaluated_by alone l p (prepare_over ar (group_of_scope ks) rs) r ≡ of_row p (prepared ar p k enters rs) r
  sight l ks rs r =
      ap (λ (h : Around × Path). value_of_entry h.0 h.1 r.entry r.entry.what)
      (home-none r.home (record ar { scopes = scope_of p k enters (known_in 0 rs) ∷ ar.scopes; classes = ar.classes ++ [] })
      (record ar { scopes = scope_of p k enters (known_in 0 rs) ∷ ar.scopes; classes = ar.classes ++ [] }, p))
      ∙ ap (λ (cs : List ClassInfo). value_of_entry (record ar { scopes = scope_of p k enters (known_in 0 rs) ∷ ar.scopes; classes = cs }) p r.entry r.entry.what)
      (append-nil ar.classes)

  start : (es : List Entry)
      → all_rows (without_announcements es ∷ []) (group_of_scope (all_waiting (without_announcements es))) ≡ rows_of 0 (map entry_in es)
  start es = append-nil (rows_at 0 (without_announcements es) (all_waiting (without_announcements es))) ∙ sym (rows-waiting 0 es)

  -- it is settled as the definition says
  pub settled-alone : (es : List Entry)
      → settled_group alone ar p (without_announcements es ∷ []) (group_of_scope (all_waiting (without_announcements es)))
      ≡ record { scope = settled_scope ar p k enters (map entry_in es); classes = [] }
  settled-alone es =
      let ks : List Known = all_waiting (without_announcements es) in
      ap (λ rs. record { scope = scope_of p k enters (known_in 0 rs); classes = [] })
      (settled-like (prepare_over ar (group_of_scope ks)) (evaluated_by alone false p) (evaluated_by alone true p)
      (prepared ar p k enters) (of_row p) (of_row p) (sight false ks) (sight true ks) (all_rows (without_announcements es ∷ []) (group_of_scope ks))
      ∙ ap (settled (prepared ar p k enters) (of_row p) (of_row p)) (start es))

  -- so is it before its end
  pub first-alone : (es : List Entry)
      → first_group alone ar p (without_announcements es ∷ []) (group_of_scope (all_waiting (without_announcements es)))
      ≡ record { scope = first_scope ar p k enters (map entry_in es); classes = [] }
  first-alone es =
      let ks : List Known = all_waiting (without_announcements es) in
      ap (λ rs. record { scope = scope_of p k enters (known_in 0 rs); classes = [] })
      (known_rows-like (prepare_over ar (group_of_scope ks)) (evaluated_by alone false p) (prepared ar p k enters) (of_row p) (sight false ks)
      (all_rows (without_announcements es ∷ []) (group_of_scope ks))
      ∙ ap (known_rows (prepared ar p k enters) (of_row p)) (start es))

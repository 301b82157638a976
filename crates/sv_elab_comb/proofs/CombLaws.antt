-- What one `always_comb` watches.
use Rattle.std.proofs.Common.{arith, ◌≡◌, ℕ, zero, suc, ◌+◌, ◌-◌, Bool, List, [], ◌∷◌, ◌++◌, length, map, refl, sym, ap, ◌∙◌, append_assoc, append-nil}
use Rattle.std.specs.Prelude.{filter, flat_map, not, ◌&&◌, slice_index_or}
use Rattle.std.proofs.lemmas.Grind.{flat_map-append}
use Rattle.sv_value.specs.declared.number.RoutineId.{RoutineId}
use Rattle.sv_flat.specs.declared.class.Routine.{Routine}
use Rattle.sv_flat.specs.declared.design.Parts.{Parts}
use Rattle.sv_flat.specs.declared.process.Process.{Process}
use Rattle.sv_flat.specs.declared.process.Watch.{Watch}
use Rattle.sv_flat.specs.declared.stmt.Stmt.{Stmt}
use Rattle.sv_flat.specs.declared.target.Lvalue.{Lvalue}
use Rattle.sv_flat.specs.Expr.{Expr}
use Rattle.sv_flat.specs.Names.{optional, reached, stmts_with_forks, inner_routines, forked}
use Rattle.sv_names.specs.Design.{comb_watches, is_outer}
use Rattle.sv_names.specs.Watched.{Span, operands_of, targets_of, body_from, on_change, object_of, span_of_target, no_routine}
use Rattle.sv_elab_comb.specs.Combs.{body_of, read_in, written_in, is_watched}
use Rattle.sv_elab_comb.specs.Spans.{spans_of, targets_in}
use Rattle.sv_elab_comb.specs.Standing.{stmts_in}
use Rattle.sv_elab_comb.proofs.SpanLaws.{covered_is}

-- nothing is kept
pub none_kept : (es : List Expr) → es ≡ es ++ []
none_kept es = sym (append-nil es)

-- ---- what routines read

-- routines are numbered from 0 on
bodies_are : (d : Parts) → body_from 0 d.routines ≡ body_of d
bodies_are d = λ i r. one r i
  where
    one : (r : RoutineId) → body_from 0 d.routines r ≡ body_of d r
    one r = let same : r.0 - 0 ≡ r.0 = omega arith in ap (λ (n : ℕ). (slice_index_or d.routines n no_routine).body) same

-- what one routine reads
pub read_is : (d : Parts) (rs : List Routine) (r : RoutineId) (ss : List Stmt) (es : List Expr) → rs ≡ d.routines → ss ≡ body_of d r
    → es ≡ operands_of (body_from 0 rs) (length rs + 1) 0 ss → es ≡ read_in d (r ∷ [])
read_is d rs r ss es all body is =
    is ∙ (λ i. operands_of (body_from 0 (all i)) (length (all i) + 1) 0 (body i))
    ∙ ap (λ (f : RoutineId → List Stmt). operands_of f (length d.routines + 1) 0 (body_of d r)) (bodies_are d)
    ∙ sym (append-nil (operands_of (body_of d) (length d.routines + 1) 0 (body_of d r)))

-- what is read in a turn
pub turn_read : (d : Parts) (a b xs : List Expr) (r : RoutineId) (rs : List RoutineId) → xs ≡ read_in d (r ∷ []) → b ≡ a ++ xs
    → b ++ read_in d rs ≡ a ++ read_in d (r ∷ rs)
turn_read d a b xs r rs is put =
    let here : List Expr = operands_of (body_of d) (length d.routines + 1) 0 (body_of d r) in
    ap (λ l. l ++ read_in d rs) (put ∙ ap (λ l. a ++ l) (is ∙ append-nil here)) ∙ append_assoc a here (read_in d rs)

-- the last turn
pub all_read : (b xs : List Expr) → b ++ [] ≡ [] ++ xs → b ≡ xs
all_read b xs is = sym (append-nil b) ∙ is

-- ---- what routines write

module _ (d : Parts) (k : ℕ) (go : (q : RoutineId) → flat_map targets_in (stmts_with_forks k d q) ≡ targets_of (body_of d) k (body_of d q)) where
  -- what routines write, one level deeper
  routines_are : (rs : List RoutineId)
      → flat_map targets_in (flat_map (stmts_with_forks k d) rs) ≡ flat_map (λ q. targets_of (body_of d) k (body_of d q)) rs
  routines_are [] = refl
  routines_are (q ∷ qs) =
      flat_map-append targets_in (stmts_with_forks k d q) (flat_map (stmts_with_forks k d) qs) ∙ (λ i. go q i ++ routines_are qs i)

  -- and statements
  statements_are : (ss : List Stmt) → flat_map targets_in (stmts_in k d ss) ≡ targets_of (body_of d) (suc k) ss
  statements_are [] = refl
  statements_are (s ∷ ss) =
      let inner : List RoutineId = inner_routines s.form ++ forked s.form in
      flat_map-append targets_in (s ∷ flat_map (stmts_with_forks k d) inner) (stmts_in k d ss)
      ∙ (λ i. (targets_in s ++ routines_are inner i) ++ statements_are ss i)

-- what statements write, so many levels deep
targets_are : (d : Parts) (k : ℕ) (r : RoutineId) → flat_map targets_in (stmts_with_forks k d r) ≡ targets_of (body_of d) k (body_of d r)
targets_are d zero r = refl
targets_are d (suc k) r = statements_are d k (targets_are d k) (body_of d r)

-- what one routine writes
pub written_is : (d : Parts) (k : ℕ) (r : RoutineId) (ss : List Stmt) (as' bs : List Span) → k ≡ length d.routines + 1
    → ss ≡ stmts_with_forks k d r → bs ≡ as' ++ spans_of (flat_map targets_in ss) → bs ≡ as' ++ spans_of (written_in d (r ∷ []))
written_is d k r ss as' bs levels all put =
    put
    ∙ ap (λ l. as' ++ spans_of l)
    (ap (flat_map targets_in) all ∙ targets_are d k r ∙ ap (λ (n : ℕ). targets_of (body_of d) n (body_of d r)) levels
    ∙ sym (append-nil (targets_of (body_of d) (length d.routines + 1) (body_of d r))))

-- what is written in a turn
pub turn_written : (d : Parts) (as' bs : List Span) (r : RoutineId) (rs : List RoutineId)
    → bs ≡ as' ++ spans_of (written_in d (r ∷ [])) → bs ++ spans_of (written_in d rs) ≡ as' ++ spans_of (written_in d (r ∷ rs))
turn_written d as' bs r rs put =
    let here : List Lvalue = targets_of (body_of d) (length d.routines + 1) (body_of d r) in
    ap (λ l. l ++ spans_of (written_in d rs)) (put ∙ ap (λ l. as' ++ spans_of l) (append-nil here))
    ∙ append_assoc as' (spans_of here) (spans_of (written_in d rs))
    ∙ ap (λ l. as' ++ l) (sym (flat_map-append (λ l. optional (span_of_target l)) here (written_in d rs)))

-- ---- what is watched

-- what a procedure watches
pub watches_are : (d : Parts) (p : Process) (rs : List RoutineId) (ss : List Span) (es os : List Expr) (ws : List Watch)
    → rs ≡ reached d p.body → ss ≡ spans_of (written_in d rs) → es ≡ read_in d rs → os ≡ filter (is_watched d ss) es
    → ws ≡ map on_change os → ws ≡ comb_watches d p
watches_are d p rs ss es os ws ids written read kept is =
    is
    ∙ ap (map on_change)
    (kept ∙ (λ i. filter (is_watched d (written i)) (read i))
    ∙ ap (λ qs. filter (is_watched d (spans_of (written_in d qs))) (read_in d qs)) ids
    ∙ ap (λ (f : Expr → Bool). filter f (read_in d (reached d p.body)))
    (λ i e. is_outer d (object_of e) && not (covered_is e (written_in d (reached d p.body)) i)))

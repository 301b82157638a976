-- What statements read, with the routines that stand in them.
use Rattle.std.proofs.Common.{arith, ◌≡◌, ℕ, ◌+◌, ◌-◌, ◌<◌, ◌≤◌, List, [], ◌∷◌, ◌++◌, length, refl, sym, ap, subst, ◌∙◌}
use Rattle.std.specs.Prelude.{slice_index_or, get_or}
use Rattle.std.proofs.Math.Numerals.{add-one}
use Rattle.std.proofs.lemmas.List.{get_or_default, get_or_past}
use Rattle.sv_value.specs.declared.number.RoutineId.{RoutineId}
use Rattle.sv_flat.specs.declared.class.Routine.{Routine}
use Rattle.sv_flat.specs.declared.stmt.Stmt.{Stmt}
use Rattle.sv_flat.specs.Expr.{Expr}
use Rattle.sv_names.specs.Watched.{operands_of, own_operands, entered_by, body_from, no_routine}
use Rattle.sv_elab_watch.specs.Reading.{Added, routines_read, routines_in}
use Rattle.sv_elab_watch.proofs.ReadLaws.{added_none, added_both, all_added, turn_of}

module _ (body : RoutineId → List Stmt) where
  -- no statement reads nothing
  none_of : (k d : ℕ) → operands_of body (k + 1) d [] ≡ []
  none_of k d = subst (λ (n : ℕ). operands_of body n d [] ≡ []) (sym (add-one k)) refl

  -- the first statement, and those behind it
  first_of : (k d : ℕ) (s : Stmt) (ss : List Stmt)
      → operands_of body (k + 1) d (s ∷ ss)
      ≡ own_operands d s ++ routines_read body k (d + entered_by s.form) (routines_in s.form) ++ operands_of body (k + 1) d ss
  first_of k d s ss =
      subst (λ (n : ℕ). operands_of body n d (s ∷ ss)
      ≡ own_operands d s ++ routines_read body k (d + entered_by s.form) (routines_in s.form) ++ operands_of body n d ss) (sym (add-one k)) refl

  -- a turn of a loop over statements
  pub statement_turn : (k d : ℕ) (left rest : List Stmt) (s : Stmt) (a b c : List Expr) → left ≡ s ∷ rest
      → Added a b (own_operands d s) → Added b c (routines_read body k (d + entered_by s.form) (routines_in s.form))
      → c ++ operands_of body (k + 1) d rest ≡ a ++ operands_of body (k + 1) d left
  statement_turn k d left rest s a b c all own inner =
      turn_of (λ (ss : List Stmt). operands_of body (k + 1) d ss)
      (own_operands d s ++ routines_read body k (d + entered_by s.form) (routines_in s.form)) left rest s a c all (first_of k d s rest)
      (added_both a b c (own_operands d s) (routines_read body k (d + entered_by s.form) (routines_in s.form)) own inner)

  -- the last one
  pub statements_end : (k d : ℕ) (left : List Stmt) (a b xs : List Expr) → length left < 1 → b ++ operands_of body (k + 1) d left ≡ a ++ xs → Added a b xs
  statements_end k d [] a b xs none is = all_added a b xs (ap (λ l. b ++ l) (sym (none_of k d)) ∙ is)
  statements_end k d (s ∷ ss) a b xs none is = absurd (omega (arith, none))

  -- a turn of a loop over routines
  pub routine_turn : (k d : ℕ) (left rest : List RoutineId) (r : RoutineId) (ss : List Stmt) (a b : List Expr) → left ≡ r ∷ rest
      → ss ≡ body r → Added a b (operands_of body k d ss) → b ++ routines_read body k d rest ≡ a ++ routines_read body k d left
  routine_turn k d left rest r ss a b all is added =
      turn_of (routines_read body k d) (operands_of body k d (body r)) left rest r a b all refl
      (added ∙ ap (λ (ts : List Stmt). a ++ operands_of body k d ts) is)

  -- no level is gone into
  pub no_level : (k d : ℕ) (rs : List RoutineId) (es : List Expr) → k ≡ 0 → Added es es (routines_read body k d rs)
  no_level k d rs es none =
      added_none es ∙ ap (λ l. es ++ l) (nothing rs ∙ ap (λ (n : ℕ). routines_read body n d rs) (sym none))
    where
      nothing : (qs : List RoutineId) → [] ≡ routines_read body 0 d qs
      nothing [] = refl
      nothing (q ∷ qs) = nothing qs

  -- one level less, and one more
  pub level_more : (k d : ℕ) (rs : List RoutineId) (a b : List Expr) → 0 < k → Added a b (routines_read body (k - 1 + 1) d rs)
      → Added a b (routines_read body k d rs)
  level_more k d rs a b some added =
      let same : k - 1 + 1 ≡ k = omega (arith, some) in
      added ∙ ap (λ (n : ℕ). a ++ routines_read body n d rs) same

-- ---- routines by their numbers

-- the statements of a routine
pub body_at : (n k : ℕ) (rs : List Routine) (r : RoutineId) (x : Routine) → k ≡ r.0 - n → k < length rs → x ≡ get_or rs k x
    → x.body ≡ body_from n rs r
body_at n k rs r x number within is =
    ap (λ (y : Routine). y.body) (is ∙ get_or_default rs k x no_routine within)
    ∙ ap (λ (m : ℕ). (slice_index_or rs m no_routine).body) number

-- no routine has so high a number
pub body_past : (n k : ℕ) (rs : List Routine) (r : RoutineId) → k ≡ r.0 - n → length rs ≤ k → [] ≡ body_from n rs r
body_past n k rs r number past =
    ap (λ (y : Routine). y.body) (sym (get_or_past rs k no_routine past))
    ∙ ap (λ (m : ℕ). (slice_index_or rs m no_routine).body) number

-- The statements that stand in the bodies of a side, however deep, are among those that the names of the side are read from.
use Rattle.std.proofs.Common.{ℕ, zero, suc, ◌≡◌, ◌<◌, ◌≤◌, List, [], ◌∷◌, ◌++◌, Option, Some, Bool, true, false, refl, ap, subst, sym, ◌∙◌, arith, length, filter, inl, inr}
use Rattle.std.specs.Prelude.{◌⊎◌, flat_map, slice_index_or, ◌==◌, ◌||◌, if◌then◌else◌}
use Rattle.sv_value.specs.declared.number.RoutineId.{RoutineId}
use Rattle.sv_value.specs.declared.schedule.Side.{Side}
use Rattle.sv_value.specs.declared.schedule.Side.TheVariants.{Active, Reactive}
use Rattle.sv_value.specs.Regions.{same_side}
use Rattle.sv_flat.specs.declared.process.Process.{Process}
use Rattle.sv_flat.specs.declared.class.Routine.{Routine}
use Rattle.sv_flat.specs.declared.class.Variable.{Variable}
use Rattle.sv_flat.specs.declared.class.Variable.TheVariants as variable
use Rattle.sv_flat.specs.declared.class.Formal.{Formal}
use Rattle.sv_flat.specs.declared.class.Subroutine.{Subroutine}
use Rattle.sv_flat.specs.declared.call.CallForm.{CallForm}
use Rattle.sv_flat.specs.declared.stmt.Stmt.{Stmt}
use Rattle.sv_flat.specs.declared.design.Parts.{Parts}
use Rattle.sv_flat.specs.Expr.{Expr}
use Rattle.sv_flat.specs.Process.{routine_of, no_routine}
use Rattle.sv_flat.specs.Names.{Naming, expr_reads, stmt_exprs, stmt_reads, stmt_written, inner_routines, forked, stmts_with_forks, stmts_of, depth_of, stmt_calls, call_routines, called_in, is_listed, with_new, called_within, optional, variable_named, formals_named, routine_namings, body_namings, reached, watch_exprs, side_namings}
use Rattle.sv_flat.specs.Laws.{IsNamed}
use Rattle.sv_frame.proofs.Ways.{IsIn, in_left, in_right, in_flat_map, in_filter, contained, from_append, from_flat_map, has, free, free_none, free_less, Steps, Path, path_more, Leaves, same_routine, last_visit, Short, shorten}

-- ---- routines that stand in one another

-- a routine that stands in a statement of another one
pub record IsInside (d : Parts) (x y : RoutineId) : Type 0 where
  pub stmt : Stmt
  pub within : IsIn stmt (routine_of d y).body
  pub inner : IsIn x (inner_routines stmt.form ++ forked stmt.form)

in_range : (rs : List Routine) (i : ℕ) (t : Stmt) → IsIn t (slice_index_or rs i no_routine).body → i < length rs
in_range [] i t h = absurd h
in_range (r ∷ rs) zero t h = omega arith
in_range (r ∷ rs) (suc i) t h = let k = in_range rs i t h in omega (arith, k)

module _ (d : Parts) where
  -- where no number is left, no path is
  one_left : (vs : List ℕ) (j : ℕ) (r z : RoutineId) → Path (IsInside d) vs j r z → (t : Stmt) → IsIn t (routine_of d z).body → (r.0 < length d.routines) × (has r.0 vs ≡ false)
  one_left vs zero r z h t i = (in_range d.routines r.0 t (subst (λ z. IsIn t (routine_of d z).body) (sym h.1) i), h.0)
  one_left vs (suc j) r z h t i = (in_range d.routines r.0 h.2.stmt h.2.within, h.0)

  here : (k : ℕ) (r : RoutineId) (t : Stmt) → IsIn t (routine_of d r).body → IsIn t (stmts_with_forks (suc k) d r)
  here k r t i = in_flat_map (λ s. s ∷ flat_map (stmts_with_forks k d) (inner_routines s.form ++ forked s.form)) t t (routine_of d r).body i (inl refl)

  deeper : (k : ℕ) (r x : RoutineId) (t : Stmt) → IsInside d x r → IsIn t (stmts_with_forks k d x) → IsIn t (stmts_with_forks (suc k) d r)
  deeper k r x t i h =
      in_flat_map (λ s. s ∷ flat_map (stmts_with_forks k d) (inner_routines s.form ++ forked s.form)) i.stmt t (routine_of d r).body i.within
      (inr (in_flat_map (stmts_with_forks k d) x t (inner_routines i.stmt.form ++ forked i.stmt.form) i.inner h))

  pub covered : (k : ℕ) (vs : List ℕ) → free (length d.routines) vs ≤ k → (j : ℕ) (r z : RoutineId) → Path (IsInside d) vs j r z → (t : Stmt) → IsIn t (routine_of d z).body
      → IsIn t (stmts_with_forks k d r)
  covered zero vs few j r z h t i =
      let known = one_left vs j r z h t i in
      let less = free_less (length d.routines) r.0 vs known.0 known.1 in
      absurd (omega (arith, few, less))
  covered (suc k) vs few zero r z h t i = here k r t (subst (λ z. IsIn t (routine_of d z).body) (sym h.1) i)
  covered (suc k) vs few (suc j) r z h t i = by_last (last_visit (IsInside d) vs r j h.1 z h.3) (λ j x p. covered k (r.0 ∷ vs) fewer j x z p t i)
    where
      fewer : free (length d.routines) (r.0 ∷ vs) ≤ k
      fewer =
          let known = one_left vs (suc j) r z h t i in
          let less = free_less (length d.routines) r.0 vs known.0 known.1 in
          omega (arith, few, less)

      by_last : Path (IsInside d) (r.0 ∷ vs) j h.1 z ⊎ ((z ≡ r) ⊎ Leaves (IsInside d) vs r z) → ((j : ℕ) (x : RoutineId) → Path (IsInside d) (r.0 ∷ vs) j x z → IsIn t (stmts_with_forks k d x))
          → IsIn t (stmts_with_forks (suc k) d r)
      by_last (inl p) c = deeper k r h.1 t h.2 (c j h.1 p)
      by_last (inr (inl e)) c = here k r t (subst (λ z. IsIn t (routine_of d z).body) e i)
      by_last (inr (inr l)) c = deeper k r l.next t l.step (c l.steps l.next l.path)

  -- a statement of a routine that stands in another one is among those that stand there
  pub stands : (r z : RoutineId) (j : ℕ) → Path (IsInside d) [] j r z → (t : Stmt) → IsIn t (routine_of d z).body → IsIn t (stmts_of d r)
  stands r z j h t i = covered (length d.routines) [] (let z = free_none (length d.routines) in omega (arith, z)) j r z h t i

-- ---- routines that a routine calls, and those that these call

-- one that the statements of a routine call
abbrev pub IsCalled : Parts → Steps
IsCalled d x y = IsIn x (called_in d y)

module _ (d : Parts) where
  has_body : (k : ℕ) (r : RoutineId) (t : Stmt) → IsIn t (stmts_with_forks k d r) → r.0 < length d.routines
  has_body zero r t h = absurd h
  has_body (suc k) r t h =
      let one = from_flat_map (λ s. s ∷ flat_map (stmts_with_forks k d) (inner_routines s.form ++ forked s.form)) t (routine_of d r).body h in
      in_range d.routines r.0 one.0 one.1

  -- only a routine of the design calls
  calls_below : (x y : RoutineId) → IsCalled d x y → y.0 < length d.routines
  calls_below x y h =
      let one = from_flat_map (λ s. flat_map (call_routines d) (stmt_calls s)) x (stmts_of d y) h in
      has_body (depth_of d) y one.0 one.1

  -- ---- each once

  listed_in : (r : RoutineId) (rs : List RoutineId) → is_listed r rs ≡ true → IsIn r rs
  listed_in r [] h = absurd (cc)
  listed_in r (q ∷ rs) h = by_test (r.0 == q.0) refl h (λ k. listed_in r rs k)
    where
      by_test : (b : Bool) → (r.0 == q.0) ≡ b → (b || is_listed r rs) ≡ true → (is_listed r rs ≡ true → IsIn r rs) → IsIn r (q ∷ rs)
      by_test true e k i = inl (same_routine r q e)
      by_test false e k i = inr (i k)

  new_keeps : (rs qs : List RoutineId) (x : RoutineId) → IsIn x rs → IsIn x (with_new rs qs)
  new_keeps rs [] x h = h
  new_keeps rs (q ∷ qs) x h = by_test (is_listed q rs) (λ us k. new_keeps us qs x k)
    where
      by_test : (b : Bool) → ((us : List RoutineId) → IsIn x us → IsIn x (with_new us qs)) → IsIn x (with_new (if b then rs else rs ++ q ∷ []) qs)
      by_test true i = i rs h
      by_test false i = i (rs ++ q ∷ []) (in_left x rs (q ∷ []) h)

  new_adds : (rs qs : List RoutineId) (x : RoutineId) → IsIn x qs → IsIn x (with_new rs qs)
  new_adds rs [] x h = absurd h
  new_adds rs (q ∷ qs) x (inl e) = by_test (is_listed q rs) refl
    where
      by_test : (b : Bool) → is_listed q rs ≡ b → IsIn x (with_new (if b then rs else rs ++ q ∷ []) qs)
      by_test true l = new_keeps rs qs x (subst (λ u. IsIn u rs) (sym e) (listed_in q rs l))
      by_test false l = new_keeps (rs ++ q ∷ []) qs x (in_right x rs (q ∷ []) (inl e))
  new_adds rs (q ∷ qs) x (inr h) = new_adds (if is_listed q rs then rs else rs ++ q ∷ []) qs x h

  from_new : (rs qs : List RoutineId) (x : RoutineId) → IsIn x (with_new rs qs) → IsIn x rs ⊎ IsIn x qs
  from_new rs [] x h = inl h
  from_new rs (q ∷ qs) x h = by_test (is_listed q rs) h (λ us k. from_new us qs x k)
    where
      later : IsIn x rs ⊎ IsIn x qs → IsIn x rs ⊎ IsIn x (q ∷ qs)
      later (inl k) = inl k
      later (inr k) = inr (inr k)

      by_last : IsIn x (rs ++ q ∷ []) ⊎ IsIn x qs → IsIn x rs ⊎ IsIn x (q ∷ qs)
      by_last (inr k) = inr (inr k)
      by_last (inl k) = by_part (from_append x rs (q ∷ []) k)
        where
          by_part : IsIn x rs ⊎ IsIn x (q ∷ []) → IsIn x rs ⊎ IsIn x (q ∷ qs)
          by_part (inl i) = inl i
          by_part (inr (inl e)) = inr (inl e)
          by_part (inr (inr i)) = absurd i

      by_test : (b : Bool) → IsIn x (with_new (if b then rs else rs ++ q ∷ []) qs) → ((us : List RoutineId) → IsIn x (with_new us qs) → IsIn x us ⊎ IsIn x qs) → IsIn x rs ⊎ IsIn x (q ∷ qs)
      by_test true k i = later (i rs k)
      by_test false k i = by_last (i (rs ++ q ∷ []) k)

  -- ---- what is reached by calls

  within_keeps : (n : ℕ) (rs : List RoutineId) (x : RoutineId) → IsIn x rs → IsIn x (called_within n d rs)
  within_keeps zero rs x h = h
  within_keeps (suc n) rs x h = within_keeps n (with_new rs (flat_map (called_in d) rs)) x (new_keeps rs (flat_map (called_in d) rs) x h)

  -- the end of a way of so few steps
  within_path : (k n : ℕ) → k ≤ n → (rs : List RoutineId) (y z : RoutineId) → IsIn y rs → Path (IsCalled d) [] k y z → IsIn z (called_within n d rs)
  within_path zero n l rs y z h p = subst (λ u. IsIn u (called_within n d rs)) p.1 (within_keeps n rs y h)
  within_path (suc k) zero l rs y z h p = absurd (omega (arith, l))
  within_path (suc k) (suc n) l rs y z h p =
      within_path k n (omega (arith, l)) (with_new rs (flat_map (called_in d) rs)) p.1 z
      (new_adds rs (flat_map (called_in d) rs) p.1 (in_flat_map (called_in d) y p.1 rs h p.2)) p.3

  -- and there is such a way
  from_within : (n : ℕ) (rs : List RoutineId) (z : RoutineId) → IsIn z (called_within n d rs) → (y : RoutineId) × IsIn y rs × (k : ℕ) × Path (IsCalled d) [] k y z
  from_within zero rs z h = (z, h, 0, (refl, refl))
  from_within (suc n) rs z h = by_first (from_within n (with_new rs (flat_map (called_in d) rs)) z h)
    where
      by_first : (y : RoutineId) × IsIn y (with_new rs (flat_map (called_in d) rs)) × (k : ℕ) × Path (IsCalled d) [] k y z → (y : RoutineId) × IsIn y rs × (k : ℕ) × Path (IsCalled d) [] k y z
      by_first r = by_part (from_new rs (flat_map (called_in d) rs) r.0 r.1)
        where
          by_part : IsIn r.0 rs ⊎ IsIn r.0 (flat_map (called_in d) rs) → (y : RoutineId) × IsIn y rs × (k : ℕ) × Path (IsCalled d) [] k y z
          by_part (inl i) = (r.0, i, r.2, r.3)
          by_part (inr i) = let w = from_flat_map (called_in d) r.0 rs i in (w.0, w.1, suc r.2, (refl, r.0, w.2, r.3))

  reached_path : (b x : RoutineId) → IsIn x (reached d b) → (k : ℕ) × Path (IsCalled d) [] k b x
  reached_path b x (inl e) = (0, (refl, sym e))
  reached_path b x (inr h) = by_first (from_within (depth_of d) (with_new [] (called_in d b)) x h)
    where
      by_first : (y : RoutineId) × IsIn y (with_new [] (called_in d b)) × (k : ℕ) × Path (IsCalled d) [] k y x → (k : ℕ) × Path (IsCalled d) [] k b x
      by_first r = by_part (from_new [] (called_in d b) r.0 r.1)
        where
          by_part : IsIn r.0 [] ⊎ IsIn r.0 (called_in d b) → (k : ℕ) × Path (IsCalled d) [] k b x
          by_part (inl i) = absurd i
          by_part (inr i) = (suc r.2, (refl, r.0, i, r.3))

  path_reached : (b x : RoutineId) (j : ℕ) → Path (IsCalled d) [] j b x → IsIn x (reached d b)
  path_reached b x j h = by_steps s.steps s.few s.path
    where
      s : Short (IsCalled d) (length d.routines) b x
      s = shorten (IsCalled d) (length d.routines) calls_below (length d.routines) [] (let z = free_none (length d.routines) in omega (arith, z)) j b x h

      by_steps : (k : ℕ) → k ≤ length d.routines → Path (IsCalled d) [] k b x → IsIn x (reached d b)
      by_steps zero l p = inl (sym p.1)
      by_steps (suc k) l p = inr (within_path k (depth_of d) (omega (arith, l)) (with_new [] (called_in d b)) p.1 x (new_adds [] (called_in d b) p.1 p.2) p.3)

  -- what a routine calls that is reached is reached
  pub reached_more : (b y x : RoutineId) → IsIn y (reached d b) → IsIn x (called_in d y) → IsIn x (reached d b)
  reached_more b y x h i = let p = reached_path b y h in path_reached b x (suc p.0) (path_more (IsCalled d) p.0 b y x p.1 i)

-- ---- the statements of a side

-- the body of a process of a side, or a routine that it may call
pub record IsStartOf (d : Parts) (s : Side) (r : RoutineId) : Type 0 where
  pub process : Process
  pub within : IsIn process d.processes
  pub side : process.side ≡ s
  pub called : IsIn r (reached d process.body)

-- a routine that stands in one of these
pub record IsRoutineOf (d : Parts) (s : Side) (r : RoutineId) : Type 0 where
  pub start : RoutineId
  pub of_side : IsStartOf d s start
  pub steps : ℕ
  pub path : Path (IsInside d) [] steps start r

-- a statement of such a routine
pub record IsStmtOf (d : Parts) (s : Side) (t : Stmt) : Type 0 where
  pub routine : RoutineId
  pub of_side : IsRoutineOf d s routine
  pub within : IsIn t (routine_of d routine).body

-- such a one stands in itself
pub start_of_side : (d : Parts) (s : Side) (r : RoutineId) → IsStartOf d s r → IsRoutineOf d s r
start_of_side d s r h = record { start = r; of_side = h; steps = 0; path = (refl, refl) }

-- the body of a process
pub body_of_side : (d : Parts) (f : Process) → IsIn f d.processes → IsRoutineOf d f.side f.body
body_of_side d f h = start_of_side d f.side f.body (record { process = f; within = h; side = refl; called = inl refl })

-- what stands in a statement
pub inner_of_side : (d : Parts) (s : Side) (t : Stmt) → IsStmtOf d s t → (x : RoutineId) → IsIn x (inner_routines t.form ++ forked t.form) → IsRoutineOf d s x
inner_of_side d s t h x i =
    let r = h.of_side in
    record {
      start = r.start;
      of_side = r.of_side;
      steps = suc r.steps;
      path = path_more (IsInside d) r.steps r.start h.routine x r.path (record { stmt = t; within = h.within; inner = i });
    }

-- a statement of a side is among those from which its names are read
among : (d : Parts) (s : Side) (t : Stmt) → (h : IsStmtOf d s t) → IsIn t (stmts_of d h.of_side.start)
among d s t h = let r = h.of_side in stands d r.start h.routine r.steps r.path t h.within

-- what a statement calls
pub called_of_side : (d : Parts) (s : Side) (t : Stmt) → IsStmtOf d s t → (c : CallForm) → IsIn c (stmt_calls t) → (x : RoutineId) → IsIn x (call_routines d c) → IsStartOf d s x
called_of_side d s t h c i x j =
    let r = h.of_side.of_side in
    let calls : IsIn x (called_in d h.of_side.start) =
    in_flat_map (λ s. flat_map (call_routines d) (stmt_calls s)) t x (stmts_of d h.of_side.start) (among d s t h) (in_flat_map (call_routines d) c x (stmt_calls t) i j) in
    record { process = r.process; within = r.within; side = r.side; called = reached_more d r.process.body h.of_side.start x r.called calls }

-- ---- names

same_self : (s : Side) → same_side s s ≡ true
same_self Active = refl
same_self Reactive = refl

-- what such a routine names is named by the side
routine_named : (d : Parts) (s : Side) (r : RoutineId) → IsStartOf d s r → (n : Naming) → IsIn n (routine_namings d r) → IsNamed d s n.object
routine_named d s r h n i =
    let f = h.process in
    let in_body : IsIn n (body_namings d f.body) = in_flat_map (routine_namings d) r n (reached d f.body) h.called i in
    let on_side : IsIn f (filter (λ q. same_side s q.side) d.processes) = in_filter (λ q. same_side s q.side) f d.processes h.within (ap (same_side s) h.side ∙ same_self s) in (
      n,
      contained n (side_namings d s)
          (in_flat_map (λ q. body_namings d q.body ++ flat_map (λ w. flat_map expr_reads (watch_exprs w)) q.watched) f n (filter (λ q. same_side s q.side) d.processes) on_side
          (in_left n (body_namings d f.body) (flat_map (λ w. flat_map expr_reads (watch_exprs w)) f.watched) in_body)),
      refl,
    )

-- what a statement of a side names in these expressions is named by the side
pub stmt_named : (d : Parts) (s : Side) (t : Stmt) → IsStmtOf d s t → (e : Expr) → IsIn e (stmt_exprs t) → (n : Naming) → IsIn n (expr_reads e) → IsNamed d s n.object
stmt_named d s t h e i n k =
    let r = h.of_side.start in
    let reads : IsIn n (stmt_reads t) = in_flat_map expr_reads e n (stmt_exprs t) i k in
    routine_named d s r h.of_side.of_side n
    (in_right n (formals_named (routine_of d r).subroutine (routine_of d r).at) _
    (in_flat_map (λ s. stmt_reads s ++ stmt_written s) t n (stmts_of d r) (among d s t h) (in_left n (stmt_reads t) (stmt_written t) reads)))

-- a static variable of a subroutine is named by the side
abbrev pub IsVariableNamed : Parts → Side → Variable → Type 0
IsVariableNamed d s (variable.Object o) = IsNamed d s o
IsVariableNamed d s (variable.Local i) = Unit {0}

-- the arguments and the result of a subroutine that a side may call
pub formal_named : (d : Parts) (s : Side) (r : RoutineId) → IsStartOf d s r → (u : Subroutine) → (routine_of d r).subroutine ≡ Some u → (f : Formal) → IsIn f (u.formals ++ optional u.result)
    → IsVariableNamed d s f.variable
formal_named d s r h u e f i = by_variable f.variable (λ n k. in_flat_map (λ f. variable_named (routine_of d r).at f.variable) f n (u.formals ++ optional u.result) i k)
  where
    by_variable : (x : Variable) → ((n : Naming) → IsIn n (variable_named (routine_of d r).at x) → IsIn n (formals_named (Some u) (routine_of d r).at)) → IsVariableNamed d s x
    by_variable (variable.Local j) k = tt
    by_variable (variable.Object o) k =
        let n : Naming = record { at = (routine_of d r).at; object = o } in
        routine_named d s r h n
        (in_left n (formals_named (routine_of d r).subroutine (routine_of d r).at) _
        (subst (λ (v : Option Subroutine). IsIn n (formals_named v (routine_of d r).at)) (sym e) (k n (inl refl))))

-- How statements and routines are put behind others.
use Rattle.std.proofs.Common.{arith, ◌≡◌, ℕ, zero, suc, ◌-◌, ◌<◌, ◌≤◌, Bor, List, [], ◌∷◌, ◌++◌, length, map, sym, ap, ◌∙◌, append_assoc, append-nil}
use Rattle.std.specs.Prelude.{flat_map, get_or, slice_index_or}
use Rattle.std.proofs.lemmas.Grind.{flat_map-append}
use Rattle.std.proofs.lemmas.List.{map-append, get_or_default, get_or_past}
use Rattle.sv_value.specs.declared.number.RoutineId.{RoutineId}
use Rattle.sv_flat.specs.declared.class.Routine.{Routine}
use Rattle.sv_flat.specs.declared.design.Parts.{Parts}
use Rattle.sv_flat.specs.declared.stmt.Stmt.{Stmt}
use Rattle.sv_flat.specs.Names.{stmts_with_forks, inner_routines, forked, call_routines, form_calls}
use Rattle.sv_flat.specs.Process.{routine_of, no_routine}
use Rattle.sv_elab_comb.specs.Standing.{Found, stmts_in, run_by}

-- ---- routines by their numbers

-- the statements of a routine
pub body_at : (d : Parts) (k : ℕ) (r : RoutineId) (x : Routine) → k ≡ r.0 → k < length d.routines → x ≡ get_or d.routines k x
    → x.body ≡ (routine_of d r).body
body_at d k r x number within is =
    ap (λ (y : Routine). y.body) (is ∙ get_or_default d.routines k x no_routine within)
    ∙ ap (λ (m : ℕ). (slice_index_or d.routines m no_routine).body) number

-- no routine has so high a number
pub body_past : (d : Parts) (k : ℕ) (r : RoutineId) → k ≡ r.0 → length d.routines ≤ k → [] ≡ (routine_of d r).body
body_past d k r number past =
    ap (λ (y : Routine). y.body) (sym (get_or_past d.routines k no_routine past))
    ∙ ap (λ (m : ℕ). (slice_index_or d.routines m no_routine).body) number

-- ---- statements

-- no level is gone into
pub no_level : (k : ℕ) (d : Parts) (r : RoutineId) (as' : List (Bor Stmt)) → k ≡ 0 → Found as' as' (stmts_with_forks k d r)
no_level k d r as' none =
    sym (append-nil (map (λ s. s.now) as')) ∙ ap (λ (n : ℕ). map (λ s. s.now) as' ++ stmts_with_forks n d r) (sym none)

-- one level less, and one more
pub level_more : (k : ℕ) (d : Parts) (r : RoutineId) (ss : List Stmt) (as' bs : List (Bor Stmt)) → 0 < k → ss ≡ (routine_of d r).body
    → Found as' bs (stmts_in (k - 1) d ss) → Found as' bs (stmts_with_forks k d r)
level_more zero d r ss as' bs some is found = absurd (omega (arith, some))
level_more (suc k) d r ss as' bs some is found =
    let less : suc k - 1 ≡ k = omega arith in
    found ∙ (λ i. map (λ s. s.now) as' ++ stmts_in (less i) d (is i))

-- what is put behind in a turn is what the rest begins with
pub turn_found : (as' bs : List (Bor Stmt)) (xs ys : List Stmt) → Found as' bs xs
    → map (λ s. s.now) bs ++ ys ≡ map (λ s. s.now) as' ++ (xs ++ ys)
turn_found as' bs xs ys a = ap (λ l. l ++ ys) a ∙ append_assoc (map (λ s. s.now) as') xs ys

-- the last turn has put all behind
pub all_found : (as' bs : List (Bor Stmt)) (xs : List Stmt) → map (λ s. s.now) bs ++ [] ≡ map (λ s. s.now) as' ++ xs → Found as' bs xs
all_found as' bs xs is = sym (append-nil (map (λ s. s.now) bs)) ∙ is

-- a statement, and those that stand in it
pub one_found : (k : ℕ) (d : Parts) (s : Bor Stmt) (rs : List RoutineId) (as' bs cs : List (Bor Stmt)) → bs ≡ as' ++ s ∷ []
    → rs ≡ inner_routines s.now.form ++ forked s.now.form → Found bs cs (flat_map (stmts_with_forks k d) rs)
    → Found as' cs (s.now ∷ flat_map (stmts_with_forks k d) (inner_routines s.now.form ++ forked s.now.form))
one_found k d s rs as' bs cs put is found =
    found ∙ (λ i. map (λ t. t.now) (put i) ++ flat_map (stmts_with_forks k d) (is i))
    ∙ ap (λ l. l ++ flat_map (stmts_with_forks k d) (inner_routines s.now.form ++ forked s.now.form)) (map-append (λ t. t.now) as' (s ∷ []))
    ∙ append_assoc (map (λ t. t.now) as') (s.now ∷ []) (flat_map (stmts_with_forks k d) (inner_routines s.now.form ++ forked s.now.form))

-- ---- routines

-- none is put behind
pub none_behind : (rs : List RoutineId) → rs ≡ rs ++ []
none_behind rs = sym (append-nil rs)

-- and nothing more
pub nothing_more : (a b xs : List RoutineId) → b ≡ a ++ xs → b ≡ a ++ (xs ++ [])
nothing_more a b xs is = is ∙ ap (λ l. a ++ l) (sym (append-nil xs))

-- what is put behind in a turn is what the rest begins with
pub turn_behind : (a b xs ys : List RoutineId) → b ≡ a ++ xs → b ++ ys ≡ a ++ (xs ++ ys)
turn_behind a b xs ys is = ap (λ l. l ++ ys) is ∙ append_assoc a xs ys

-- the same of one
pub turn_one : (a b ys : List RoutineId) (r : RoutineId) → b ≡ a ++ r ∷ [] → b ++ ys ≡ a ++ (r ∷ ys)
turn_one a b ys r is = turn_behind a b (r ∷ []) ys is

-- the last turn has put all behind
pub all_behind : (a b xs : List RoutineId) → b ++ [] ≡ a ++ xs → b ≡ a ++ xs
all_behind a b xs is = sym (append-nil b) ∙ is

-- whom the calls before a statement run, and whom it runs itself
pub both_run : (d : Parts) (s : Stmt) (a b c : List RoutineId) → b ≡ a ++ flat_map (call_routines d) (map (λ x. x.form) s.calls)
    → c ≡ b ++ flat_map (call_routines d) (form_calls s.form) → c ≡ a ++ run_by d s
both_run d s a b c calls form =
    form
    ∙ turn_behind a b (flat_map (call_routines d) (map (λ x. x.form) s.calls)) (flat_map (call_routines d) (form_calls s.form)) calls
    ∙ ap (λ l. a ++ l) (sym (flat_map-append (call_routines d) (map (λ x. x.form) s.calls) (form_calls s.form)))

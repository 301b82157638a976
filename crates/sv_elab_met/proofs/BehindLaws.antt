-- How processes, subroutines and variables are put behind others.
use Rattle.std.proofs.Common.{◌≡◌, ℕ, ◌+◌, ◌<◌, List, [], ◌∷◌, ◌++◌, map, length, drop, get_or, sym, ap, ◌∙◌, append_assoc, append-nil}
use Rattle.std.specs.Prelude.{Result, Ok, Err, IfOk}
use Rattle.std.proofs.lemmas.List.{map-append, drop_more}
use Rattle.sv_names.specs.Sources as sources
use Rattle.sv_names.specs.Types.{Path}
use Rattle.sv_names.specs.Writers as writers
use Rattle.sv_elab_writers.specs.declared.touch.Initialized.{Initialized}
use Rattle.sv_elab_writers.specs.declared.touch.Process.{Process}
use Rattle.sv_elab_writers.specs.declared.touch.Routine.{Routine}
use Rattle.sv_elab_writers.specs.Views.{initialized_in, process_in, routine_in}
use Rattle.sv_elab_met.specs.Behind.{Run, Tabled, Listed}

-- ---- one list behind another

-- one item is put behind
one_behind : {A B : Type 0} (f : A → B) (xs ys : List A) (x : A) (y : B) → ys ≡ xs ++ x ∷ [] → f x ≡ y → map f ys ≡ map f xs ++ y ∷ []
one_behind f xs ys x y is of = ap (map f) is ∙ map-append f xs (x ∷ []) ∙ ap (λ z. map f xs ++ z ∷ []) of

-- a list from one of its items on
left_from : {A : Type 0} (xs : List A) (i : ℕ) (x : A) → i < length xs → get_or xs i x ≡ x → drop i xs ≡ x ∷ drop (i + 1) xs
left_from xs i x within is = drop_more xs i x within ∙ ap (λ y. y ∷ drop (i + 1) xs) is

-- a turn of a loop over a list, where one item and those behind it are put together so
pub turn_behind : {A B C : Type 0} (f : B → C) (go : List A → List C) (all : List A) (i : ℕ) (x : A) (before after : List B) (ys : List C)
    → i < length all → get_or all i x ≡ x → go (x ∷ drop (i + 1) all) ≡ ys ++ go (drop (i + 1) all) → map f after ≡ map f before ++ ys
    → map f after ++ go (drop (i + 1) all) ≡ map f before ++ go (drop i all)
turn_behind f go all i x before after ys within is first added =
    ap (λ l. l ++ go (drop (i + 1) all)) added ∙ append_assoc (map f before) ys (go (drop (i + 1) all))
    ∙ ap (λ l. map f before ++ l) (sym first ∙ ap go (sym (left_from all i x within is)))

-- what a value of an answer is, and what follows of it
pub of_answer : {A E : Type 0} (r : Result A E) (P Q : A → Type 0) → ((x : A) → P x → Q x) → IfOk r P → IfOk r Q
of_answer (Ok x) P Q go is = go x is
of_answer (Err e) P Q go is = is

-- ---- processes

-- nothing is put behind
pub run_none : (ps : List Process) → Run ps ps []
run_none ps = sym (append-nil (map process_in ps))

-- one process is
pub run_one : (ps qs : List Process) (p : Process) (x : sources.Process) → qs ≡ ps ++ p ∷ [] → process_in p ≡ x → Run ps qs (x ∷ [])
run_one ps qs p x is of = one_behind process_in ps qs p x is of

-- what is put behind in a turn is what the rest begins with
pub turn_run : (ps qs : List Process) (xs ys : List sources.Process) → Run ps qs xs → map process_in qs ++ ys ≡ map process_in ps ++ (xs ++ ys)
turn_run ps qs xs ys added = ap (λ l. l ++ ys) added ∙ append_assoc (map process_in ps) xs ys

-- the last turn has put all behind
pub all_run : (ps qs : List Process) (xs : List sources.Process) → map process_in qs ++ [] ≡ map process_in ps ++ xs → Run ps qs xs
all_run ps qs xs is = sym (append-nil (map process_in qs)) ∙ is

-- ---- subroutines

-- nothing is put behind
pub tabled_none : (rs : List Routine) → Tabled rs rs []
tabled_none rs = sym (append-nil (map routine_in rs))

-- one subroutine is
pub tabled_one : (rs ss : List Routine) (r : Routine) (x : Path × List writers.Touch) → ss ≡ rs ++ r ∷ [] → routine_in r ≡ x → Tabled rs ss (x ∷ [])
tabled_one rs ss r x is of = one_behind routine_in rs ss r x is of

-- what is put behind in a turn is what the rest begins with
pub turn_tabled : (ps qs : List Routine) (xs ys : writers.Table) → Tabled ps qs xs → map routine_in qs ++ ys ≡ map routine_in ps ++ (xs ++ ys)
turn_tabled ps qs xs ys added = ap (λ l. l ++ ys) added ∙ append_assoc (map routine_in ps) xs ys

-- the last turn has put all behind
pub all_tabled : (ps qs : List Routine) (xs : writers.Table) → map routine_in qs ++ [] ≡ map routine_in ps ++ xs → Tabled ps qs xs
all_tabled ps qs xs is = sym (append-nil (map routine_in qs)) ∙ is

-- ---- variables

-- nothing is put behind
pub listed_none : (is : List Initialized) → Listed is is []
listed_none is = sym (append-nil (map initialized_in is))

-- one variable is
pub listed_one : (is js : List Initialized) (i : Initialized) (x : writers.Initialized) → js ≡ is ++ i ∷ [] → initialized_in i ≡ x → Listed is js (x ∷ [])
listed_one is js i x added of = one_behind initialized_in is js i x added of

-- what is put behind in a turn is what the rest begins with
pub turn_listed : (ps qs : List Initialized) (xs ys : List writers.Initialized) → Listed ps qs xs → map initialized_in qs ++ ys ≡ map initialized_in ps ++ (xs ++ ys)
turn_listed ps qs xs ys added = ap (λ l. l ++ ys) added ∙ append_assoc (map initialized_in ps) xs ys

-- the last turn has put all behind
pub all_listed : (ps qs : List Initialized) (xs : List writers.Initialized) → map initialized_in qs ++ [] ≡ map initialized_in ps ++ xs → Listed ps qs xs
all_listed ps qs xs is = sym (append-nil (map initialized_in qs)) ∙ is

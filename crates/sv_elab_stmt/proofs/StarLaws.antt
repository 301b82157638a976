-- What `@*` adds.
use Rattle.std.proofs.Common.{Result, Ok, Err, ◌≡◌, ℕ, List, [], ◌∷◌, ◌++◌, length, drop, refl, ap, sym, subst, ◌∙◌}
use Rattle.std.specs.Prelude.{IfOk, IfErr}
use Rattle.sv_value.specs.declared.place.Place.{Place}
use Rattle.sv_flat.specs.declared.class.Routine.{Routine}
use Rattle.sv_flat.specs.declared.object.Object.{Object}
use Rattle.sv_flat.specs.declared.stmt.Stmt.{Stmt}
use Rattle.sv_names.specs.declared.checked.Checked.{Checked}
use Rattle.sv_names.specs.declared.refusal.Refusal.{Refusal}
use Rattle.sv_names.specs.declared.refusal.Refusal.TheVariants.{Memory}
use Rattle.sv_names.specs.Checked.{given}
use Rattle.sv_names.specs.Code.{Code}
use Rattle.sv_names.specs.Emits.{Made, Emits}
use Rattle.sv_names.specs.Given.{Fails}
use Rattle.sv_names.specs.Statements.{after_star}
use Rattle.sv_elab_stmt.specs.Stars.{starred}

-- the routines that are added
added_are : (rs rs' as' : List Routine) (n : ℕ) → length rs ≡ n → rs' ≡ rs ++ as' → drop n rs' ≡ as'
added_are rs rs' as' n long is = ap (λ (k : ℕ). drop k rs') (sym long) ∙ ap (drop (length rs)) is ∙ behind rs
  where
    behind : (qs : List Routine) → drop (length qs) (qs ++ as') ≡ as'
    behind [] = refl
    behind (q ∷ qs) = behind qs

-- `@*` before statements
star_code : (at : Place) (rs rs' : List Routine) (os os' : List Object) (n : ℕ) (ss list : List Stmt) (c : Code) → length rs ≡ n
    → Made rs rs' os os' ss c → list ≡ starred at n (drop n rs') ss → Made rs rs' os os' list (after_star at c)
star_code at rs rs' os os' n ss list c long m is =
    let k = length rs in
    let added : drop n rs' ≡ (c.make k).1 = added_are rs rs' ((c.make k).1) n long m.added in
    record {
      value = is ∙ (λ i. starred at (sym long i) (added i) (m.value i));
      added = m.added;
      declared = m.declared;
    }

-- the same where memory suffices
pub star_made : (at : Place) (rs rs' : List Routine) (os os' : List Object) (n : ℕ) (ss : List Stmt) (r : Result (List Stmt) Refusal) (x : Checked Code)
    → length rs ≡ n → Emits rs rs' os os' (Ok ss) x → IfOk r (λ list. list ≡ starred at n (drop n rs') ss) → IfErr r (λ e. e ≡ Memory)
    → Emits rs rs' os os' r (given (after_star at) x)
star_made at rs rs' os os' n ss (Ok list) x long e is none =
    (after_star at e.0, ap (given (after_star at)) e.1, star_code at rs rs' os os' n ss list e.0 long e.2 is)
star_made at rs rs' os os' n ss (Err f) x long e is none =
    subst (λ (g : Refusal). Fails g (given (after_star at) x)) (sym none) tt

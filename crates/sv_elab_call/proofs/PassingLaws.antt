-- Arguments of subroutines, one after another.
use Rattle.std.proofs.Common.{◌≤◌, ◌≡◌, List, [], ◌∷◌, length, drop, refl, ap, sym, ◌∙◌, arith}
use Rattle.std.proofs.lemmas.List.{drop_all}
use Rattle.std.specs.Prelude.{Result, Ok, Err, IfOk}
use Rattle.sv_value.specs.declared.place.Place.{Place}
use Rattle.sv_flat.specs.declared.call.Argument.{Argument}
use Rattle.sv_names.specs.declared.argument.Arg.{Arg}
use Rattle.sv_names.specs.declared.checked.Checked.{Checked}
use Rattle.sv_names.specs.declared.checked.Checked.TheVariants.{Good, Broken}
use Rattle.sv_names.specs.declared.checked.Fault.{Fault}
use Rattle.sv_names.specs.declared.hoisted.Hoisted.{Hoisted}
use Rattle.sv_names.specs.declared.named.Formal.{Formal}
use Rattle.sv_names.specs.declared.refusal.Refusal.{Refusal}
use Rattle.sv_names.specs.Arguments.{values_stand}
use Rattle.sv_names.specs.Calls.{arguments, argument, left_out}
use Rattle.sv_names.specs.Checked.{put_before, broken_at, ◌where_also◌}
use Rattle.sv_names.specs.Joined.{joined}
use Rattle.sv_names.specs.Named.{Around}
use Rattle.sv_names.proofs.Earlier.{earlier_assoc}
use Rattle.sv_elab_call.specs.Passing.{next_argument, behind_next, passed, none_left}

-- a rule that guards a list guards the list with a part before it
before_guarded : {A : Type 0} (x : Checked A) (xs : Checked (List A)) (r : Checked (Unit {0}))
    → put_before x xs where_also r ≡ put_before x (xs where_also r)
before_guarded (Good x) (Good xs) (Good u) = refl
before_guarded (Good x) (Good xs) (Broken h) = refl
before_guarded (Good x) (Broken g) (Good u) = refl
before_guarded (Good x) (Broken g) (Broken h) = refl
before_guarded (Broken f) (Good xs) (Good u) = refl
before_guarded (Broken f) (Good xs) (Broken h) = refl
before_guarded (Broken f) (Broken g) (Good u) = refl
before_guarded (Broken f) (Broken g) (Broken h) = ap Broken (earlier_assoc f g h)

-- a rule that is broken behind a list is all that is told
no_list : {A : Type 0} (xs : List A) (f : Fault) (r : Checked (Unit {0}))
    → Good xs where_also (Broken f where_also r) ≡ Broken f where_also r
no_list xs f (Good u) = refl
no_list xs f (Broken g) = refl

-- one argument for each formal argument, and none behind them
pub all_passed : (ar : Around) (at : Place) (fs : List Formal) (as' : List Arg)
    → passed ar at fs as' where_also none_left at (drop (length fs) as') ≡ arguments ar at fs as'
all_passed ar at [] [] = refl
all_passed ar at [] (a ∷ as') = no_list [] (record { at = at; rule = 31 }) (values_stand (a ∷ as'))
all_passed ar at (f ∷ fs) [] =
    before_guarded (left_out ar at f) (passed ar at fs []) (none_left at [])
    ∙ ap (put_before (left_out ar at f))
    (ap (λ as'. passed ar at fs [] where_also none_left at as') (sym (drop_all (length fs) [] (omega arith))) ∙ all_passed ar at fs [])
all_passed ar at (f ∷ fs) (a ∷ as') =
    before_guarded (argument ar f.direction f.ty a) (passed ar at fs as') (none_left at (drop (length fs) as'))
    ∙ ap (put_before (argument ar f.direction f.ty a)) (all_passed ar at fs as')

-- a list, and the next argument behind it
pub and_passed : (ar : Around) (at : Place) (f : Formal) (list : Checked (List (Hoisted Argument))) (old new : List Arg) (next : Checked (Hoisted Argument))
    (r : Result (Checked (List (Hoisted Argument))) Refusal) → next ≡ next_argument ar at f old → new ≡ behind_next old
    → IfOk r (λ c. (ys : Checked (List (Hoisted Argument))) → joined c ys ≡ joined list (put_before next ys))
    → IfOk r (λ c. (fs : List Formal) → joined c (passed ar at fs new) ≡ joined list (passed ar at (f ∷ fs) old))
and_passed ar at f list old new next (Ok c) is rest put =
    λ fs. put (passed ar at fs new) ∙ (λ i. joined list (put_before (is i) (passed ar at fs (rest i))))
and_passed ar at f list old new next (Err e) is rest put = tt

-- some arguments are too many
pub some_left : (at : Place) (as' : List Arg) → 1 ≤ length as' → broken_at 31 at where_also values_stand as' ≡ none_left at as'
some_left at [] h = absurd (omega arith)
some_left at (a ∷ as') h = refl

-- One more suffix behind a name, and names without brackets.
use Rattle.std.proofs.Common.{arith, rules, ◌≡◌, true, false, List, [], ◌∷◌, ◌++◌, Option, Some, None, map, length, refl, sym, ap, ◌∙◌}
use Rattle.std.specs.Prelude.{◌==◌}
use Rattle.sv_value.specs.declared.place.Place.{Place}
use Rattle.sv_tree.specs.declared.expr.Suffix.{Suffix, Member, Call', Select', Part'}
use Rattle.sv_tree.specs.Expr as tree
use Rattle.sv_tree.specs.View.{suffix, suffix_list}
use Rattle.sv_names.specs.declared.checked.Checked.{Checked}
use Rattle.sv_names.specs.declared.checked.Checked.TheVariants.{Good, Broken}
use Rattle.sv_names.specs.declared.typed.Typed.{Typed}
use Rattle.sv_names.specs.Named.{Around}
use Rattle.sv_names.specs.Things.{Thing, A_value, A_subroutine, A_method, Its_result, A_block, The_signal, A_type}
use Rattle.sv_names.specs.Expressions.{things, before_select, if_broken}
use Rattle.sv_names.specs.Writers.{bare_touches, call_touches, suffix_touches}
use Rattle.sv_elab_expr.specs.Walk.{stepped, before_suffix, is_end}
use Rattle.sv_elab_touch.specs.Touched.{Touched, step_touches, is_result, stops}
use Rattle.sv_elab_touch.proofs.TouchedLaws.{touched_none}
use Rattle.sv_elab_writers.specs.declared.touch.Touch.{Touch as Held}
use Rattle.sv_elab_writers.specs.Views.{touch_in}

-- one suffix alone
pub one_step : (ar : Around) (pe : Place) (th : Checked Thing) (s : Suffix) (rest : tree.Suffixes)
    → things ar pe th (suffix_list (s ∷ [])) ≡ stepped ar pe th (suffix s rest)
one_step ar pe th (Member n) rest = refl
one_step ar pe th (Call' at shape row) rest = refl
one_step ar pe th (Select' at p e) rest = refl
one_step ar pe th (Part' at w p a q b) rest = refl

-- a function inside itself is not called by its name alone
pub bare_result : (ar : Around) (th : Checked Thing) → is_result th ≡ true → bare_touches ar th ≡ []
bare_result ar (Good (Its_result c o v at)) is = refl
bare_result ar (Good (A_value t)) is = absurd (cc)
bare_result ar (Good (A_subroutine c o d at)) is = absurd (cc)
bare_result ar (Good (A_method m o at)) is = absurd (cc)
bare_result ar (Good (A_block p ss at)) is = absurd (cc)
bare_result ar (Good (The_signal p i s at)) is = absurd (cc)
bare_result ar (Good (A_type t at)) is = absurd (cc)
bare_result ar (Broken f) is = absurd (cc)

-- all else is
pub bare_called : (ar : Around) (th : Checked Thing) → is_result th ≡ false → bare_touches ar th ≡ call_touches ar th tree.NoExpr
bare_called ar (Good (Its_result c o v at)) is = absurd (cc)
bare_called ar (Good (A_value t)) is = refl
bare_called ar (Good (A_subroutine c o d at)) is = refl
bare_called ar (Good (A_method m o at)) is = refl
bare_called ar (Good (A_block p ss at)) is = refl
bare_called ar (Good (The_signal p i s at)) is = refl
bare_called ar (Good (A_type t at)) is = refl
bare_called ar (Broken f) is = refl

-- what a suffix writes and calls, and what stands behind it
pub suffix_first : (ar : Around) (pe : Place) (th : Checked Thing) (s : Suffix) (rest : tree.Suffixes)
    → suffix_touches ar pe th (suffix s rest)
    ≡ step_touches ar th (suffix s rest) ++ suffix_touches ar pe (stepped ar pe th (suffix s rest)) rest
suffix_first ar pe th (Member n) rest = refl
suffix_first ar pe th (Call' at shape row) rest = refl
suffix_first ar pe th (Select' at p e) rest = refl
suffix_first ar pe th (Part' at w p a q b) rest = refl

-- ---- what stands before a part that breaks a rule

-- what stands before a suffix, or else before what follows it
before_is : (ar : Around) (pe : Place) (th : Checked Thing) (s : Suffix) (rest : tree.Suffixes)
    → before_select ar pe th (suffix s rest)
    ≡ if_broken (before_suffix ar pe th (suffix s rest)) (stepped ar pe th (suffix s rest)) (λ next. before_select ar pe next rest)
before_is ar pe th (Member n) rest = refl
before_is ar pe th (Call' at shape row) rest = refl
before_is ar pe th (Select' at p e) rest = refl
before_is ar pe th (Part' at w p a q b) rest = refl

it_stops : (b : Option Typed) (n : Checked Thing) (go : Checked Thing → Option Typed) → stops b n ≡ true → b ≡ if_broken b n go
it_stops (Some t) (Broken f) go is = refl
it_stops (Some t) (Good x) go is = absurd (cc)
it_stops None (Broken f) go is = absurd (cc)
it_stops None (Good x) go is = absurd (cc)

it_goes_on : (b : Option Typed) (n : Checked Thing) (go : Checked Thing → Option Typed) → stops b n ≡ false → go n ≡ if_broken b n go
it_goes_on (Some t) (Broken f) go is = absurd (cc)
it_goes_on (Some t) (Good x) go is = refl
it_goes_on None (Broken f) go is = refl
it_goes_on None (Good x) go is = refl

-- whether a suffix is the last one
pub end_of_list : (ss : List Suffix) → is_end (suffix_list ss) ≡ (length ss == 0)
end_of_list [] = refl
end_of_list (Member n ∷ ss) = grind (arith, rules)
end_of_list (Call' at shape row ∷ ss) = grind (arith, rules)
end_of_list (Select' at p e ∷ ss) = grind (arith, rules)
end_of_list (Part' at w p a q b ∷ ss) = grind (arith, rules)

-- a target ends before a part that breaks a rule
pub before_stopped : (ar : Around) (pe : Place) (th : Checked Thing) (s : Suffix) (rest : tree.Suffixes) (before : Option Typed) (next : Checked Thing)
    → before ≡ before_suffix ar pe th (suffix s rest) → next ≡ stepped ar pe th (suffix s rest) → stops before next ≡ true
    → before ≡ before_select ar pe th (suffix s rest)
before_stopped ar pe th s rest before next is made stop =
    it_stops before next (λ n. before_select ar pe n rest) stop
    ∙ (λ i. if_broken (is i) (made i) (λ n. before_select ar pe n rest))
    ∙ sym (before_is ar pe th s rest)

-- or goes on behind it
pub before_behind : (ar : Around) (pe : Place) (th : Checked Thing) (s : Suffix) (rest : tree.Suffixes) (before : Option Typed) (next : Checked Thing)
    → before ≡ before_suffix ar pe th (suffix s rest) → next ≡ stepped ar pe th (suffix s rest) → stops before next ≡ false
    → before_select ar pe next rest ≡ before_select ar pe th (suffix s rest)
before_behind ar pe th s rest before next is made on =
    it_goes_on before next (λ n. before_select ar pe n rest) on
    ∙ (λ i. if_broken (is i) (made i) (λ n. before_select ar pe n rest))
    ∙ sym (before_is ar pe th s rest)

-- ---- names without brackets

-- nothing is called by the name of a function inside itself
pub bare_none : (ar : Around) (th : Checked Thing) (ts : List Held) → is_result th ≡ true → Touched ts ts (bare_touches ar th)
bare_none ar th ts is = touched_none ts ∙ ap (λ l. map touch_in ts ++ l) (sym (bare_result ar th is))

-- all else is called
pub bare_some : (ar : Around) (th : Checked Thing) (ts us : List Held) → is_result th ≡ false → Touched ts us (call_touches ar th tree.NoExpr)
    → Touched ts us (bare_touches ar th)
bare_some ar th ts us is called = called ∙ ap (λ l. map touch_in ts ++ l) (sym (bare_called ar th is))

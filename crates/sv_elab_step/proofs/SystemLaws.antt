-- How many arguments system functions take.
use Rattle.std.proofs.Common.{◌≡◌, ◌≤◌, ℕ, Bool, false, true≢false, List, [], ◌∷◌, ◌++◌, length, refl, sym, ap, subst, ◌∙◌, arith}
use Rattle.std.specs.Prelude.{◌==◌}
use Rattle.std.proofs.lemmas.List.{nil_from_length}
use Rattle.sv_value.specs.declared.place.Place.{Place}
use Rattle.sv_names.specs.declared.argument.Arg.{Arg}
use Rattle.sv_names.specs.Arguments.{values_stand}
use Rattle.sv_names.specs.Checked.{broken_at, ◌where_also◌}
use Rattle.sv_names.specs.Expressions.{one_of, none_of}

-- several
several : (at : Place) (rest : List Arg) (a : Arg) (n : ℕ) (none : Bool) → n ≡ length rest → none ≡ (n == 0) → none ≡ false
    → (broken_at 31 at where_also values_stand (rest ++ a ∷ [])) ≡ one_of at (rest ++ a ∷ [])
several at [] a n none long test some = absurd (true≢false (sym (test ∙ ap (λ (k : ℕ). k == 0) long) ∙ some))
several at (b ∷ []) a n none long test some = refl
several at (b ∷ d ∷ rest) a n none long test some = refl

pub not_one : (at : Place) (args rest : List Arg) (a : Arg) (n : ℕ) (none : Bool) → args ≡ rest ++ a ∷ []
    → n ≡ length rest → none ≡ (n == 0) → none ≡ false → (broken_at 31 at where_also values_stand args) ≡ one_of at args
not_one at args rest a n none h long test some =
    subst (λ (as' : List Arg). (broken_at 31 at where_also values_stand as') ≡ one_of at as') (sym h) (several at rest a n none long test some)

-- none
pub none_given : (at : Place) (args : List Arg) (n : ℕ) → n ≡ length args → n ≡ 0 → (broken_at 31 at where_also values_stand args) ≡ one_of at args
none_given at args n long none =
    subst (λ (as' : List Arg). (broken_at 31 at where_also values_stand as') ≡ one_of at as') (sym (nil_from_length args (sym long ∙ none))) refl

-- some, where there are to be none
pub some_given : (at : Place) (args : List Arg) → 1 ≤ length args → (broken_at 31 at where_also values_stand args) ≡ none_of at args
some_given at [] h = absurd (omega (arith, h))
some_given at (a ∷ args) h = refl

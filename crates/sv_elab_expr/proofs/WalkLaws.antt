-- One more suffix behind a name, from the left.
use Rattle.std.proofs.Common.{arith, rules, ◌≡◌, ◌∙◌, ℕ, ◌+◌, ◌-◌, ◌<◌, Bool, true, false, List, [], ◌∷◌, Option, Some, None, length, drop, get_or, refl, sym, ap}
use Rattle.std.specs.Prelude.{◌==◌, Result, Ok, Err, IfOk}
use Rattle.std.proofs.lemmas.List.{drop_more}
use Rattle.sv_value.specs.declared.place.Place.{Place}
use Rattle.sv_tree.specs.declared.expr.Suffix.{Suffix, Member, Call', Select', Part'}
use Rattle.sv_tree.specs.Expr as tree
use Rattle.sv_tree.specs.View.{suffix, suffix_list}
use Rattle.sv_names.specs.declared.checked.Checked.{Checked}
use Rattle.sv_names.specs.declared.typed.Typed.{Typed}
use Rattle.sv_names.specs.Named.{Around}
use Rattle.sv_names.specs.Checked.{◌▷◌}
use Rattle.sv_names.specs.Things.{Thing, thing_value, select_step}
use Rattle.sv_names.specs.Expressions.{expr, things, before_select, in_index, selected_by}
use Rattle.sv_elab_step.specs.Before.{or_else, kept}
use Rattle.sv_elab_step.proofs.BeforeLaws.{kept_first}
use Rattle.sv_elab_expr.specs.Walk.{stepped, before_suffix, is_end}

-- what follows a suffix follows what it makes
pub one_more_thing : (ar : Around) (pe : Place) (th : Checked Thing) (s : Suffix) (rest : tree.Suffixes)
    → things ar pe (stepped ar pe th (suffix s rest)) rest ≡ things ar pe th (suffix s rest)
one_more_thing ar pe th (Member n) rest = refl
one_more_thing ar pe th (Call' at shape row) rest = refl
one_more_thing ar pe th (Select' at p e) rest = refl
one_more_thing ar pe th (Part' at w p a q b) rest = refl

-- what stands before a broken part, one suffix on
pub one_more_before : (ar : Around) (pe : Place) (th : Checked Thing) (s : Suffix) (rest : tree.Suffixes) (before : Option Typed)
    → or_else (kept before (before_suffix ar pe th (suffix s rest)) (stepped ar pe th (suffix s rest)))
    (before_select ar pe (stepped ar pe th (suffix s rest)) rest)
    ≡ or_else before (before_select ar pe th (suffix s rest))
one_more_before ar pe th (Member n) rest before =
    kept_first before None (stepped ar pe th (suffix (Member n) rest)) (λ next. before_select ar pe next rest)
one_more_before ar pe th (Call' at shape row) rest before =
    kept_first before _ (stepped ar pe th (suffix (Call' at shape row) rest)) (λ next. before_select ar pe next rest)
one_more_before ar pe th (Select' at p e) rest before =
    kept_first before _ (stepped ar pe th (suffix (Select' at p e) rest)) (λ next. before_select ar pe next rest)
one_more_before ar pe th (Part' at w p a q b) rest before =
    kept_first before _ (stepped ar pe th (suffix (Part' at w p a q b) rest)) (λ next. before_select ar pe next rest)

-- whether a suffix is the last one
pub end_of_list : (ss : List Suffix) → is_end (suffix_list ss) ≡ (length ss == 0)
end_of_list [] = refl
end_of_list (Member n ∷ ss) = grind (arith, rules)
end_of_list (Call' at shape row ∷ ss) = grind (arith, rules)
end_of_list (Select' at p e ∷ ss) = grind (arith, rules)
end_of_list (Part' at w p a q b ∷ ss) = grind (arith, rules)

-- what an answer is, and what follows of it
pub ok_mapped : {A E : Type 0} (r : Result A E) (P Q : A → Type 0) → ((x : A) → P x → Q x) → IfOk r P → IfOk r Q
ok_mapped (Ok x) P Q go h = go x h
ok_mapped (Err e) P Q go h = h

-- ---- a loop over suffixes

length_less : {A : Type 0} (x : A) (xs : List A) → length (x ∷ xs) - 1 ≡ length xs
length_less x xs = grind (arith, rules)

pub first_left : {A : Type 0} (xs : List A) (i : ℕ) (x : A) → i < length xs → get_or xs i x ≡ x → drop i xs ≡ x ∷ drop (i + 1) xs
first_left xs i x within is = drop_more xs i x within ∙ ap (λ y. y ∷ drop (i + 1) xs) is

-- how many are left
pub left_after : {A : Type 0} (xs : List A) (i : ℕ) (x : A) (left : ℕ) → i < length xs → get_or xs i x ≡ x → left ≡ length (drop i xs)
    → left - 1 ≡ length (drop (i + 1) xs)
left_after xs i x left within is at =
    ap (λ n. n - 1) (at ∙ ap length (first_left xs i x within is)) ∙ length_less x (drop (i + 1) xs)

-- the thing behind one more suffix
pub thing_after : (ar : Around) (pe : Place) (th next : Checked Thing) (ss : List Suffix) (i : ℕ) (s : Suffix) → i < length ss → get_or ss i s ≡ s
    → ((rest : tree.Suffixes) → next ≡ stepped ar pe th (suffix s rest))
    → things ar pe next (suffix_list (drop (i + 1) ss)) ≡ things ar pe th (suffix_list (drop i ss))
thing_after ar pe th next ss i s within is made =
    let rest = suffix_list (drop (i + 1) ss) in
    ap (λ t. things ar pe t rest) (made rest) ∙ one_more_thing ar pe th s rest
    ∙ sym (ap (λ xs. things ar pe th (suffix_list xs)) (first_left ss i s within is))

-- what stands before a broken part, behind one more suffix
pub before_after : (ar : Around) (pe : Place) (th next : Checked Thing) (ss : List Suffix) (i : ℕ) (s : Suffix) (before made : Option Typed)
    → i < length ss → get_or ss i s ≡ s → ((rest : tree.Suffixes) → next ≡ stepped ar pe th (suffix s rest))
    → made ≡ before_suffix ar pe th (suffix s (suffix_list (drop (i + 1) ss)))
    → or_else (kept before made next) (before_select ar pe next (suffix_list (drop (i + 1) ss)))
    ≡ or_else before (before_select ar pe th (suffix_list (drop i ss)))
before_after ar pe th next ss i s before made within is made_next made_before =
    let rest = suffix_list (drop (i + 1) ss) in
    ap (λ t. or_else (kept before made t) (before_select ar pe t rest)) (made_next rest)
    ∙ ap (λ m. or_else (kept before m (stepped ar pe th (suffix s rest))) (before_select ar pe (stepped ar pe th (suffix s rest)) rest)) made_before
    ∙ one_more_before ar pe th s rest before
    ∙ sym (ap (λ xs. or_else before (before_select ar pe th (suffix_list xs))) (first_left ss i s within is))

-- ---- a select over what its parts give

pub select_made : (ar inner : Around) (pe at pi : Place) (th : Checked Thing) (index : tree.Expr) (value i : Checked Typed)
    → pi ≡ tree.place_of index → value ≡ (th ▷ thing_value ar pe) → inner ≡ in_index th value ar → i ≡ expr inner index
    → select_step ar at pi th value i ≡ selected_by ar pe th at index
select_made ar inner pe at pi th index value i a b c d =
    ap (λ p. select_step ar at p th value i) a
    ∙ ap (λ x. select_step ar at (tree.place_of index) th value x) (d ∙ ap (λ r. expr r index) c)
    ∙ ap (λ v. select_step ar at (tree.place_of index) th v (expr (in_index th v ar) index)) b

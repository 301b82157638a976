-- Which item of a `case` matches.
use Rattle.std.proofs.Common.{ℕ, ◌≡◌, ◌+◌, ◌<◌, ◌≤◌, Bool, List, [], ◌∷◌, ◌++◌, Option, Some, true, false, refl, ap, subst, sym, ◌∙◌, length, drop, get_or}
use Rattle.std.specs.Prelude.{Ok, Err, if◌then◌else◌, IsTrue, ◌↔◌}
use Rattle.std.proofs.lemmas.List.{drop_more, drop_all}
use Rattle.sv_value.specs.declared.number.RoutineId.{RoutineId}
use Rattle.sv_value.specs.declared.operator.BinOp.TheVariants as bin
use Rattle.sv_value.specs.declared.operator.CaseKind.{CaseKind}
use Rattle.sv_value.specs.declared.place.FaultKind.{FaultKind}
use Rattle.sv_value.specs.declared.val.Val.{Val}
use Rattle.sv_value.specs.declared.val.Val.TheVariants as val
use Rattle.sv_value.specs.Operators.{is_true, bit_of, one_bit}
use Rattle.sv_flat.specs.declared.stmt.CaseItem.{CaseItem}
use Rattle.sv_flat.specs.declared.design.Parts.{Parts}
use Rattle.sv_flat.specs.Expr.{Expr}
use Rattle.sv_flat.specs.State.{View, Name}
use Rattle.sv_flat.specs.Eval.{value_of, with_result, compared, same_bytes}
use Rattle.sv_flat.specs.Process.{Todo, optional_body_in}
use Rattle.sv_flat.specs.Statements.Matching.{matches, any_label, chosen_item}
use Rattle.sv_flat.specs.Statements.Shared.{Effects, goes_on, value_in, from_result, fails}
use Rattle.sv_eval.proofs.TextLaws.{same_is}
use Rattle.sv_stack.specs.declared.effect.Effect.{Effect as Own_effect}
use Rattle.sv_stack.specs.declared.frames.Frame.{Frame}
use Rattle.sv_stack.specs.Effects.{Leaves}

-- ---- labels

-- what the next label decides
next_label : (k : CaseKind) (x : Val) (es : List Expr) (i : ℕ) (e : Expr) (v : View) (y : Val) → i < length es → e ≡ get_or es i e
    → any_label k x es v ≡ any_label k x (drop i es) v → value_of e v ≡ Ok y
    → any_label k x es v ≡ (if matches k x y then Ok true else any_label k x (drop (i + 1) es) v)
next_label k x es i e v y h at so_far is =
    so_far ∙ ap (λ us. any_label k x us v) (drop_more es i e h ∙ ap (λ u. u ∷ drop (i + 1) es) (sym at))
    ∙ ap (λ r. with_result r (λ y. if matches k x y then Ok true else any_label k x (drop (i + 1) es) v)) is

pub label_hit : (k : CaseKind) (x : Val) (es : List Expr) (i : ℕ) (e : Expr) (v : View) (y : Val) (b : Bool) → i < length es → e ≡ get_or es i e
    → any_label k x es v ≡ any_label k x (drop i es) v → value_of e v ≡ Ok y → b ≡ matches k x y → b ≡ true → any_label k x es v ≡ Ok true
label_hit k x es i e v y b h at so_far is hit yes_it_is =
    next_label k x es i e v y h at so_far is ∙ ap (λ (c : Bool). if c then Ok true else any_label k x (drop (i + 1) es) v) (sym hit ∙ yes_it_is)

pub label_passed : (k : CaseKind) (x : Val) (es : List Expr) (i : ℕ) (e : Expr) (v : View) (y : Val) (b : Bool) → i < length es → e ≡ get_or es i e
    → any_label k x es v ≡ any_label k x (drop i es) v → value_of e v ≡ Ok y → b ≡ matches k x y → b ≡ false
    → any_label k x es v ≡ any_label k x (drop (i + 1) es) v
label_passed k x es i e v y b h at so_far is hit no_it_is =
    next_label k x es i e v y h at so_far is ∙ ap (λ (c : Bool). if c then Ok true else any_label k x (drop (i + 1) es) v) (sym hit ∙ no_it_is)

pub label_fault : (k : CaseKind) (x : Val) (es : List Expr) (i : ℕ) (e : Expr) (v : View) (f : FaultKind) → i < length es → e ≡ get_or es i e
    → any_label k x es v ≡ any_label k x (drop i es) v → value_of e v ≡ Err f → any_label k x es v ≡ Err f
label_fault k x es i e v f h at so_far is =
    so_far ∙ ap (λ us. any_label k x us v) (drop_more es i e h ∙ ap (λ u. u ∷ drop (i + 1) es) (sym at))
    ∙ ap (λ r. with_result r (λ y. if matches k x y then Ok true else any_label k x (drop (i + 1) es) v)) is

pub no_label : (k : CaseKind) (x : Val) (es : List Expr) (n : ℕ) (v : View) → length es ≤ n → any_label k x es v ≡ any_label k x (drop n es) v
    → any_label k x es v ≡ Ok false
no_label k x es n v h so_far = so_far ∙ ap (λ us. any_label k x us v) (drop_all n es h)

-- ---- items

-- what the next item decides
next_item : (k : CaseKind) (x : Val) (as' : List CaseItem) (o : Option RoutineId) (i : ℕ) (a : CaseItem) (v : View) → i < length as' → a ≡ get_or as' i a
    → chosen_item k x as' o v ≡ chosen_item k x (drop i as') o v
    → chosen_item k x as' o v ≡ with_result (any_label k x a.labels v) (λ hit. if hit then Ok (Some a.body) else chosen_item k x (drop (i + 1) as') o v)
next_item k x as' o i a v h at so_far = so_far ∙ ap (λ us. chosen_item k x us o v) (drop_more as' i a h ∙ ap (λ u. u ∷ drop (i + 1) as') (sym at))

pub item_hit : (k : CaseKind) (x : Val) (as' : List CaseItem) (o : Option RoutineId) (i : ℕ) (a : CaseItem) (v : View) (b : Bool) → i < length as' → a ≡ get_or as' i a
    → chosen_item k x as' o v ≡ chosen_item k x (drop i as') o v → any_label k x a.labels v ≡ Ok b → b ≡ true → chosen_item k x as' o v ≡ Ok (Some a.body)
item_hit k x as' o i a v b h at so_far is yes_it_is =
    next_item k x as' o i a v h at so_far
    ∙ ap (λ r. with_result r (λ hit. if hit then Ok (Some a.body) else chosen_item k x (drop (i + 1) as') o v)) (is ∙ ap Ok yes_it_is)

pub item_passed : (k : CaseKind) (x : Val) (as' : List CaseItem) (o : Option RoutineId) (i : ℕ) (a : CaseItem) (v : View) (b : Bool) → i < length as' → a ≡ get_or as' i a
    → chosen_item k x as' o v ≡ chosen_item k x (drop i as') o v → any_label k x a.labels v ≡ Ok b → b ≡ false
    → chosen_item k x as' o v ≡ chosen_item k x (drop (i + 1) as') o v
item_passed k x as' o i a v b h at so_far is no_it_is =
    next_item k x as' o i a v h at so_far
    ∙ ap (λ r. with_result r (λ hit. if hit then Ok (Some a.body) else chosen_item k x (drop (i + 1) as') o v)) (is ∙ ap Ok no_it_is)

pub item_fault : (k : CaseKind) (x : Val) (as' : List CaseItem) (o : Option RoutineId) (i : ℕ) (a : CaseItem) (v : View) (f : FaultKind) → i < length as' → a ≡ get_or as' i a
    → chosen_item k x as' o v ≡ chosen_item k x (drop i as') o v → any_label k x a.labels v ≡ Err f → chosen_item k x as' o v ≡ Err f
item_fault k x as' o i a v f h at so_far is =
    next_item k x as' o i a v h at so_far ∙ ap (λ r. with_result r (λ hit. if hit then Ok (Some a.body) else chosen_item k x (drop (i + 1) as') o v)) is

pub no_item : (k : CaseKind) (x : Val) (as' : List CaseItem) (o : Option RoutineId) (n : ℕ) (v : View) → length as' ≤ n
    → chosen_item k x as' o v ≡ chosen_item k x (drop n as') o v → chosen_item k x as' o v ≡ Ok o
no_item k x as' o n v h so_far = so_far ∙ ap (λ us. chosen_item k x us o v) (drop_all n as' h)

-- ---- what a `case` does

pub case_is : (d : Parts) (fs : List Frame) (es : List Own_effect) (mid rest : List Todo) (k : CaseKind) (e : Expr) (as' : List CaseItem) (o : Option RoutineId) (scope : Option Name) (v : View)
    (x : Val) (r : Option RoutineId)
    → value_of e v ≡ Ok x → chosen_item k x as' o v ≡ Ok r → mid ≡ optional_body_in d r scope ++ rest → Leaves d fs es (goes_on mid [])
    → Leaves d fs es (value_in e v (λ x. from_result (chosen_item k x as' o v) (λ r. goes_on (optional_body_in d r scope ++ rest) [])))
case_is d fs es mid rest k e as' o scope v x r value item left h =
    subst (Leaves d fs es) (sym (ap (λ u. from_result u (λ x. from_result (chosen_item k x as' o v) (λ r. goes_on (optional_body_in d r scope ++ rest) []))) value
    ∙ ap (λ u. from_result u (λ r. goes_on (optional_body_in d r scope ++ rest) [])) item))
    (subst (λ us. Leaves d fs es (goes_on us [])) left h)

pub case_no_value : (e : Expr) (v : View) (f : FaultKind) (go : Val → Effects) → value_of e v ≡ Err f → value_in e v go ≡ fails f
case_no_value e v f go value = ap (λ u. from_result u go) value

pub case_no_label : (k : CaseKind) (e : Expr) (as' : List CaseItem) (o : Option RoutineId) (v : View) (x : Val) (f : FaultKind) (go : Option RoutineId → Effects)
    → value_of e v ≡ Ok x → chosen_item k x as' o v ≡ Err f → value_in e v (λ x. from_result (chosen_item k x as' o v) go) ≡ fails f
case_no_label k e as' o v x f go value item =
    ap (λ u. from_result u (λ x. from_result (chosen_item k x as' o v) go)) value ∙ ap (λ u. from_result u go) item

-- ---- texts

-- texts match that have the same bytes
pub same_texts : (b : Bool) (xs ys : List ℕ) → (IsTrue b ↔ (xs ≡ ys)) → b ≡ is_true (compared bin.Equal (val.Text xs) (val.Text ys))
same_texts b xs ys h = same_is b xs ys h ∙ by_bit (same_bytes xs ys)
  where
    by_bit : (c : Bool) → c ≡ is_true (one_bit (bit_of c))
    by_bit true = refl
    by_bit false = refl

-- The values and the text of what is printed.
use Rattle.std.proofs.Common.{ℕ, ◌≡◌, ◌+◌, ◌<◌, ◌≤◌, List, [], ◌∷◌, ◌++◌, true, false, refl, ap, subst, sym, ◌∙◌, arith, length, drop, get_or, append-nil}
use Rattle.std.specs.Prelude.{Some, Result, Ok, Err, nat_lt, if◌then◌else◌}
use Rattle.std.proofs.lemmas.Bool.Decides.{nat_tests}
use Rattle.std.proofs.lemmas.List.{drop_more, drop_all, append_assoc}
use Rattle.sv_value.specs.declared.place.FaultKind.{FaultKind}
use Rattle.sv_value.specs.declared.place.FaultKind.TheVariants.{Length}
use Rattle.sv_value.specs.declared.val.Val.{Val}
use Rattle.sv_value.specs.declared.val.Val.TheVariants as val
use Rattle.sv_value.specs.declared.operator.Piece.{Piece}
use Rattle.sv_value.specs.Digits.{rendered}
use Rattle.sv_flat.specs.declared.stmt.Stmt.{Stmt}
use Rattle.sv_flat.specs.declared.stmt.Form.TheVariants as form
use Rattle.sv_flat.specs.declared.stmt.PrintKind.TheVariants as print
use Rattle.sv_flat.specs.declared.design.Parts.{Parts}
use Rattle.sv_flat.specs.Expr.{Expr}
use Rattle.sv_flat.specs.State.{View}
use Rattle.sv_flat.specs.Eval.{Valued, value_of, with_result, text, text_in}
use Rattle.sv_flat.specs.Process.{Todo, Print_text, Keep_print}
use Rattle.sv_flat.specs.Statements.Shared.{Effects, goes_on, values_of, from_result, fails}
use Rattle.sv_built.specs.declared.position.Position.{Position}
use Rattle.sv_built.specs.Positions.{stmt_at}
use Rattle.sv_stack.specs.declared.effect.Effect.{Effect as Own_effect}
use Rattle.sv_stack.specs.declared.effect.Effect.TheVariants as effect
use Rattle.sv_stack.specs.declared.frames.Frame.{Frame}
use Rattle.sv_stack.specs.Effects.{strobe_at, strobe_of, effect_in, Leaves}

-- ---- the values, from the left

-- values behind others
abbrev pub behind : List Val → Result (List Val) FaultKind → Result (List Val) FaultKind
behind all r = with_result r (λ ys. Ok (all ++ ys))

pub no_value_yet : (es : List Expr) (v : View) (all : List Val) → all ≡ [] → values_of es v ≡ behind all (values_of es v)
no_value_yet es v all e = by_result (values_of es v) ∙ ap (λ xs. behind xs (values_of es v)) (sym e)
  where
    by_result : (r : Result (List Val) FaultKind) → r ≡ behind [] r
    by_result (Ok xs) = refl
    by_result (Err k) = refl

-- the next value
next_of : (es : List Expr) (i : ℕ) (e : Expr) (v : View) → i < length es → e ≡ get_or es i e
    → values_of (drop i es) v ≡ with_result (value_of e v) (λ x. with_result (values_of (drop (i + 1) es) v) (λ xs. Ok (x ∷ xs)))
next_of es i e v h at = ap (λ us. values_of us v) (drop_more es i e h ∙ ap (λ u. u ∷ drop (i + 1) es) (sym at))

pub one_value : (es : List Expr) (i : ℕ) (e : Expr) (v : View) (x : Val) (all more : List Val) → i < length es → e ≡ get_or es i e
    → values_of es v ≡ behind all (values_of (drop i es) v) → value_of e v ≡ Ok x → more ≡ all ++ x ∷ []
    → values_of es v ≡ behind more (values_of (drop (i + 1) es) v)
one_value es i e v x all more h at so_far is push =
    so_far ∙ ap (behind all) (next_of es i e v h at ∙ ap (λ r. with_result r (λ x. with_result (values_of (drop (i + 1) es) v) (λ xs. Ok (x ∷ xs)))) is)
    ∙ by_result (values_of (drop (i + 1) es) v) ∙ ap (λ xs. behind xs (values_of (drop (i + 1) es) v)) (sym push)
  where
    by_result : (r : Result (List Val) FaultKind) → behind all (with_result r (λ xs. Ok (x ∷ xs))) ≡ behind (all ++ x ∷ []) r
    by_result (Ok xs) = ap Ok (sym (append_assoc all (x ∷ []) xs))
    by_result (Err k) = refl

pub no_value : (es : List Expr) (i : ℕ) (e : Expr) (v : View) (k : FaultKind) (all : List Val) → i < length es → e ≡ get_or es i e
    → values_of es v ≡ behind all (values_of (drop i es) v) → value_of e v ≡ Err k → values_of es v ≡ Err k
no_value es i e v k all h at so_far is =
    so_far ∙ ap (behind all) (next_of es i e v h at ∙ ap (λ r. with_result r (λ x. with_result (values_of (drop (i + 1) es) v) (λ xs. Ok (x ∷ xs)))) is)

pub all_values : (es : List Expr) (n : ℕ) (v : View) (all : List Val) → length es ≤ n → values_of es v ≡ behind all (values_of (drop n es) v)
    → values_of es v ≡ Ok all
all_values es n v all h so_far = so_far ∙ ap (λ us. behind all (values_of us v)) (drop_all n es h) ∙ ap Ok (append-nil all)

-- ---- the text

pub text_fits : (t : List ℕ) → length t < 65536 → text t ≡ Ok (val.Text t)
text_fits t h = ap (λ b. if b then Ok (val.Text t) else Err Length) (is_less (length t) 65536 h)
  where
    is_less : (n m : ℕ) → n < m → nat_lt n m ≡ true
    is_less n m h = grind (arith, nat_tests)

pub text_long : (t : List ℕ) → 65536 ≤ length t → text t ≡ Err Length
text_long t h = ap (λ b. if b then Ok (val.Text t) else Err Length) (is_not_less (length t) 65536 h)
  where
    is_not_less : (n m : ℕ) → m ≤ n → nat_lt n m ≡ false
    is_not_less n m h = grind (arith, nat_tests)

-- ---- what a print does

pub printed_is : (r : Result (List Val) FaultKind) (f : List Val → Valued) (go : Val → Effects) (y : Val) → with_result r f ≡ Ok y
    → from_result r (λ xs. from_result (f xs) go) ≡ go y
printed_is (Ok xs) f go y e = ap (λ r. from_result r go) e
printed_is (Err k) f go y e = cc

pub printed_not : (r : Result (List Val) FaultKind) (f : List Val → Valued) (go : Val → Effects) (k : FaultKind) → with_result r f ≡ Err k
    → from_result r (λ xs. from_result (f xs) go) ≡ fails k
printed_not (Ok xs) f go k e = ap (λ r. from_result r go) e
printed_not (Err j) f go k e = ap fails (the_same e)
  where
    the_same : {a b : FaultKind} → ◌≡◌ {A = Valued} (Err a) (Err b) → a ≡ b
    the_same h = cc

pub prints : (d : Parts) (fs : List Frame) (es : List Own_effect) (mid rest : List Todo) (unit : ℕ) (ps : List Piece) (xs : List Expr) (v : View) (t : List ℕ)
    → with_result (values_of xs v) (λ ys. text (rendered unit ps ys)) ≡ Ok (val.Text t) → mid ≡ rest
    → Leaves d fs es (goes_on mid (effect_in d (effect.Print t) ∷ []))
    → Leaves d fs es (from_result (values_of xs v) (λ ys. from_result (text (rendered unit ps ys)) (λ x. goes_on rest (Print_text (text_in x) ∷ []))))
prints d fs es mid rest unit ps xs v t is left h =
    subst (Leaves d fs es) (sym (printed_is (values_of xs v) (λ ys. text (rendered unit ps ys)) (λ x. goes_on rest (Print_text (text_in x) ∷ [])) (val.Text t) is))
    (subst (λ us. Leaves d fs es (goes_on us (effect_in d (effect.Print t) ∷ []))) left h)

pub strobed : (d : Parts) (fs : List Frame) (es : List Own_effect) (mid rest : List Todo) (p : Position) (s : Stmt) (ps : List Piece) (xs : List Expr)
    → stmt_at d p ≡ Some s → s.form ≡ form.Print print.Strobe ps xs → mid ≡ rest
    → Leaves d fs es (goes_on mid (effect_in d (effect.Strobe p) ∷ []))
    → Leaves d fs es (goes_on rest (Keep_print print.Strobe ps xs ∷ []))
strobed d fs es mid rest p s ps xs at is left h =
    let here : effect_in d (effect.Strobe p) ≡ Keep_print print.Strobe ps xs = ap strobe_at at ∙ ap strobe_of is in
    subst (λ f. Leaves d fs es (goes_on rest (f ∷ []))) here (subst (λ us. Leaves d fs es (goes_on us (effect_in d (effect.Strobe p) ∷ []))) left h)

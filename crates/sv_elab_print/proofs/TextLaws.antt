-- Strings that are printed, and what `$sformatf` gives.
use Rattle.std.proofs.Common.{ℕ, ◌≡◌, List, [], ◌∷◌, ◌++◌, Option, Some, None, refl, sym, ap, ◌∙◌, subst, append_assoc, append-nil}
use Rattle.std.specs.Prelude.{Result}
use Rattle.sv_value.specs.declared.place.Place.{Place}
use Rattle.sv_value.specs.declared.operator.Piece.{Piece}
use Rattle.sv_value.specs.declared.operator.Piece.TheVariants as piece
use Rattle.sv_flat.specs.Expr as flat
use Rattle.sv_names.specs.declared.argument.Arg.{Arg}
use Rattle.sv_names.specs.declared.argument.Taken.{Taken}
use Rattle.sv_names.specs.declared.checked.Fault.{Fault}
use Rattle.sv_names.specs.declared.checked.Checked.{Checked}
use Rattle.sv_names.specs.declared.checked.Checked.TheVariants.{Good, Broken}
use Rattle.sv_names.specs.declared.hoisted.Hoisted.{Hoisted}
use Rattle.sv_names.specs.declared.refusal.Refusal.{Refusal}
use Rattle.sv_names.specs.declared.refusal.Refusal.TheVariants.{Rule, Memory}
use Rattle.sv_names.specs.declared.typed.Typed.{Typed}
use Rattle.sv_names.specs.Arguments.{values_stand}
use Rattle.sv_names.specs.Checked.{◌▷◌, broken_at, ◌where_also◌}
use Rattle.sv_names.specs.Formats.{Printed, and_then, filled, rest_after, left_over, parts_from, text_pieces, joined_texts, sformatf}
use Rattle.sv_names.specs.Given.{Fails, Gives}
use Rattle.sv_names.specs.Hoisted.{in_row}
use Rattle.sv_elab_print.specs.Printing.{left_behind, row_with, rows, text_first, with_text, texts_before, arg_unprinted, known_format, first_format, all_filled, formatted, made_of}
use Rattle.sv_elab_print.proofs.PrintLaws.{then_first, then_grouped}

-- ---- values in a row

-- one more value
pub row_grows : (row : Hoisted (List flat.Expr)) (e : Hoisted flat.Expr) (es : List (Hoisted flat.Expr))
    → rows (row_with row e) (in_row es) ≡ rows row (in_row (e ∷ es))
row_grows row e es = λ i. record {
  hidden = append_assoc row.hidden e.hidden (in_row es).hidden i;
  calls = append_assoc row.calls e.calls (in_row es).calls i;
  value = append_assoc row.value (e.value ∷ []) (in_row es).value i;
}

-- no further value
pub row_ends : (row : Hoisted (List flat.Expr)) → rows row (in_row []) ≡ row
row_ends row = λ i. record { hidden = append-nil row.hidden i; calls = append-nil row.calls i; value = append-nil row.value i }

-- ---- strings

-- the string of one part, and those behind it
pub text_is : (s : Piece) (ss : List Piece) (es : List flat.Expr)
    → with_text (text_first s es) (text_pieces ss (left_behind s es)) ≡ text_pieces (s ∷ ss) es
text_is (piece.Plain w) ss es = refl
text_is (piece.Field f p) ss [] = refl
text_is (piece.Field f p) ss (e ∷ es) = refl

pub text_step : (done : List flat.Expr) (s : Piece) (ss : List Piece) (es left : List flat.Expr) (e : flat.Expr)
    → Some e ≡ text_first s es → left ≡ left_behind s es → (done ++ e ∷ []) ++ text_pieces ss left ≡ done ++ text_pieces (s ∷ ss) es
text_step done s ss es left e h l =
    append_assoc done (e ∷ []) (text_pieces ss left)
    ∙ (λ i. done ++ with_text (h i) (text_pieces ss (l i)))
    ∙ ap (λ (ts : List flat.Expr). done ++ ts) (text_is s ss es)

-- a part for which no value is left
pub text_end : (done : List flat.Expr) (s : Piece) (ss : List Piece) (es : List flat.Expr)
    → None ≡ text_first s es → done ≡ done ++ text_pieces (s ∷ ss) es
text_end done s ss es h =
    sym (append-nil done) ∙ ap (λ (o : Option flat.Expr). done ++ with_text o (text_pieces ss (left_behind s es))) h
    ∙ ap (λ (ts : List flat.Expr). done ++ ts) (text_is s ss es)

-- the last string goes before all others
pub last_before : (es : List flat.Expr) (e r : flat.Expr) → texts_before (es ++ e ∷ []) r ≡ texts_before es (flat.Join e r)
last_before [] e r = refl
last_before (d ∷ es) e r = ap (flat.Join d) (last_before es e r)

joined_is : (es : List flat.Expr) (e : flat.Expr) → joined_texts (es ++ e ∷ []) ≡ texts_before es e
joined_is [] e = refl
joined_is (d ∷ []) e = refl
joined_is (d ∷ c ∷ es) e = ap (flat.Join d) (joined_is (c ∷ es) e)

-- strings, by the last of them
pub joined_last : (ts es : List flat.Expr) (e : flat.Expr) → ts ≡ es ++ e ∷ [] → texts_before es e ≡ joined_texts ts
joined_last ts es e h = sym (ap joined_texts h ∙ joined_is es e)

-- ---- arguments that print nothing

pub left_step : (c done : Checked Printed) (a : Arg) (args : List Arg) → c ≡ and_then done (arg_unprinted a)
    → and_then c (left_over args) ≡ and_then done (left_over (a ∷ args))
left_step c done a args h =
    ap (λ (x : Checked Printed). and_then x (left_over args)) h ∙ then_grouped done (arg_unprinted a) (left_over args)

-- a format, and all arguments behind it
pub all_is : (at : Place) (ss : List Piece) (args left : List Arg) (none c d : Checked Printed) → none ≡ Good ([], [])
    → c ≡ and_then none (filled at ss args) → left ≡ rest_after ss args → d ≡ and_then c (left_over left) → d ≡ all_filled at ss args
all_is at ss args left none c d n h l e =
    e ∙ (λ i. and_then ((h ∙ ap (λ (x : Checked Printed). and_then x (filled at ss args)) n ∙ then_first (filled at ss args)) i) (left_over (l i)))

-- ---- `$sformatf`

-- what follows a rule that is broken
after_broken : {A B : Type 0} (f : Fault) (r : Checked (Unit {0})) (go : A → Checked B)
    → ((Broken f where_also r) ▷ go) ≡ (Broken f where_also r)
after_broken f (Good u) go = refl
after_broken f (Broken g) go = refl

-- what it gives, by the format that its first argument is
abbrev by_format : Place → Place → List Arg → Option (List Piece) → Checked Typed
by_format at place args None = broken_at 50 place where_also values_stand args
by_format at place args (Some ss) = formatted at place ss args

format_then : (at place : Place) (args : List Arg) (f : Option (List Piece))
    → known_format place args f ▷ (λ ss. formatted at place ss args) ≡ by_format at place args f
format_then at place args None = after_broken (record { at = place; rule = 50 }) (values_stand args) (λ ss. formatted at place ss args)
format_then at place args (Some ss) = refl

by_text : (at place : Place) (t : Option (List ℕ)) (k : Taken) (args : List Arg)
    → first_format at (record { at = place; text = t; taken = k } ∷ args) ▷ made_of at (record { at = place; text = t; taken = k } ∷ args)
    ≡ sformatf at (record { at = place; text = t; taken = k } ∷ args)
by_text at place None k args =
    after_broken (record { at = place; rule = 50 }) (values_stand (record { at = place; text = None; taken = k } ∷ args)) (λ ss. formatted at place ss args)
by_text at place (Some t) k args = format_then at place args (parts_from [] None t)

-- the format, and then what it gives
pub format_first : (at : Place) (args : List Arg) → first_format at args ▷ made_of at args ≡ sformatf at args
format_first at [] = refl
format_first at (a ∷ args) = by_text at a.at a.text a.taken args

-- a format that breaks a rule
fails_then : {A B : Type 0} (e : Refusal) (c : Checked A) (go : A → Checked B) → Fails e c → Fails e (c ▷ go)
fails_then (Rule n at) c go h = ap (λ x. x ▷ go) h
fails_then Memory c go h = tt

pub format_fails : (at : Place) (args items : List Arg) (e : Refusal) → items ≡ args → Fails e (first_format at items) → Fails e (sformatf at args)
format_fails at args items e same h =
    subst (λ (c : Checked Typed). Fails e c) (format_first at args)
    (subst (λ (as' : List Arg). Fails e (first_format at as' ▷ made_of at args)) same (fails_then e (first_format at items) (made_of at args) h))

-- one that does not
pub format_whole : (at : Place) (args items : List Arg) (ss : List Piece) (r : Result Typed Refusal) → items ≡ args
    → first_format at items ≡ Good ss → Gives r (made_of at args ss) → Gives r (sformatf at args)
format_whole at args items ss r same h g =
    subst (λ (c : Checked Typed). Gives r c)
    (sym (ap (λ (c : Checked (List Piece)). c ▷ made_of at args) (ap (first_format at) (sym same) ∙ h)) ∙ format_first at args) g

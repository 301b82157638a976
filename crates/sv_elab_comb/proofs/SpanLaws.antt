-- How spans are put behind others, and what lies in them.
use Rattle.std.proofs.Common.{◌≡◌, Bool, false, List, [], ◌∷◌, ◌++◌, map, refl, sym, ap, ◌∙◌, append_assoc, append-nil}
use Rattle.std.specs.Prelude.{Option, Some, None, ◌||◌, option_map}
use Rattle.std.proofs.lemmas.Grind.{flat_map-append}
use Rattle.std.proofs.lemmas.List.{map-append}
use Rattle.sv_flat.specs.declared.target.Lvalue.{Lvalue}
use Rattle.sv_flat.specs.Expr.{Expr}
use Rattle.sv_flat.specs.Names.{optional}
use Rattle.sv_names.specs.Watched as watched
use Rattle.sv_names.specs.Watched.{is_written, covers, span_of, span_of_target, width_of_operand}
use Rattle.sv_elab_comb.specs.declared.spans.Span.{Span}
use Rattle.sv_elab_comb.specs.Spans.{span_in, spans_of, Spanned, lies_within, lies_among, covered_by, is_covered}

-- nothing is put behind
pub spanned_none : (ss : List Span) → Spanned ss ss []
spanned_none ss = sym (append-nil (map span_in ss))

-- one is put behind
pub spanned_one : (ss ts : List Span) (s : Span) (t : Option watched.Span) → ts ≡ ss ++ s ∷ [] → option_map span_in (Some s) ≡ t
    → Spanned ss ts (optional t)
spanned_one ss ts s t put is =
    ap (map span_in) put ∙ map-append span_in ss (s ∷ []) ∙ ap (λ (o : Option watched.Span). map span_in ss ++ optional o) is

-- what is put behind in a turn is what the rest begins with
pub turn_spanned : (as' bs : List Span) (xs ys : List watched.Span) → Spanned as' bs xs
    → map span_in bs ++ ys ≡ map span_in as' ++ (xs ++ ys)
turn_spanned as' bs xs ys a = ap (λ l. l ++ ys) a ∙ append_assoc (map span_in as') xs ys

-- the last turn has put all behind
pub all_spanned : (as' bs : List Span) (xs : List watched.Span) → map span_in bs ++ [] ≡ map span_in as' ++ xs → Spanned as' bs xs
all_spanned as' bs xs is = sym (append-nil (map span_in bs)) ∙ is

-- those of some targets, and then of others
pub spanned_both : (as' bs cs : List Span) (xs ys : List Lvalue) → Spanned as' bs (spans_of xs) → Spanned bs cs (spans_of ys)
    → Spanned as' cs (spans_of (xs ++ ys))
spanned_both as' bs cs xs ys p q =
    q ∙ turn_spanned as' bs (spans_of xs) (spans_of ys) p
    ∙ ap (λ l. map span_in as' ++ l) (sym (flat_map-append (λ l. optional (span_of_target l)) xs ys))

-- ---- what lies in what is written

-- without a span nothing is covered
covers_none : (e : Expr) (t : Option watched.Span) → covers e None t ≡ false
covers_none e None = refl
covers_none e (Some b) = refl

none_written : (e : Expr) (ts : List Lvalue) → span_of e ≡ None → is_written ts e ≡ false
none_written e [] none = refl
none_written e (t ∷ ts) none =
    ap (λ (o : Option watched.Span). covers e o (span_of_target t) || is_written ts e) none
    ∙ ap (λ (b : Bool). b || is_written ts e) (covers_none e (span_of_target t)) ∙ none_written e ts none

among_written : (e : Expr) (a : watched.Span) (ts : List Lvalue) → span_of e ≡ Some a
    → lies_among (width_of_operand e) a (spans_of ts) ≡ is_written ts e
among_written e a [] some = refl
among_written e a (t ∷ ts) some =
    by (span_of_target t) (among_written e a ts some)
    ∙ ap (λ (o : Option watched.Span). covers e o (span_of_target t) || is_written ts e) (sym some)
  where
    by : (o : Option watched.Span) → lies_among (width_of_operand e) a (spans_of ts) ≡ is_written ts e
        → lies_among (width_of_operand e) a (optional o ++ spans_of ts) ≡ (covers e (Some a) o || is_written ts e)
    by None rest = rest
    by (Some b) rest = ap (λ q. lies_within (width_of_operand e) a b || q) rest

-- an operand lies in one of the spans of targets, where these write it
pub covered_is : (e : Expr) (ts : List Lvalue) → is_covered (spans_of ts) e ≡ is_written ts e
covered_is e ts = by (span_of e) refl
  where
    by : (o : Option watched.Span) → span_of e ≡ o → covered_by (width_of_operand e) o (spans_of ts) ≡ is_written ts e
    by None none = sym (none_written e ts none)
    by (Some a) some = among_written e a ts some

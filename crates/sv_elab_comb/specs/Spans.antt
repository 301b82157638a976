-- What operands and targets cover, as the code keeps it.
use Rattle.std.specs.Prelude.{◌≡◌, ℕ, ℤ, Bool, false, ◌&&◌, ◌||◌, List, [], ◌∷◌, ◌++◌, Option, Some, None, ◌==◌, map, flat_map}
use Rattle.sv_flat.specs.declared.stmt.Stmt.{Stmt}
use Rattle.sv_flat.specs.declared.target.Lvalue.{Lvalue}
use Rattle.sv_flat.specs.Expr.{Expr}
use Rattle.sv_flat.specs.Names.{optional, call_targets, form_targets}
use Rattle.sv_names.specs.Watched as watched
use Rattle.sv_names.specs.Watched.{span_of, span_of_target, same_element, lies_in, width_of_operand}
use Rattle.sv_elab_comb.specs.declared.spans.Range.{Range}
use Rattle.sv_elab_comb.specs.declared.spans.Span.{Span}

-- bits of a vector
abbrev pub range_in : Option Range → Option (ℤ × ℕ)
range_in None = None
range_in (Some r) = Some (r.low, r.width)

-- an object, an element or a part of one
abbrev pub span_in : Span → watched.Span
span_in s = record { object = s.object; element = s.element; part = range_in s.part }

-- what targets cover
abbrev pub spans_of : List Lvalue → List watched.Span
spans_of ts = flat_map (λ l. optional (span_of_target l)) ts

-- the targets of a statement, and of the calls before it
abbrev pub targets_in : Stmt → List Lvalue
targets_in s = flat_map (λ c. call_targets c.form) s.calls ++ form_targets s.form

-- spans that are put behind others
abbrev pub Spanned : List Span → List Span → List watched.Span → Type 0
Spanned before after ss = map span_in after ≡ map span_in before ++ ss

-- whether a span, of an operand of such a width, lies in another one
abbrev pub lies_within : ℕ → watched.Span → watched.Span → Bool
lies_within w a b = (a.object.0 == b.object.0) && same_element b.element a.element && lies_in w a.part b.part

-- whether it lies in one of a list
abbrev pub lies_among : ℕ → watched.Span → List watched.Span → Bool
lies_among w a [] = false
lies_among w a (b ∷ bs) = lies_within w a b || lies_among w a bs

-- whether what an operand of such a width covers lies in one of a list
abbrev pub covered_by : ℕ → Option watched.Span → List watched.Span → Bool
covered_by w None bs = false
covered_by w (Some a) bs = lies_among w a bs

-- whether an operand lies in one of a list
abbrev pub is_covered : List watched.Span → Expr → Bool
is_covered bs e = covered_by (width_of_operand e) (span_of e) bs

-- System functions, formats and casts of expressions run as their types.
use Rattle.std.proofs.Common.{◌≡◌, ℕ, ◌+◌, Bool, true, false, List, [], ◌∷◌, Option, Some, None, refl, sym, subst, ap₂}
use Rattle.sv_value.specs.declared.place.Place.{Place}
use Rattle.sv_value.specs.declared.operator.Piece.{Piece}
use Rattle.sv_value.specs.declared.operator.Piece.TheVariants as piece
use Rattle.sv_value.specs.Stored.{length-symbols_of}
use Rattle.sv_flat.specs.Expr as flat
use Rattle.sv_tree.specs.declared.expr.CastType.{CastType}
use Rattle.sv_tree.specs.declared.expr.CastType.TheVariants as cast
use Rattle.sv_names.specs.declared.argument.Arg.{Arg}
use Rattle.sv_names.specs.declared.checked.Checked.{Checked}
use Rattle.sv_names.specs.declared.checked.Checked.TheVariants.{Good, Broken}
use Rattle.sv_names.specs.declared.hoisted.Hoisted.{Hoisted}
use Rattle.sv_names.specs.declared.named.Named.{Named}
use Rattle.sv_names.specs.declared.named.Named.TheVariants.{TypeName, ClassName}
use Rattle.sv_names.specs.declared.system.System.{System}
use Rattle.sv_names.specs.declared.system.System.TheVariants as system
use Rattle.sv_names.specs.declared.ty.Ty.{Ty}
use Rattle.sv_names.specs.declared.ty.Ty.TheVariants.{Vector, Text, Event, Class, Semaphore, Mailbox}
use Rattle.sv_names.specs.declared.typed.Typed.{Typed}
use Rattle.sv_names.specs.Arguments.{values_stand, all_constant}
use Rattle.sv_names.specs.Calls.{as_value, cast_called}
use Rattle.sv_names.specs.Checked.{both, ◌▷◌, given, broken_at, ◌where_also◌}
use Rattle.sv_names.specs.Expressions.{none_of, number_of_one, time_now, logarithm, signed_as, system_value, bits_literal, bits_of_value, bits_of, cast_by_name, named_cast, cast_of}
use Rattle.sv_names.specs.Formats.{Printed, parts_from, and_then, filled, rest_after, text_pieces, joined_texts, text_printed, left_over, sformatf}
use Rattle.sv_names.specs.Hoisted.{in_row}
use Rattle.sv_names.specs.Named.{Around, meaning}
use Rattle.sv_names.specs.Operators.{literal_typed, cast_to, sized, vector_word_four_state, atom_type}
use Rattle.sv_names.specs.Things.{named_thing, thing_value}
use Rattle.sv_names.specs.Types.{whole, plain_vector, is_integral, int_type, width_of_type}
use Rattle.sv_names.specs.Values.{constant_count, value_typed}
use Rattle.sv_elab_laws.specs.Fits.{Enums, IsType, RunsAs, Fits, Keeps, NameFits, AroundFits}
use Rattle.sv_elab_laws.proofs.Kept.{keeps_then, keeps_given, each_then, each_given, keeps_also, keeps_broken, if_each}
use Rattle.sv_elab_laws.proofs.FitCalls.{CalledFits, value_fits, cast_call_fits}
use Rattle.sv_elab_laws.proofs.FitCasts.{Bare, cast_fits, sized_fits}
use Rattle.sv_elab_laws.proofs.FitThings.{meaning_fits}

-- ---- `$sformatf`

-- strings have no width and no sign
abbrev AllBare : List flat.Expr → Type 0
AllBare [] = Unit {0}
AllBare (e ∷ es) = Bare e × AllBare es

pieces_bare : (ps : List Piece) (es : List flat.Expr) → AllBare (text_pieces ps es)
pieces_bare [] es = tt
pieces_bare (piece.Plain w ∷ ps) es = (record { width = refl; sign = refl }, pieces_bare ps es)
pieces_bare (piece.Field f p ∷ ps) [] = tt
pieces_bare (piece.Field f p ∷ ps) (e ∷ es) = (record { width = refl; sign = refl }, pieces_bare ps es)

joined_bare : (es : List flat.Expr) → AllBare es → Bare (joined_texts es)
joined_bare [] h = record { width = refl; sign = refl }
joined_bare (e ∷ []) h = h.0
joined_bare (e ∷ f ∷ es) h =
    let rest : Bare (joined_texts (f ∷ es)) = joined_bare (f ∷ es) h.1 in
    record { width = ap₂ (λ (v w : ℕ). v + w) h.0.width rest.width; sign = refl }

module _ (enums : Enums) where
  printed_fits : (at : Place) (b : Bool) (p : Printed) → Fits enums (value_typed Text at b (text_printed p))
  printed_fits at b p =
      let bare : Bare (joined_texts (text_pieces p.0 (in_row p.1).value)) = joined_bare _ (pieces_bare p.0 (in_row p.1).value) in
      record { is_type = tt; runs = record { width = bare.width; sign = bare.sign } }

  abbrev made : Place → Arg → List Arg → List Piece → Checked Typed
  made at a args ss =
      given (λ p. value_typed Text at (all_constant args) (text_printed p)) (and_then (filled a.at ss args) (left_over (rest_after ss args)))

  abbrev by_format : Place → Arg → List Arg → Option (List Piece) → Checked Typed
  by_format at a args None = broken_at 50 a.at where_also values_stand args
  by_format at a args (Some ss) = made at a args ss

  abbrev by_text : Place → Arg → List Arg → Option (List ℕ) → Checked Typed
  by_text at a args None = broken_at 50 a.at where_also values_stand (a ∷ args)
  by_text at a args (Some t) = by_format at a args (parts_from [] None t)

  by_format_fits : (at : Place) (a : Arg) (args : List Arg) (o : Option (List Piece)) → Keeps (Fits enums) (by_format at a args o)
  by_format_fits at a args None = keeps_also (Fits enums) (broken_at 50 a.at) _ tt
  by_format_fits at a args (Some ss) = each_given (Fits enums) _ _ (λ p. printed_fits at (all_constant args) p)

  by_text_fits : (at : Place) (a : Arg) (args : List Arg) (o : Option (List ℕ)) → Keeps (Fits enums) (by_text at a args o)
  by_text_fits at a args None = keeps_also (Fits enums) (broken_at 50 a.at) _ tt
  by_text_fits at a args (Some t) = by_format_fits at a args (parts_from [] None t)

  sformatf_fits : (at : Place) (as' : List Arg) → Keeps (Fits enums) (sformatf at as')
  sformatf_fits at [] = tt
  sformatf_fits at (a ∷ args) = by_text_fits at a args a.text

  -- ---- system functions

  -- a number of bits
  literal_fits : (at : Place) (b : Bool) (w : ℕ) (e : Hoisted flat.Expr) → e.value ≡ bits_literal w → Fits enums (value_typed int_type at b e)
  literal_fits at b w e is =
      record {
        is_type = tt;
        runs = subst (λ (x : flat.Expr). RunsAs int_type x) (sym is) (record { width = length-symbols_of 32 w 0; sign = refl });
      }

  bits_fit : (at : Place) (o : Option (Checked Ty)) (as' : List Arg) → Keeps (Fits enums) (bits_of at o as')
  bits_fit at None as' = each_given (Fits enums) (bits_of_value at) _ (λ t. literal_fits at _ (width_of_type t.ty) _ refl)
  bits_fit at (Some c) as' =
      each_then (Fits enums) _ _
      (λ a. each_then (Fits enums) c _
      (λ t. if_each (λ (d : Checked Typed). Keeps (Fits enums) d) (is_integral t) _ _ (literal_fits at true (width_of_type t) _ refl) tt))

  pub system_fits : (ar : Around) (at : Place) (t : Option (Checked Ty)) (as' : List Arg) (s : System) → Keeps (Fits enums) (system_value ar at t as' s)
  system_fits ar at t as' system.Time =
      each_then (Fits enums) (none_of at as') (λ u. Good (time_now at)) (λ u. record { is_type = tt; runs = record { width = refl; sign = refl } })
  system_fits ar at t as' system.Bits = bits_fit at t as'
  system_fits ar at t as' system.Clog2 =
      each_given (Fits enums) (logarithm at) (number_of_one at as') (λ x. record { is_type = tt; runs = record { width = refl; sign = refl } })
  system_fits ar at t as' system.Signed =
      each_given (Fits enums) (signed_as at true) (number_of_one at as') (λ x. record { is_type = tt; runs = record { width = refl; sign = refl } })
  system_fits ar at t as' system.Unsigned =
      each_given (Fits enums) (signed_as at false) (number_of_one at as') (λ x. record { is_type = tt; runs = record { width = refl; sign = refl } })
  system_fits ar at t as' system.Sformatf = sformatf_fits at as'
  system_fits ar at t as' system.Cast =
      keeps_given (CalledFits enums) (Fits enums) (as_value ar at) (cast_called ar true at as') (cast_call_fits enums ar true at as')
      (λ c f. value_fits enums ar at c f)
  system_fits ar at t as' system.Unknown = keeps_also (Fits enums) (broken_at 55 at) _ tt
  system_fits ar at t as' s = tt

  -- ---- casts

  by_name_fits : (ar : Around) (pe pn at : Place) (n : Named) (e : Checked Typed) → NameFits enums n → Keeps (Fits enums) e
      → Keeps (Fits enums) (cast_by_name ar pe pn at n e)
  by_name_fits ar pe pn at (TypeName t) e h k = keeps_then (Fits enums) (Fits enums) e (cast_to ar t pe at) k (λ x f. cast_fits enums ar t pe at x h f)
  by_name_fits ar pe pn at (ClassName p) e h k =
      keeps_then (Fits enums) (Fits enums) e (cast_to ar (Class p) pe at) k (λ x f. cast_fits enums ar (Class p) pe at x tt f)
  by_name_fits ar pe pn at n e h k =
      each_then {A = ℕ × Typed} (Fits enums) (both (named_thing ar pn n ▷ thing_value ar pn ▷ constant_count pn) e) (λ p. sized pe at p.0 p.1)
      (λ p. sized_fits enums pe at p.0 p.1)

  name_cast_fits : (ar : Around) (pe pn at : Place) (n : Checked Named) (e : Checked Typed) → Keeps (NameFits enums) n → Keeps (Fits enums) e
      → Keeps (Fits enums) (named_cast ar pe pn at n e)
  name_cast_fits ar pe pn at (Good m) e h k = by_name_fits ar pe pn at m e h k
  name_cast_fits ar pe pn at (Broken f) e h k = keeps_broken (Fits enums) f _

  module _ (ar : Around) (pe at : Place) (e : Checked Typed) (k : Keeps (Fits enums) e) where
    to_type : (t : Ty) → IsType enums t → Keeps (Fits enums) (e ▷ cast_to ar t pe at)
    to_type t h = keeps_then (Fits enums) (Fits enums) e (cast_to ar t pe at) k (λ x f. cast_fits enums ar t pe at x h f)

    pub cast_of_fits : (c : CastType) → AroundFits enums ar → Keeps (Fits enums) (cast_of ar c pe at e)
    cast_of_fits (cast.Vector p w) fit = to_type (plain_vector 1 false (vector_word_four_state w)) tt
    cast_of_fits (cast.Atom p w) fit = to_type (Vector (atom_type w) (whole (atom_type w).width) false) tt
    cast_of_fits (cast.Text p) fit = to_type Text tt
    cast_of_fits (cast.Event p) fit = to_type Event tt
    cast_of_fits (cast.Semaphore p) fit = to_type Semaphore tt
    cast_of_fits (cast.Mailbox p) fit = to_type Mailbox tt
    cast_of_fits (cast.Named n) fit = name_cast_fits ar pe n.at at (meaning ar n) e (meaning_fits enums ar n fit) k
    cast_of_fits (cast.Width p text) fit =
        each_then {A = ℕ × Typed} (Fits enums) (both (constant_count p (literal_typed p text)) e) (λ q. sized pe at q.0 q.1)
        (λ q. sized_fits enums pe at q.0 q.1)

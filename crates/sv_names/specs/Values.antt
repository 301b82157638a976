-- Constants, and values for targets, arguments and conditions (IEEE 1800-2017, 6.22, 10.8 and 11.2.1).
use Rattle.std.specs.Prelude.{ℕ, zero, suc, Bool, true, false, not, ◌&&◌, ◌||◌, List, [], ◌∷◌, Option, Some, None, Ok, Err, if◌then◌else◌, nat_lt, ℤ, pos, negsuc}
use Rattle.sv_value.specs.declared.word.Sym.TheVariants.{X}
use Rattle.sv_value.specs.declared.place.Place.{Place}
use Rattle.sv_value.specs.Vector.{Vector, unsigned, widest}
use Rattle.sv_flat.specs.declared.target.Base.TheVariants as base
use Rattle.sv_flat.specs.Expr as flat
use Rattle.sv_flat.specs.State.{View, no_value}
use Rattle.sv_flat.specs.Eval.{Valued, value_of, vector_in, text_in, known_index}
use Rattle.sv_names.specs.declared.around.ClassInfo.{ClassInfo}
use Rattle.sv_names.specs.declared.checked.Checked.{Checked}
use Rattle.sv_names.specs.declared.checked.Checked.TheVariants.{Good}
use Rattle.sv_names.specs.declared.ty.Ty.{Ty}
use Rattle.sv_names.specs.declared.ty.Ty.TheVariants.{Vector as Bit_vector, Enum, Text, Event, Class, Null}
use Rattle.sv_names.specs.declared.hoisted.Hoisted.{Hoisted}
use Rattle.sv_names.specs.declared.typed.Typed.{Typed}
use Rattle.sv_names.specs.declared.typed.Target.{Target}
use Rattle.sv_names.specs.declared.typed.Begin.TheVariants.{Value as A_value}
use Rattle.sv_names.specs.Checked.{◌▷◌, given, broken_at, rule}
use Rattle.sv_names.specs.Types.{is_integral, is_text, is_array, is_container, is_sync, is_null, is_enum, same_enum, same_type, width_of_type, sign_of_type, Path}
use Rattle.sv_names.specs.Hoisted.{mapped}
use Rattle.sv_names.specs.Named.{Around, can_be_derived}

-- ---- expressions that are no targets

-- a value that cannot be written
abbrev pub no_target : Target
no_target =
    record {
      begins = A_value;
      through = None;
      base = base.Object (record { 0 = 0 });
      part = None;
      whole = Text;
      is_item = false;
      moving = [];
    }

-- an expression that is no target
abbrev pub value_typed : Ty → Place → Bool → Hoisted flat.Expr → Typed
value_typed t at c e = record { ty = t; at = at; code = e; is_constant = c; target = no_target }

-- ---- constants

-- what constants are evaluated in: nothing
abbrev pub nowhere : View
nowhere =
    record {
      object = λ o i. no_value;
      variable = λ u p. no_value;
      name = λ u. None;
      heap = record { objects = []; containers = []; mailboxes = []; semaphores = []; events = [] };
      now = 0;
      unit = 1;
    }

-- the bits of a value
abbrev pub vector_of : Valued → Vector
vector_of (Ok v) = vector_in v
vector_of (Err k) = unsigned (X ∷ [])

-- the bits of a constant expression
abbrev pub constant_vector : Typed → Vector
constant_vector t = vector_of (value_of t.code.value nowhere)

-- a constant expression is a literal of its value; one that has none stays as it is
abbrev pub literal_of : Ty → flat.Expr → flat.Expr
literal_of t e = of_value t (value_of e nowhere)
  where
    of_value : Ty → Valued → flat.Expr
    of_value (Bit_vector i b w) (Ok v) = flat.Literal (vector_in v) None
    of_value (Enum s at i b w) (Ok v) = flat.Literal (vector_in v) None
    of_value Text (Ok v) = flat.Text (text_in v)
    of_value u r = e

-- a constant in a context of its own
abbrev pub folded : Bool → Ty → Hoisted flat.Expr → Hoisted flat.Expr
folded true t e = mapped (literal_of t) e
folded false t e = e

-- an expression that stands alone
abbrev pub alone : Typed → Hoisted flat.Expr
alone t = folded t.is_constant t.ty t.code

-- ---- E42, E15: one number

-- no whole array
abbrev pub one_item : Typed → Checked Typed
one_item t = if is_array t.ty then broken_at 42 t.at else Good t

-- a number as an operand
abbrev pub number_operand : Place → Typed → Checked Typed
number_operand at t =
    if is_array t.ty then broken_at 42 t.at else (if is_integral t.ty then Good t else broken_at 15 at)

-- E42: an index is a number
abbrev pub number_index : Place → Typed → Checked Typed
number_index at t = if is_array t.ty then broken_at 42 t.at else (if is_integral t.ty then Good t else broken_at 42 at)

-- ---- constant numbers

-- E11: an expression that must be constant (11.2.1)
abbrev pub constant : Place → Typed → Checked Typed
constant at t = if t.is_constant then Good t else broken_at 11 at

-- a known number, or the rule
abbrev pub known_or : ℕ → Place → Option ℤ → Checked ℤ
known_or n at None = broken_at n at
known_or n at (Some i) = Good i

-- E11, E15, E12: an expression that must be a constant number
abbrev pub constant_number : Place → Typed → Checked ℤ
constant_number at t =
    if not t.is_constant then broken_at 11 at
    else (if not (is_integral t.ty) then broken_at 15 at else known_or 12 at (known_index (constant_vector t)))

-- a number of at least 1
abbrev pub count_from : Place → ℤ → Checked ℕ
count_from at (pos zero) = broken_at 12 at
count_from at (pos (suc n)) = Good (suc n)
count_from at (negsuc n) = broken_at 12 at

-- E11, E12: a constant count
abbrev pub constant_count : Place → Typed → Checked ℕ
constant_count at t = constant_number at t ▷ count_from at

-- E13: no more than 64 bits
abbrev pub not_too_wide : Place → ℕ → Checked (Unit {0})
not_too_wide at w = rule 13 at (nat_lt widest w)

-- ---- E16, E17, E42: a value for a target, argument or result

-- in the context of a target
abbrev pub widened : ℕ → Typed → Hoisted flat.Expr
widened w t = if nat_lt (width_of_type t.ty) w then mapped (flat.Widen w (sign_of_type t.ty)) t.code else t.code

-- the common type of two references
abbrev pub common_reference : List ClassInfo → Ty → Ty → Option Ty
common_reference ks Null b = Some b
common_reference ks a Null = Some a
common_reference ks (Class a) (Class b) =
    if can_be_derived ks a b then Some (Class b) else (if can_be_derived ks b a then Some (Class a) else None)
common_reference ks a b = if same_type a b then Some a else None

-- E16, E42: a container for a container of its type
abbrev pub container_assigned : Ty → Place → Typed → Checked (Hoisted flat.Expr)
container_assigned to at t =
    if is_container to && is_container t.ty
    then (if same_type to t.ty then Good t.code else broken_at 16 at)
    else (if is_array t.ty then broken_at 42 t.at else broken_at 16 at)

-- E16, E17: a number for a number
abbrev pub number_assigned : Ty → Place → Typed → Checked (Hoisted flat.Expr)
number_assigned to at t =
    if not (is_integral t.ty) then broken_at 16 at
    else (if is_enum to && not (same_enum to t.ty) then broken_at 17 at
    else Good (folded t.is_constant to (widened (width_of_type to) t)))

-- E16: a value that fits
abbrev pub assigned_if : Bool → Place → Typed → Checked (Hoisted flat.Expr)
assigned_if true at t = Good (alone t)
assigned_if false at t = broken_at 16 at

-- whether a class variable takes it
abbrev pub fits_class : List ClassInfo → Path → Ty → Bool
fits_class ks p Null = true
fits_class ks p (Class q) = can_be_derived ks q p
fits_class ks p t = false

-- E16: a value by the type of its target
abbrev pub item_assigned : Around → Ty → Place → Typed → Checked (Hoisted flat.Expr)
item_assigned ar (Bit_vector i b w) at t = number_assigned (Bit_vector i b w) at t
item_assigned ar (Enum s e i b w) at t = number_assigned (Enum s e i b w) at t
item_assigned ar Text at t = assigned_if (is_text t.ty) at t
item_assigned ar (Class p) at t = assigned_if (fits_class ar.classes p t.ty) at t
item_assigned ar Event at t = assigned_if (ar.takes_events && same_type Event t.ty) at t
item_assigned ar to at t = assigned_if (is_sync to && (is_null t.ty || same_type to t.ty)) at t

-- a value for a target of a type
abbrev pub assigned : Around → Ty → Place → Typed → Checked (Hoisted flat.Expr)
assigned ar to at t = if is_array to || is_array t.ty then container_assigned to at t else item_assigned ar to at t

-- the same, as a value of exactly that type
abbrev pub converted : Ty → Hoisted flat.Expr → Hoisted flat.Expr
converted (Bit_vector i b w) e = mapped (flat.Convert i) e
converted (Enum s at i b w) e = mapped (flat.Convert i) e
converted t e = e

-- a value of exactly the type
abbrev pub exactly : Around → Ty → Place → Typed → Checked (Hoisted flat.Expr)
exactly ar to at t = given (λ e. folded t.is_constant to (converted to e)) (assigned ar to at t)

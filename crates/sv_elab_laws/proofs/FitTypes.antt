-- Types, and the expressions of the flat design that run as them.
use Rattle.std.proofs.Common.{◌≡◌, true, false, true≢false, refl, sym}
use Rattle.sv_value.specs.declared.place.Place.{Place}
use Rattle.sv_flat.specs.Expr as flat
use Rattle.sv_flat.specs.Eval.{width_of, is_signed, plain_width, plain_sign, type_width, type_sign}
use Rattle.sv_names.specs.declared.element.Element.{Element}
use Rattle.sv_names.specs.declared.element.Element.TheVariants as element
use Rattle.sv_names.specs.declared.ty.Ty.{Ty}
use Rattle.sv_names.specs.declared.ty.Ty.TheVariants.{Vector, Enum, Text, Queue, Dynamic, Assoc, Fixed}
use Rattle.sv_names.specs.declared.typed.Typed.{Typed}
use Rattle.sv_names.specs.Types.{Numbers, is_integral, is_text, is_fixed, is_container, is_array, as_type, item_of, plain_of, data_of, width_of_type, sign_of_type}
use Rattle.sv_names.specs.Values.{one_item, number_operand}
use Rattle.sv_elab_laws.specs.Fits.{Enums, IsItem, IsType, IsVariable, RunsAs, Runs, Fits, Keeps}
use Rattle.sv_elab_laws.proofs.Kept.{if_told}

-- ---- types

-- what an array holds
pub item_type : (enums : Enums) (t : Element) → IsItem enums t → IsType enums (as_type t)
item_type enums (element.Vector t b w) h = tt
item_type enums (element.Enum s at t b w) h = h
item_type enums element.Text h = tt
item_type enums (element.Class k) h = tt

pub type_of_item : (enums : Enums) (t : Ty) → IsType enums t → IsType enums (item_of t)
type_of_item enums (Queue t) h = item_type enums t h
type_of_item enums (Dynamic t) h = item_type enums t h
type_of_item enums (Assoc k t) h = item_type enums t h.1
type_of_item enums (Fixed b t) h = item_type enums t h
type_of_item enums t h = tt

-- what is no array at all
pub no_fixed : (t : Ty) → is_array t ≡ false → is_fixed t ≡ false
no_fixed (Fixed b t) isnt = absurd (true≢false isnt)
no_fixed t isnt = refl

pub no_container : (t : Ty) → is_array t ≡ false → is_container t ≡ false
no_container (Queue t) isnt = absurd (true≢false isnt)
no_container (Dynamic t) isnt = absurd (true≢false isnt)
no_container (Assoc k t) isnt = absurd (true≢false isnt)
no_container t isnt = refl

-- what has no bits
pub no_width : (t : Ty) → is_integral t ≡ false → width_of_type t ≡ 0
no_width (Vector t b w) isnt = absurd (true≢false isnt)
no_width (Enum s at t b w) isnt = absurd (true≢false isnt)
no_width t isnt = refl

pub no_sign : (t : Ty) → is_integral t ≡ false → sign_of_type t ≡ false
no_sign (Vector t b w) isnt = absurd (true≢false isnt)
no_sign (Enum s at t b w) isnt = absurd (true≢false isnt)
no_sign t isnt = refl

-- a string has none
pub text_alone : (t : Ty) → is_text t ≡ true → is_integral t ≡ false
text_alone Text is = refl
text_alone (Vector t b w) is = absurd (true≢false (sym is))
text_alone (Enum s at t b w) is = absurd (true≢false (sym is))
text_alone t is = refl

-- ---- expressions

-- what is no fixed array
pub plain_runs : (t : Ty) (e : flat.Expr) → is_fixed t ≡ false → Runs t e → RunsAs t e
plain_runs (Fixed b t) e isnt h = absurd (true≢false isnt)
plain_runs t e isnt h = h

pub runs_plain : (t : Ty) (e : flat.Expr) → is_fixed t ≡ false → RunsAs t e → Runs t e
runs_plain (Fixed b t) e isnt h = absurd (true≢false isnt)
runs_plain t e isnt h = h

-- a variable of a type
pub variable_runs : (n : Numbers) (t : Ty) (e : flat.Expr)
    → width_of e ≡ type_width (data_of n t) → is_signed e ≡ type_sign (data_of n t) → IsVariable e → Runs t e
variable_runs n (Fixed b t) e width sign is = is
variable_runs n t e width sign is = record { width = width; sign = sign }

-- a static member behind a reference
pub static_runs : (t : Ty) (r e : flat.Expr) → Runs t e → Runs t (flat.Static r e)
static_runs (Fixed b t) r e h = h
static_runs t r e h = record { width = h.width; sign = h.sign }

-- an item of an array
pub item_runs : (n : Numbers) (t : Element) (e : flat.Expr)
    → width_of e ≡ plain_width (plain_of n (as_type t)) → is_signed e ≡ plain_sign (plain_of n (as_type t)) → Runs (as_type t) e
item_runs n (element.Vector t b w) e width sign = record { width = width; sign = sign }
item_runs n (element.Enum s at t b w) e width sign = record { width = width; sign = sign }
item_runs n element.Text e width sign = record { width = width; sign = sign }
item_runs n (element.Class k) e width sign = record { width = width; sign = sign }

pub runs_as_item : (n : Numbers) (t : Ty) (e : flat.Expr)
    → width_of e ≡ plain_width (plain_of n (item_of t)) → is_signed e ≡ plain_sign (plain_of n (item_of t)) → Runs (item_of t) e
runs_as_item n (Queue t) e width sign = item_runs n t e width sign
runs_as_item n (Dynamic t) e width sign = item_runs n t e width sign
runs_as_item n (Assoc k t) e width sign = item_runs n t e width sign
runs_as_item n (Fixed b t) e width sign = item_runs n t e width sign
runs_as_item n t e width sign = record { width = width; sign = sign }

-- ---- operands

-- a typed expression that is no fixed array
pub record FitsItem (enums : Enums) (t : Typed) : Type 0 where
  pub is_type : IsType enums t.ty
  pub not_fixed : is_fixed t.ty ≡ false
  pub runs : RunsAs t.ty t.code.value

pub as_fits : (enums : Enums) (t : Typed) → FitsItem enums t → Fits enums t
as_fits enums t h = record { is_type = h.is_type; runs = runs_plain t.ty t.code.value h.not_fixed h.runs }

pub fits_item : (enums : Enums) (t : Typed) → Fits enums t → is_array t.ty ≡ false → FitsItem enums t
fits_item enums t h isnt =
    let not_fixed : is_fixed t.ty ≡ false = no_fixed t.ty isnt in
    record { is_type = h.is_type; not_fixed = not_fixed; runs = plain_runs t.ty t.code.value not_fixed h.runs }

-- one item
pub one_item_fits : (enums : Enums) (t : Typed) → Fits enums t → Keeps (FitsItem enums) (one_item t)
one_item_fits enums t h =
    if_told (λ c. Keeps (FitsItem enums) c) (is_array t.ty) _ _ (λ is. tt) (λ isnt. fits_item enums t h isnt)

-- a number
pub number_fits : (enums : Enums) (at : Place) (t : Typed) → Fits enums t → Keeps (FitsItem enums) (number_operand at t)
number_fits enums at t h =
    if_told (λ c. Keeps (FitsItem enums) c) (is_array t.ty) _ _ (λ is. tt)
    (λ isnt. if_told (λ c. Keeps (FitsItem enums) c) (is_integral t.ty) _ _ (λ is. fits_item enums t h isnt) (λ other. tt))

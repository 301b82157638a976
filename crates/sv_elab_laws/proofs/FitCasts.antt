-- Casts of what runs as its type.
use Rattle.std.proofs.Common.{◌≡◌, ℕ, Bool, true, false, true≢false, ◌&&◌, ◌||◌, List, Ok, Err, refl, sym, ◌∙◌}
use Rattle.sv_value.specs.declared.place.Place.{Place}
use Rattle.sv_value.specs.declared.val.Integral.{Integral}
use Rattle.sv_flat.specs.Expr as flat
use Rattle.sv_flat.specs.Eval.{Valued, width_of, is_signed, value_of, text_in}
use Rattle.sv_names.specs.declared.around.ClassInfo.{ClassInfo}
use Rattle.sv_names.specs.declared.checked.Checked.{Checked}
use Rattle.sv_names.specs.declared.hoisted.Hoisted.{Hoisted}
use Rattle.sv_names.specs.declared.ty.Ty.{Ty}
use Rattle.sv_names.specs.declared.ty.Ty.TheVariants.{Vector, Enum, Text, Event, Class, Semaphore, Mailbox, MailboxOf}
use Rattle.sv_names.specs.declared.typed.Typed.{Typed}
use Rattle.sv_names.specs.Checked.{◌▷◌, given}
use Rattle.sv_names.specs.Named.{Around}
use Rattle.sv_names.specs.Operators.{number_cast, cast_to, sized}
use Rattle.sv_names.specs.Types.{Path, is_integral, is_text, is_array, is_container, is_null, same_type}
use Rattle.sv_names.specs.Values.{value_typed, nowhere, literal_of, folded, alone, one_item, not_too_wide, container_assigned, assigned_if, fits_class, item_assigned, assigned}
use Rattle.sv_elab_laws.specs.Fits.{Enums, IsType, Runs, Fits, Keeps}
use Rattle.sv_elab_laws.proofs.Kept.{keeps_then, keeps_given, each_then, if_told, if_each}
use Rattle.sv_elab_laws.proofs.FitTypes.{no_container, no_width, no_sign, text_alone, fits_item, FitsItem}
use Rattle.sv_elab_laws.proofs.SameEnums.{and_second}

-- ---- what has no bits

-- an expression without width and sign
pub record Bare (e : flat.Expr) : Type 0 where
  pub width : width_of e ≡ 0
  pub sign : is_signed e ≡ false

abbrev text_or : flat.Expr → Valued → flat.Expr
text_or e (Ok v) = flat.Text (text_in v)
text_or e (Err k) = e

bare_text : (e : flat.Expr) (r : Valued) → Bare e → Bare (text_or e r)
bare_text e (Ok v) h = record { width = refl; sign = refl }
bare_text e (Err k) h = h

bare_literal : (u : Ty) (e : flat.Expr) → is_integral u ≡ false → Bare e → Bare (literal_of u e)
bare_literal (Vector t b w) e isnt h = absurd (true≢false isnt)
bare_literal (Enum s at t b w) e isnt h = absurd (true≢false isnt)
bare_literal Text e isnt h = bare_text e (value_of e nowhere) h
bare_literal u e isnt h = h

bare_folded : (b : Bool) (u : Ty) (e : Hoisted flat.Expr) → is_integral u ≡ false → Bare e.value → Bare (folded b u e).value
bare_folded true u e isnt h = bare_literal u e.value isnt h
bare_folded false u e isnt h = h

pub bare_alone : (enums : Enums) (x : Typed) → FitsItem enums x → is_integral x.ty ≡ false → Bare (alone x).value
bare_alone enums x h isnt =
    bare_folded x.is_constant x.ty x.code isnt
    (record { width = h.runs.width ∙ no_width x.ty isnt; sign = h.runs.sign ∙ no_sign x.ty isnt })

-- ---- what may be given to what has no bits

class_alone : (ks : List ClassInfo) (p : Path) (u : Ty) → fits_class ks p u ≡ true → is_integral u ≡ false
class_alone ks p (Vector t b w) is = absurd (true≢false (sym is))
class_alone ks p (Enum s at t b w) is = absurd (true≢false (sym is))
class_alone ks p u is = refl

event_alone : (u : Ty) → same_type Event u ≡ true → is_integral u ≡ false
event_alone (Vector t b w) is = absurd (true≢false (sym is))
event_alone (Enum s at t b w) is = absurd (true≢false (sym is))
event_alone u is = refl

typed_alone : (m u : Ty) → is_integral m ≡ false → (is_null u || same_type m u) ≡ true → is_integral u ≡ false
typed_alone m (Vector t b w) isnt is = absurd (true≢false (by m isnt is))
  where
    by : (m : Ty) → is_integral m ≡ false → same_type m (Vector t b w) ≡ true → true ≡ false
    by (Vector t' b' w') isnt is = isnt
    by m isnt is = sym is
typed_alone m (Enum s at t b w) isnt is = absurd (true≢false (by m isnt is))
  where
    by : (m : Ty) → is_integral m ≡ false → same_type m (Enum s at t b w) ≡ true → true ≡ false
    by (Enum s' at' t' b' w') isnt is = isnt
    by m isnt is = sym is
typed_alone m u isnt is = refl

module _ (enums : Enums) (ar : Around) (at : Place) (x : Typed) (h : FitsItem enums x) where
  -- where the test holds
  if_assigned : (to : Ty) (b : Bool) → ((e : flat.Expr) → Bare e → Runs to e) → (b ≡ true → is_integral x.ty ≡ false)
      → Keeps (λ (c : Hoisted flat.Expr). Runs to c.value) (assigned_if b at x)
  if_assigned to true bare isnt = bare (alone x).value (bare_alone enums x h (isnt refl))
  if_assigned to false bare isnt = tt

  item_fits : (to : Ty) → is_integral to ≡ false → Keeps (λ (c : Hoisted flat.Expr). Runs to c.value) (item_assigned ar to at x)
  item_fits (Vector t b w) isnt = absurd (true≢false isnt)
  item_fits (Enum s e t b w) isnt = absurd (true≢false isnt)
  item_fits Text isnt = if_assigned Text (is_text x.ty) (λ e z. record { width = z.width; sign = z.sign }) (text_alone x.ty)
  item_fits (Class p) isnt =
      if_assigned (Class p) (fits_class ar.classes p x.ty) (λ e z. record { width = z.width; sign = z.sign }) (class_alone ar.classes p x.ty)
  item_fits Event isnt =
      if_assigned Event (ar.takes_events && same_type Event x.ty) (λ e z. record { width = z.width; sign = z.sign })
      (λ is. event_alone x.ty (and_second ar.takes_events (same_type Event x.ty) is))
  item_fits Semaphore isnt =
      if_assigned Semaphore (is_null x.ty || same_type Semaphore x.ty) (λ e z. record { width = z.width; sign = z.sign }) (typed_alone Semaphore x.ty refl)
  item_fits Mailbox isnt =
      if_assigned Mailbox (is_null x.ty || same_type Mailbox x.ty) (λ e z. record { width = z.width; sign = z.sign }) (typed_alone Mailbox x.ty refl)
  item_fits (MailboxOf t) isnt =
      if_assigned (MailboxOf t) (is_null x.ty || same_type (MailboxOf t) x.ty) (λ e z. record { width = z.width; sign = z.sign })
      (typed_alone (MailboxOf t) x.ty refl)
  item_fits to isnt = tt

  -- no array is given to an array here
  container_fits : (P : Hoisted flat.Expr → Type 0) (to : Ty) → is_array x.ty ≡ false → Keeps P (container_assigned to at x)
  container_fits P to isnt =
      if_told (λ (c : Checked (Hoisted flat.Expr)). Keeps P c) (is_container to && is_container x.ty) _ _
      (λ is. absurd (true≢false (sym (and_second (is_container to) (is_container x.ty) is) ∙ no_container x.ty isnt)))
      (λ other. if_each (λ (c : Checked (Hoisted flat.Expr)). Keeps P c) (is_array x.ty) _ _ tt tt)

  assigned_fits : (to : Ty) → is_integral to ≡ false → is_array x.ty ≡ false → Keeps (λ (c : Hoisted flat.Expr). Runs to c.value) (assigned ar to at x)
  assigned_fits to isnt item =
      if_each (λ (c : Checked (Hoisted flat.Expr)). Keeps (λ (c : Hoisted flat.Expr). Runs to c.value) c) (is_array to || is_array x.ty) _ _
      (container_fits (λ (c : Hoisted flat.Expr). Runs to c.value) to item) (item_fits to isnt)

module _ (enums : Enums) where
  -- ---- casts to a type

  -- what one item is
  item_told : (t : Typed) → Fits enums t → Keeps (λ (x : Typed). FitsItem enums x × (is_array x.ty ≡ false)) (one_item t)
  item_told t h =
      if_told (λ (c : Checked Typed). Keeps (λ (x : Typed). FitsItem enums x × (is_array x.ty ≡ false)) c) (is_array t.ty) _ _
      (λ is. tt) (λ isnt. (fits_item enums t h isnt, isnt))

  -- to what has no bits
  other_cast : (ar : Around) (to : Ty) (pe at : Place) (t : Typed) → is_integral to ≡ false → IsType enums to → Fits enums t
      → Keeps (Fits enums) (one_item t ▷ (λ x. given (λ c. value_typed to pe x.is_constant c) (assigned ar to at x)))
  other_cast ar to pe at t isnt is_type h =
      keeps_then (λ (x : Typed). FitsItem enums x × (is_array x.ty ≡ false)) (Fits enums) (one_item t) _ (item_told t h)
      (λ x f. keeps_given (λ (c : Hoisted flat.Expr). Runs to c.value) (Fits enums) (λ c. value_typed to pe x.is_constant c) (assigned ar to at x)
      (assigned_fits enums ar at x f.0 to isnt f.1) (λ c runs. record { is_type = is_type; runs = runs }))

  number_fits : (to : Ty) (i : Integral) (pe at : Place) (t : Typed) → IsType enums to → ((e : flat.Expr) → Runs to (flat.Convert i e))
      → Keeps (Fits enums) (number_cast to i pe at t)
  number_fits to i pe at t is_type runs =
      each_then (Fits enums) (one_item t) _
      (λ x. if_each (λ (c : Checked Typed). Keeps (Fits enums) c) (is_integral x.ty) _ _ (record { is_type = is_type; runs = runs _ }) tt)

  pub cast_fits : (ar : Around) (to : Ty) (pe at : Place) (t : Typed) → IsType enums to → Fits enums t → Keeps (Fits enums) (cast_to ar to pe at t)
  cast_fits ar (Vector i b w) pe at t is_type h = number_fits (Vector i b w) i pe at t is_type (λ e. record { width = refl; sign = refl })
  cast_fits ar (Enum s e i b w) pe at t is_type h = number_fits (Enum s e i b w) i pe at t is_type (λ e. record { width = refl; sign = refl })
  cast_fits ar to pe at t is_type h = other_cast ar to pe at t refl is_type h

  -- to a width
  pub sized_fits : (pe at : Place) (n : ℕ) (t : Typed) → Keeps (Fits enums) (sized pe at n t)
  sized_fits pe at n t =
      each_then (Fits enums) (not_too_wide pe n) _
      (λ u. each_then (Fits enums) (one_item t) _
      (λ x. if_each (λ (c : Checked Typed). Keeps (Fits enums) c) (is_integral x.ty) _ _
      (record { is_type = tt; runs = record { width = refl; sign = refl } }) tt))

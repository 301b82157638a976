-- Values that are given to targets keep the calls of the expressions that they are made of.
use Rattle.std.proofs.Common.{◌≡◌, Bool, true, false, List, [], ◌∷◌, ◌++◌, refl, ap, sym, ◌∙◌, append-nil}
use Rattle.std.specs.Prelude.{Some, not, ◌&&◌, ◌||◌, if◌then◌else◌, nat_lt}
use Rattle.sv_value.specs.declared.place.Place.{Place}
use Rattle.sv_flat.specs.declared.target.Lvalue.{Lvalue}
use Rattle.sv_flat.specs.Expr as flat
use Rattle.sv_names.specs.declared.checked.Checked.{Checked}
use Rattle.sv_names.specs.declared.checked.Checked.TheVariants.{Good, Broken}
use Rattle.sv_names.specs.declared.hoisted.Hoisted.{Hoisted}
use Rattle.sv_names.specs.declared.ty.Ty.{Ty}
use Rattle.sv_names.specs.declared.ty.Ty.TheVariants.{Vector, Enum, Text, Class, Event}
use Rattle.sv_names.specs.declared.typed.Typed.{Typed}
use Rattle.sv_names.specs.Calls.{as_inout, written_argument}
use Rattle.sv_names.specs.Checked.{◌▷◌, broken_at, ◌where_also◌}
use Rattle.sv_names.specs.Hoisted.{mapped}
use Rattle.sv_names.specs.Named.{Around}
use Rattle.sv_names.specs.Targets.{Spot, lvalues, joined_reads, read_of, takes}
use Rattle.sv_names.specs.Types.{is_integral, is_text, is_array, is_container, is_sync, is_null, is_enum, same_enum, same_type, width_of_type, sign_of_type}
use Rattle.sv_names.specs.Values.{folded, widened, container_assigned, number_assigned, assigned_if, fits_class, item_assigned, assigned}
use Rattle.sv_elab_call.specs.Passing as passing

-- ---- values

-- the calls of another part
pub record HasCallsOf {A B : Type 0} (b : Hoisted B) (a : Hoisted A) : Type 0 where
  pub hidden : b.hidden ≡ a.hidden
  pub calls : b.calls ≡ a.calls

abbrev KeepsCalls : Typed → Checked (Hoisted flat.Expr) → Type 0
KeepsCalls t (Good e) = HasCallsOf e t.code
KeepsCalls t (Broken f) = Unit {0}

same_calls : {A : Type 0} (a : Hoisted A) → HasCallsOf a a
same_calls a = record { hidden = refl; calls = refl }

keeps_if : (t : Typed) (b : Bool) (x y : Checked (Hoisted flat.Expr)) → KeepsCalls t x → KeepsCalls t y → KeepsCalls t (if b then x else y)
keeps_if t true x y p q = p
keeps_if t false x y p q = q

folded_keeps : (t : Typed) (b : Bool) (to : Ty) (e : Hoisted flat.Expr) → HasCallsOf e t.code → KeepsCalls t (Good (folded b to e))
folded_keeps t true to e h = record { hidden = h.hidden; calls = h.calls }
folded_keeps t false to e h = h

wider_keeps : (t : Typed) (b : Bool) (f : flat.Expr → flat.Expr) → HasCallsOf (if b then mapped f t.code else t.code) t.code
wider_keeps t true f = record { hidden = refl; calls = refl }
wider_keeps t false f = same_calls t.code

number_keeps : (to : Ty) (at : Place) (t : Typed) → KeepsCalls t (number_assigned to at t)
number_keeps to at t =
    let code : KeepsCalls t (Good (folded t.is_constant to (widened (width_of_type to) t))) =
    folded_keeps t t.is_constant to (widened (width_of_type to) t) (wider_keeps t (nat_lt (width_of_type t.ty) (width_of_type to)) (flat.Widen (width_of_type to) (sign_of_type t.ty))) in
    by_tests (is_integral t.ty) (is_enum to) (same_enum to t.ty) code
  where
    by_tests : (b c d : Bool) → KeepsCalls t (Good (folded t.is_constant to (widened (width_of_type to) t)))
        → KeepsCalls t (if not b then broken_at 16 at else (if c && not d then broken_at 17 at else Good (folded t.is_constant to (widened (width_of_type to) t))))
    by_tests true true true k = k
    by_tests true true false k = tt
    by_tests true false d k = k
    by_tests false c d k = tt

container_keeps : (to : Ty) (at : Place) (t : Typed) → KeepsCalls t (container_assigned to at t)
container_keeps to at t =
    keeps_if t (is_container to && is_container t.ty)
    (if same_type to t.ty then Good t.code else broken_at 16 at)
    (if is_array t.ty then broken_at 42 t.at else broken_at 16 at)
    (keeps_if t (same_type to t.ty) (Good t.code) (broken_at 16 at) (same_calls t.code) tt)
    (keeps_if t (is_array t.ty) (broken_at 42 t.at) (broken_at 16 at) tt tt)

fits_keeps : (b : Bool) (at : Place) (t : Typed) → KeepsCalls t (assigned_if b at t)
fits_keeps true at t = folded_keeps t t.is_constant t.ty t.code (same_calls t.code)
fits_keeps false at t = tt

item_keeps : (ar : Around) (to : Ty) (at : Place) (t : Typed) → KeepsCalls t (item_assigned ar to at t)
item_keeps ar (Vector i b w) at t = number_keeps (Vector i b w) at t
item_keeps ar (Enum s e i b w) at t = number_keeps (Enum s e i b w) at t
item_keeps ar Text at t = fits_keeps (is_text t.ty) at t
item_keeps ar (Class p) at t = fits_keeps (fits_class ar.classes p t.ty) at t
item_keeps ar Event at t = fits_keeps (ar.takes_events && same_type Event t.ty) at t
item_keeps ar to at t = fits_keeps (is_sync to && (is_null t.ty || same_type to t.ty)) at t

assigned_keeps : (ar : Around) (to : Ty) (at : Place) (t : Typed) → KeepsCalls t (assigned ar to at t)
assigned_keeps ar to at t =
    keeps_if t (is_array to || is_array t.ty) (container_assigned to at t) (item_assigned ar to at t) (container_keeps to at t) (item_keeps ar to at t)

-- ---- targets

-- a target as it is read has the calls of the target as it is written
joined_has : (ar : Around) (t : Typed) (ss : List Spot)
    → ((joined_reads t ss).hidden ≡ t.code.hidden ++ (lvalues ar ss).hidden) × ((joined_reads t ss).calls ≡ t.code.calls ++ (lvalues ar ss).calls)
joined_has ar t [] = (sym (append-nil t.code.hidden), sym (append-nil t.code.calls))
joined_has ar t (s ∷ ss) =
    let rest = joined_has ar s.1 ss in
    (ap (λ hs. t.code.hidden ++ hs) rest.0, ap (λ cs. t.code.calls ++ cs) rest.1)

read_has : (ar : Around) (at : Place) (ss : List Spot) → HasCallsOf (read_of at ss).code (lvalues ar ss)
read_has ar at [] = record { hidden = refl; calls = refl }
read_has ar at (s ∷ []) = record { hidden = sym (append-nil s.1.code.hidden); calls = sym (append-nil s.1.code.calls) }
read_has ar at (s ∷ r ∷ ss) =
    let rest = joined_has ar s.1 (r ∷ ss) in
    record { hidden = rest.0; calls = rest.1 }

beside_is : (t : Typed) (ls : Hoisted (List Lvalue)) (c : Checked (Hoisted flat.Expr)) (r : Checked (Unit {0})) → KeepsCalls t c → HasCallsOf t.code ls
    → (c where_also r) ▷ (λ e. Good (passing.as_inout ls.value e)) ≡ (c where_also r) ▷ (λ e. Good (as_inout ls e))
beside_is t ls (Good e) (Good u) k h =
    λ i. Good (record { hidden = (k.hidden ∙ h.hidden) i; calls = (k.calls ∙ h.calls) i; value = record { value = Some e.value; targets = Some ls.value } })
beside_is t ls (Good e) (Broken g) k h = refl
beside_is t ls (Broken f) (Good u) k h = refl
beside_is t ls (Broken f) (Broken g) k h = refl

-- an inout has the calls of its target once
pub inout_is : (ar : Around) (at : Place) (t : Ty) (ss : List Spot) → passing.inout_of ar at t ss ≡ written_argument ar true at t ss
inout_is ar at t ss = beside_is (read_of at ss) (lvalues ar ss) (assigned ar t at (read_of at ss)) (takes ar at t ss) (assigned_keeps ar t at (read_of at ss)) (read_has ar at ss)

-- Selects of what runs as its type.
use Rattle.std.proofs.Common.{◌≡◌, ℕ, ◌+◌, Bool, true, false, ℤ, pos, ◌-ℤ◌, nat_abs, refl, ◌==◌}
use Rattle.std.proofs.lemmas.Bool.Decides.{Decides-eqb}
use Rattle.sv_value.specs.declared.place.Place.{Place}
use Rattle.sv_value.specs.declared.val.Plain.{Plain}
use Rattle.sv_flat.specs.declared.object.Bounds.{Bounds}
use Rattle.sv_flat.specs.Expr as flat
use Rattle.sv_flat.specs.Eval.{width_of, is_signed, plain_width, plain_sign}
use Rattle.sv_tree.specs.declared.word.PartWord.{PartWord}
use Rattle.sv_tree.specs.declared.word.PartWord.TheVariants as part
use Rattle.sv_names.specs.declared.checked.Checked.{Checked}
use Rattle.sv_names.specs.declared.checked.Checked.TheVariants.{Good, Broken}
use Rattle.sv_names.specs.declared.element.Element.{Element}
use Rattle.sv_names.specs.declared.hoisted.Hoisted.{Hoisted}
use Rattle.sv_names.specs.declared.ty.Ty.{Ty}
use Rattle.sv_names.specs.declared.ty.Ty.TheVariants.{Fixed}
use Rattle.sv_names.specs.declared.typed.Typed.{Typed}
use Rattle.sv_names.specs.Checked.{both, ◌▷◌, broken_at, ◌where_also◌}
use Rattle.sv_names.specs.Named.{Around}
use Rattle.sv_names.specs.Selects.{lowest_back, number_typed, is_descending, with_bits, selected_at, selected, bit_of, fixed_part, part_of, item_expr, element_expr, item_selected, index_for, select_of, part_select_of}
use Rattle.sv_names.specs.Types.{Numbers, is_array, is_four_state, plain_vector, as_type, plain_of}
use Rattle.sv_names.specs.Values.{constant_number, number_index, constant_count, not_too_wide}
use Rattle.sv_elab_laws.specs.Fits.{Enums, IsType, IsVariable, Runs, Fits, Keeps}
use Rattle.sv_elab_laws.proofs.Kept.{keeps_then, each_then, each_given, keeps_both, keeps_also, if_told, if_each}
use Rattle.sv_elab_laws.proofs.FitTypes.{item_type, type_of_item, static_runs, item_runs, runs_as_item}

-- ---- items

-- an element of a fixed array
element_runs : (n : Numbers) (b : Bounds) (t : Element) (e i : flat.Expr) → IsVariable e → Runs (as_type t) (element_expr b (plain_of n (as_type t)) e i)
element_runs n b t (flat.Object at o u) i is = item_runs n t _ refl refl
element_runs n b t (flat.Local up p u) i is = item_runs n t _ refl refl
element_runs n b t (flat.Field p u e) i is = item_runs n t _ refl refl
element_runs n b t (flat.Static r e) i is = static_runs (as_type t) r (element_expr b (plain_of n (as_type t)) e i) (element_runs n b t e i is)
element_runs n b t e i is = absurd is

-- an item of a container
item_width : (t : Plain) (e i : flat.Expr) → width_of (item_expr t e i) ≡ plain_width t
item_width t (flat.Field p u e) i = refl
item_width t e i = refl

item_sign : (t : Plain) (e i : flat.Expr) → is_signed (item_expr t e i) ≡ plain_sign t
item_sign t (flat.Field p u e) i = refl
item_sign t e i = refl

module _ (enums : Enums) where
  item_fits : (ar : Around) (pi : Place) (a : Typed) (steady : Bool) (i : Hoisted flat.Expr) (t : Ty)
      → Fits enums a → IsType enums t → Runs t a.code.value → Fits enums (item_selected ar pi a t steady i)
  item_fits ar pi a steady i (Fixed b t) h is_type runs =
      record { is_type = item_type enums t is_type; runs = element_runs ar.numbers b t a.code.value i.value runs }
  item_fits ar pi a steady i t h is_type runs =
      record {
        is_type = type_of_item enums a.ty h.is_type;
        runs = runs_as_item ar.numbers a.ty _ (item_width _ a.code.value i.value) (item_sign _ a.code.value i.value);
      }

  -- ---- bits

  bits_fit : (w : ℕ) (offset : ℤ) (falling : Bool) (pi : Place) (a i : Typed) → Fits enums (selected_at w offset falling pi a i)
  bits_fit w offset falling pi a i =
      record {
        is_type = if_each (λ (t : Ty). IsType enums t) (w == 1) (plain_vector 1 false (is_four_state a.ty)) (plain_vector w false (is_four_state a.ty)) tt tt;
        runs = if_told (λ (t : Ty). Runs t (selected_at w offset falling pi a i).code.value) (w == 1)
            (plain_vector 1 false (is_four_state a.ty)) (plain_vector w false (is_four_state a.ty))
            (λ is. record { width = (Decides-eqb w 1).0 is; sign = refl }) (λ isnt. record { width = refl; sign = refl });
      }

  selected_fits : (w : ℕ) (back : ℤ) (pi : Place) (b : Bounds) (a i : Typed) → Fits enums (selected w back pi b a i)
  selected_fits w back pi b a i = if_each (λ (t : Typed). Fits enums t) (is_descending b) _ _ (bits_fit w _ false pi a i) (bits_fit w _ true pi a i)

  bit_fits : (at pi : Place) (a : Typed) (i : Checked Typed) → Keeps (Fits enums) (bit_of at pi a i)
  bit_fits at pi a i =
      each_given (Fits enums) (λ (p : (Bounds × Typed) × Typed). selected 1 (pos 0) pi p.0.0 p.0.1 p.1) (both (with_bits at a) (i ▷ number_index pi))
      (λ p. selected_fits 1 (pos 0) pi p.0.0 p.0.1 p.1)

  ends_fit : (at pe pl : Place) (b : Bounds) (a : Typed) (l r : ℤ) → Keeps (Fits enums) (fixed_part at pe pl b a l r)
  ends_fit at pe pl b a l r =
      let w : ℕ = nat_abs (l -ℤ r) + 1 in
      keeps_also (Fits enums) _ _ (keeps_also (Fits enums) (Good (selected w (pos 0) pl b a (number_typed pl r))) _
      (selected_fits w (pos 0) pl b a (number_typed pl r)))

  part_fits : (w : PartWord) (at pe pl pr : Place) (a : Typed) (l r : Checked Typed) → Keeps (Fits enums) (part_of w at pe pl pr a l r)
  part_fits part.Fixed at pe pl pr a l r =
      each_then {A = (Bounds × Typed) × (ℤ × ℤ)} (Fits enums) (both (with_bits at a) (both (l ▷ constant_number pl) (r ▷ constant_number pr)))
      (λ p. fixed_part at pe pl p.0.0 p.0.1 p.1.0 p.1.1) (λ p. ends_fit at pe pl p.0.0 p.0.1 p.1.0 p.1.1)
  part_fits w at pe pl pr a l r =
      each_then {A = (Bounds × Typed) × (Typed × ℕ)} (Fits enums) (both (with_bits at a) (both (l ▷ number_index pl) (r ▷ constant_count pr)))
      (λ p. Good (selected p.1.1 (lowest_back w p.0.0 p.1.1) pl p.0.0 p.0.1 p.1.0) where_also not_too_wide pe p.1.1)
      (λ p. keeps_also (Fits enums) (Good (selected p.1.1 (lowest_back w p.0.0 p.1.1) pl p.0.0 p.0.1 p.1.0)) (not_too_wide pe p.1.1)
      (selected_fits p.1.1 (lowest_back w p.0.0 p.1.1) pl p.0.0 p.0.1 p.1.0))

  -- ---- either

  any : {A : Type 0} (c : Checked A) → Keeps (λ (x : A). Unit {0}) c
  any (Good x) = tt
  any (Broken f) = tt

  -- `[i]`
  pub select_fits : (ar : Around) (at pi : Place) (a : Typed) (i : Checked Typed) → Fits enums a → Keeps (Fits enums) (select_of ar at pi a i)
  select_fits ar at pi a i h =
      if_each (λ (c : Checked Typed). Keeps (Fits enums) c) (is_array a.ty) _ _
      (each_then (Fits enums) _ _
      (λ x. each_given (Fits enums) (item_selected ar pi a a.ty x.is_constant) (index_for ar a.ty pi x)
      (λ j. item_fits ar pi a x.is_constant j a.ty h h.is_type h.runs)))
      (bit_fits at pi a i)

  -- `[l:r]` and its kin
  pub part_select_fits : (w : PartWord) (at pe pl pr : Place) (a : Typed) (l r : Checked Typed) → Keeps (Fits enums) (part_select_of w at pe pl pr a l r)
  part_select_fits w at pe pl pr a l r =
      if_each (λ (c : Checked Typed). Keeps (Fits enums) c) (is_array a.ty) _ _
      (keeps_then (λ (p : Typed × (Typed × Typed)). Fits enums p.0 × Unit {0}) (Fits enums) (both (broken_at 14 at) (both l r)) (λ p. Good p.0)
      (keeps_both (Fits enums) (λ (p : Typed × Typed). Unit {0}) (broken_at 14 at) (both l r) tt (any (both l r))) (λ p f. f.0))
      (part_fits w at pe pl pr a l r)

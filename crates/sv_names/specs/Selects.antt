-- Selects of bits, parts and items (IEEE 1800-2017, 7.4 to 7.10 and 11.5), as values and as targets.
use Rattle.std.specs.Prelude.{ℕ, ◌+◌, Bool, true, false, not, ◌&&◌, List, ◌∷◌, Option, Some, None, if◌then◌else◌, ◌==◌, ℤ, pos, ◌+ℤ◌, ◌-ℤ◌, int_lt, int_le, nat_abs}
use Rattle.sv_value.specs.declared.word.Sym.{Sym}
use Rattle.sv_value.specs.declared.word.Sym.TheVariants.{Zero, X}
use Rattle.sv_value.specs.declared.place.Place.{Place}
use Rattle.sv_value.specs.declared.val.Plain.{Plain}
use Rattle.sv_value.specs.Vector.{vector}
use Rattle.sv_value.specs.Operators.{integer_symbols}
use Rattle.sv_flat.specs.declared.object.Bounds.{Bounds}
use Rattle.sv_flat.specs.declared.target.Base.{Base}
use Rattle.sv_flat.specs.declared.target.Base.TheVariants as base
use Rattle.sv_flat.specs.declared.target.Container.{Container}
use Rattle.sv_flat.specs.Expr as flat
use Rattle.sv_tree.specs.declared.word.PartWord.{PartWord}
use Rattle.sv_tree.specs.declared.word.PartWord.TheVariants as part
use Rattle.sv_names.specs.declared.checked.Checked.{Checked}
use Rattle.sv_names.specs.declared.checked.Checked.TheVariants.{Good}
use Rattle.sv_names.specs.declared.ty.Ty.{Ty}
use Rattle.sv_names.specs.declared.ty.Ty.TheVariants.{Assoc, Fixed}
use Rattle.sv_names.specs.declared.hoisted.Hoisted.{Hoisted}
use Rattle.sv_names.specs.declared.typed.Typed.{Typed}
use Rattle.sv_names.specs.declared.typed.Target.{Target}
use Rattle.sv_names.specs.Checked.{both, ◌▷◌, given, broken_at, rule, ◌where_also◌}
use Rattle.sv_names.specs.Types.{is_integral, is_text, is_array, is_container, bounds_of, is_four_state, plain_vector, item_of, plain_of, as_type}
use Rattle.sv_names.specs.Hoisted.{pure, paired}
use Rattle.sv_names.specs.Named.{Around}
use Rattle.sv_names.specs.Values.{value_typed, number_index, constant_number, constant_count, not_too_wide, alone, exactly}

-- whether the bits count down
abbrev pub is_descending : Bounds → Bool
is_descending b = int_le b.right b.left

-- E14: what is selected of has bits
abbrev pub with_bits : Place → Typed → Checked (Bounds × Typed)
with_bits at t = found (bounds_of t.ty)
  where
    found : Option Bounds → Checked (Bounds × Typed)
    found None = broken_at 14 at
    found (Some b) = Good (b, t)

-- the symbol outside a vector
abbrev pub outside_of : Ty → Sym
outside_of t = if is_four_state t then X else Zero

-- one more select that is not constant
abbrev pub moving_with : Bool → Place → List Place → List Place
moving_with true at ps = ps
moving_with false at ps = at ∷ ps

-- a part of a target
abbrev pub part_target : ℕ → ℤ → Bool → Place → Typed → Target → Target
part_target w offset falling pi i t =
    record t {
      part = Some (record { width = w; offset = offset; is_falling = falling; index = (alone i).value });
      moving = moving_with i.is_constant pi t.moving;
    }

-- so many bits, the lowest at an offset plus the index, or minus it
abbrev pub selected_at : ℕ → ℤ → Bool → Place → Typed → Typed → Typed
selected_at w offset falling pi a i =
    record {
      ty = if w == 1 then plain_vector 1 false (is_four_state a.ty) else plain_vector w false (is_four_state a.ty);
      at = a.at;
      is_constant = a.is_constant && i.is_constant;
      code = paired (flat.Select w offset falling (outside_of a.ty)) a.code (alone i);
      target = part_target w offset falling pi i a.target;
    }

-- so many bits, the lowest at the index less `back`
abbrev pub selected : ℕ → ℤ → Place → Bounds → Typed → Typed → Typed
selected w back pi b a i =
    if is_descending b then selected_at w (pos 0 -ℤ (b.right +ℤ back)) false pi a i
    else selected_at w (b.right +ℤ back) true pi a i

-- a select of one bit
abbrev pub bit_of : Place → Place → Typed → Checked Typed → Checked Typed
bit_of at pi a i = given (λ p. selected 1 (pos 0) pi p.0.0 p.0.1 p.1) (both (with_bits at a) (i ▷ number_index pi))

-- a bound as an index
abbrev pub number_typed : Place → ℤ → Typed
number_typed at i =
    value_typed (plain_vector 64 true false) at true (pure (flat.Literal (vector true (integer_symbols 64 i)) None))

-- `[l:r]` runs as its vector does
abbrev pub fixed_part : Place → Place → Place → Bounds → Typed → ℤ → ℤ → Checked Typed
fixed_part at pe pl b a l r =
    Good (selected (nat_abs (l -ℤ r) + 1) (pos 0) pl b a (number_typed pl r))
    where_also rule 14 at (if is_descending b then int_lt l r else int_lt r l)
    where_also not_too_wide pe (nat_abs (l -ℤ r) + 1)

-- `[b +: w]` and `[b -: w]`: the lowest bit stands at b or at b - (w - 1), counted from the low end
abbrev pub lowest_back : PartWord → Bounds → ℕ → ℤ
lowest_back part.Up b w = if is_descending b then pos 0 else pos 0 -ℤ (pos w -ℤ pos 1)
lowest_back _ b w = if is_descending b then pos w -ℤ pos 1 else pos 0

-- a select of several bits
abbrev pub part_of : PartWord → Place → Place → Place → Place → Typed → Checked Typed → Checked Typed → Checked Typed
part_of part.Fixed at pe pl pr a l r =
    both (with_bits at a) (both (l ▷ constant_number pl) (r ▷ constant_number pr))
    ▷ (λ p. fixed_part at pe pl p.0.0 p.0.1 p.1.0 p.1.1)
part_of word at pe pl pr a l r =
    both (with_bits at a) (both (l ▷ number_index pl) (r ▷ constant_count pr))
    ▷ (λ p. Good (selected p.1.1 (lowest_back word p.0.0 p.1.1) pl p.0.0 p.0.1 p.1.0) where_also not_too_wide pe p.1.1)

-- ---- items of arrays

-- the container that an expression stands for
abbrev pub container_of : flat.Expr → Container
container_of (flat.Field p t e) = record { holder = e; property = Some p }
container_of e = record { holder = e; property = None }

-- an item of a container
abbrev pub item_expr : Plain → flat.Expr → flat.Expr → flat.Expr
item_expr t (flat.Field p u e) i = flat.Item (Some p) t e i
item_expr t e i = flat.Item None t e i

-- an element of a fixed array
abbrev pub element_expr : Bounds → Plain → flat.Expr → flat.Expr → flat.Expr
element_expr b t (flat.Object at o u) i = flat.Element at o b t i
element_expr b t (flat.Local up p u) i = flat.LocalElement up p b t i
element_expr b t (flat.Field p u e) i = flat.FieldElement p b t e i
element_expr b t (flat.Static r e) i = flat.Static r (element_expr b t e i)
element_expr b t e i = e

-- an element as a target
abbrev pub element_base : Bounds → flat.Expr → flat.Expr → Base
element_base b (flat.Object at o t) i = base.Element o b i
element_base b (flat.Local up p t) i = base.LocalElement up p b i
element_base b (flat.Field p t e) i = base.FieldElement e p b i
element_base b (flat.Static r e) i = element_base b e i
element_base b e i = base.Object (record { 0 = 0 })

-- an item as a target
abbrev pub item_base : flat.Expr → flat.Expr → Base
item_base c i = base.Item (container_of c) i

-- E42, E17: the key of an associative array
abbrev pub key_for : Around → Ty → Place → Typed → Checked (Hoisted flat.Expr)
key_for ar k pi i =
    if is_array i.ty then broken_at 42 i.at
    else (if is_text k then (if is_text i.ty then Good (alone i) else broken_at 42 pi)
    else (if not (is_integral i.ty) then broken_at 42 pi
    else exactly ar k pi i))

-- the index of an array
abbrev pub index_for : Around → Ty → Place → Typed → Checked (Hoisted flat.Expr)
index_for ar (Assoc k t) pi i = key_for ar (as_type k) pi i
index_for ar t pi i = given alone (number_index pi i)

-- an item of a container, as a value and as a target
abbrev pub item_typed : Around → Place → Typed → Bool → Hoisted flat.Expr → Typed
item_typed ar pi a steady i =
    record {
      ty = item_of a.ty;
      at = a.at;
      is_constant = false;
      code = paired (item_expr (plain_of ar.numbers (item_of a.ty))) a.code i;
      target = record a.target {
        base = item_base a.code.value i.value;
        part = None;
        whole = item_of a.ty;
        is_item = true;
        moving = moving_with steady pi a.target.moving;
      };
    }

-- an element of a fixed array, as a value and as a target
abbrev pub element_typed : Around → Place → Bounds → Ty → Typed → Bool → Hoisted flat.Expr → Typed
element_typed ar pi b t a steady i =
    record {
      ty = t;
      at = a.at;
      is_constant = false;
      code = paired (element_expr b (plain_of ar.numbers t)) a.code i;
      target = record a.target {
        base = element_base b a.code.value i.value;
        part = None;
        whole = t;
        moving = moving_with steady pi a.target.moving;
      };
    }

-- an item or an element
abbrev pub item_selected : Around → Place → Typed → Ty → Bool → Hoisted flat.Expr → Typed
item_selected ar pi a (Fixed b t) steady i = element_typed ar pi b (as_type t) a steady i
item_selected ar pi a t steady i = item_typed ar pi a steady i

-- `[i]` after what has items or bits (E51: what is printed later names no item)
abbrev pub select_of : Around → Place → Place → Typed → Checked Typed → Checked Typed
select_of ar at pi a i =
    if is_array a.ty
    then (i where_also rule 51 a.at (ar.is_printed_later && is_container a.ty))
    ▷ (λ x. given (item_selected ar pi a a.ty x.is_constant) (index_for ar a.ty pi x))
    else bit_of at pi a i

-- E14: an array has no parts
abbrev pub part_select_of : PartWord → Place → Place → Place → Place → Typed → Checked Typed → Checked Typed → Checked Typed
part_select_of w at pe pl pr a l r =
    if is_array a.ty then both (broken_at 14 at) (both l r) ▷ (λ p. Good p.0) else part_of w at pe pl pr a l r

-- Selects of bits and items, piece by piece (IEEE 1800-2017, 7.4 to 7.10 and 11.5).
use Rattle.std.specs.Prelude.{ℕ, ◌+◌, Bool, true, false, ◌&&◌, Some, None, if◌then◌else◌, ◌==◌, ℤ, pos, ◌+ℤ◌, ◌-ℤ◌, int_lt, nat_abs}
use Rattle.sv_value.specs.declared.place.Place.{Place}
use Rattle.sv_flat.specs.declared.object.Bounds.{Bounds}
use Rattle.sv_flat.specs.declared.target.Base.{Base}
use Rattle.sv_flat.specs.declared.target.Part.{Part}
use Rattle.sv_flat.specs.Expr as flat
use Rattle.sv_tree.specs.declared.word.PartWord.{PartWord}
use Rattle.sv_names.specs.declared.checked.Checked.{Checked}
use Rattle.sv_names.specs.declared.checked.Checked.TheVariants.{Good}
use Rattle.sv_names.specs.declared.ty.Ty.{Ty}
use Rattle.sv_names.specs.declared.typed.Typed.{Typed}
use Rattle.sv_names.specs.declared.typed.Target.{Target}
use Rattle.sv_names.specs.declared.hoisted.Hoisted.{Hoisted}
use Rattle.sv_names.specs.Checked.{both, ◌▷◌, given, broken_at, rule, ◌where_also◌}
use Rattle.sv_names.specs.Types.{is_text, is_container, is_four_state, plain_vector}
use Rattle.sv_names.specs.Named.{Around}
use Rattle.sv_names.specs.Values.{number_index, constant_count, not_too_wide, alone}
use Rattle.sv_names.specs.Selects.{is_descending, with_bits, moving_with, selected, lowest_back, item_selected, index_for}

-- the type of so many bits
abbrev pub bits_type : ℕ → Ty → Ty
bits_type w t = if w == 1 then plain_vector 1 false (is_four_state t) else plain_vector w false (is_four_state t)

-- a target with a part, by an index that may move
abbrev pub with_part : Part → (steady : Bool) → Place → Target → Target
with_part p steady at t = record t { part = Some p; moving = moving_with steady at t.moving }

-- what the index counts from
abbrev pub offset_from : Bounds → ℤ → ℤ
offset_from b back = if is_descending b then pos 0 -ℤ (b.right +ℤ back) else b.right +ℤ back

-- E13, E14: the ends of a part run as its vector does, and are not too far from each other
abbrev pub ends_stand : Place → Place → Bounds → ℤ → ℤ → Checked (Unit {0})
ends_stand at pe b l r =
    rule 14 at (if is_descending b then int_lt l r else int_lt r l)
    where_also not_too_wide pe (nat_abs (l -ℤ r) + 1)

-- a part of a width whose place may move
abbrev pub moving_part : PartWord → Place → Place → Place → Place → Typed → Checked Typed → Checked Typed → Checked Typed
moving_part word at pe pl pr a l r =
    both (with_bits at a) (both (l ▷ number_index pl) (r ▷ constant_count pr))
    ▷ (λ p. Good (selected p.1.1 (lowest_back word p.0.0 p.1.1) pl p.0.0 p.0.1 p.1.0) where_also not_too_wide pe p.1.1)

-- an item of a container as a target
abbrev pub item_target : Base → Ty → (steady : Bool) → Place → Target → Target
item_target b t steady at g =
    record g { base = b; part = None; whole = t; is_item = true; moving = moving_with steady at g.moving }

-- an element of a fixed array as a target
abbrev pub element_target : Base → Ty → (steady : Bool) → Place → Target → Target
element_target b t steady at g = record g { base = b; part = None; whole = t; moving = moving_with steady at g.moving }

-- E42: the key of an array whose keys are strings
abbrev pub text_key : Place → Typed → Checked (Hoisted flat.Expr)
text_key at i = if is_text i.ty then Good (alone i) else broken_at 42 at

-- E42: the index of an array that is counted
abbrev pub counted_index : Place → Typed → Checked (Hoisted flat.Expr)
counted_index at i = given alone (number_index at i)

-- an item or an element by its index
abbrev pub array_item : Around → Place → Typed → Typed → Checked Typed
array_item ar at a i = given (item_selected ar at a a.ty i.is_constant) (index_for ar a.ty at i)

-- E51: what is printed later names no item
abbrev pub lasts : Around → Typed → Checked (Unit {0})
lasts ar a = rule 51 a.at (ar.is_printed_later && is_container a.ty)

-- Targets: what may be written, and where (IEEE 1800-2017, 10.3, 10.4 and 14.16).
use Rattle.std.specs.Prelude.{ℕ, ◌+◌, true, false, not, ◌||◌, is_some, List, [], ◌∷◌, None, if◌then◌else◌, map, length}
use Rattle.sv_value.specs.declared.place.Place.{Place}
use Rattle.sv_flat.specs.declared.target.Lvalue.{Lvalue}
use Rattle.sv_flat.specs.Expr as flat
use Rattle.sv_names.specs.declared.typed.How.{How}
use Rattle.sv_names.specs.declared.typed.How.TheVariants.{Statement as By_statement, Nonblocking, Drive, Continuous}
use Rattle.sv_names.specs.declared.checked.Checked.{Checked}
use Rattle.sv_names.specs.declared.checked.Checked.TheVariants.{Good, Broken}
use Rattle.sv_names.specs.declared.ty.Ty.{Ty}
use Rattle.sv_names.specs.declared.hoisted.Hoisted.{Hoisted}
use Rattle.sv_names.specs.declared.typed.Begin.{Begin}
use Rattle.sv_names.specs.declared.typed.Begin.TheVariants.{Variable as A_variable, Net as A_net, Input as An_input, Parameter as A_parameter, Item as An_item, Result as A_result, Signal as A_signal, Object as The_object, Value as A_value}
use Rattle.sv_names.specs.declared.typed.Typed.{Typed}
use Rattle.sv_names.specs.Checked.{◌▷◌, broken_at, rule, fine, ◌where_also◌, all, only}
use Rattle.sv_names.specs.Types.{is_integral, is_array, is_fixed, width_of_type, plain_vector, data_of}
use Rattle.sv_names.specs.Hoisted.{pure, paired, in_row, mapped}
use Rattle.sv_names.specs.Named.{Around}
use Rattle.sv_names.specs.Values.{not_too_wide, value_typed, assigned}

-- a part of a target, where it begins
abbrev pub Spot : Type 0
Spot = Place × Typed

-- E18, E19, E21, E26, E47: what a target begins with
abbrev pub may_begin : How → (at : Place) → Typed → Begin → Checked (Unit {0})
may_begin Continuous at t (A_net p) = fine
may_begin h at t (A_net p) = broken_at 21 at
may_begin h at t An_input = broken_at 19 at
may_begin h at t A_parameter = broken_at 19 at
may_begin h at t An_item = broken_at 18 at
may_begin h at t The_object = broken_at 18 at
may_begin h at t A_value = broken_at 18 at
may_begin Drive at t (A_signal b i o) = rule 47 t.at (not o || is_some t.target.part)
may_begin h at t (A_signal b i o) = broken_at 47 t.at
may_begin Continuous at t (A_variable p) = rule 18 at t.target.is_item
may_begin Nonblocking at t (A_variable p) = rule 26 at t.target.is_item
may_begin Drive at t (A_variable p) = rule 26 at t.target.is_item
may_begin By_statement at t b = fine
may_begin Continuous at t A_result = broken_at 18 at
may_begin h at t A_result = rule 26 at t.target.is_item
may_begin Continuous at t b = broken_at 18 at
may_begin h at t b = broken_at 26 at

-- E11: the selects of a continuous target are constant
abbrev pub selects_stand : How → List Place → Checked (Unit {0})
selects_stand Continuous ps = all (λ p. broken_at 11 p) ps
selects_stand h ps = fine

-- E42: no target is a whole fixed array
abbrev pub may_be_written : How → Place → Typed → Checked Spot
may_be_written h at t =
    (if is_fixed t.ty then broken_at 42 t.at else (Good (at, t) where_also may_begin h at t t.target.begins))
    where_also selects_stand h t.target.moving

-- E42, E15: a part of a concatenation is a number
abbrev pub in_concatenation : Spot → Checked (Unit {0})
in_concatenation s = if is_array s.1.ty then broken_at 42 s.1.at else rule 15 s.0 (not (is_integral s.1.ty))

-- the width of a concatenation
abbrev pub widths : List Spot → ℕ
widths [] = 0
widths (s ∷ ss) = width_of_type s.1.ty + widths ss

-- E13: a concatenation of targets, no wider than a vector (11.4.12)
abbrev pub concatenated : Place → List Spot → Checked (List Spot)
concatenated at ss = all in_concatenation ss ▷ (λ _. Good ss where_also not_too_wide at (widths ss))

-- ---- what is written, and how it is read

-- a part of a target in the flat design
abbrev pub lvalue : Around → Typed → Hoisted Lvalue
lvalue ar t =
    mapped (λ e. record {
      at = t.at;
      through = t.target.through;
      base = t.target.base;
      part = t.target.part;
      ty = data_of ar.numbers t.target.whole;
    })
    t.code

-- all parts of a target
abbrev pub lvalues : Around → List Spot → Hoisted (List Lvalue)
lvalues ar ss = in_row (map (λ s. lvalue ar s.1) ss)

-- how many hidden variables the parts of a target take
abbrev pub hidden_of_spots : List Spot → ℕ
hidden_of_spots [] = 0
hidden_of_spots (s ∷ ss) = length s.1.code.hidden + hidden_of_spots ss

-- the same of a target that may break rules
abbrev pub hidden_in_target : Checked (List Spot) → ℕ
hidden_in_target (Good ss) = hidden_of_spots ss
hidden_in_target (Broken f) = 0

-- the type that a value is given to
abbrev pub type_of_target : List Spot → Ty
type_of_target (s ∷ []) = s.1.ty
type_of_target ss = plain_vector (widths ss) false true

-- the parts as they are read
abbrev pub joined_reads : Typed → List Spot → Hoisted flat.Expr
joined_reads t [] = t.code
joined_reads t (s ∷ ss) = paired flat.Join t.code (joined_reads s.1 ss)

-- the value that stands in a target
abbrev pub read_of : Place → List Spot → Typed
read_of at [] = value_typed (plain_vector 1 false false) at false (pure (flat.Handle None))
read_of at (s ∷ []) = s.1
read_of at (s ∷ r ∷ ss) = value_typed (type_of_target (s ∷ r ∷ ss)) at false (joined_reads s.1 (r ∷ ss))

-- a part that has the same calls as another, which stand once
abbrev pub beside : {A B C : Type 0} → (A → B → C) → Hoisted A → Hoisted B → Hoisted C
beside f a b = record { hidden = a.hidden; calls = a.calls; value = f a.value b.value }

-- E16, E17: a value of this type can be given to the target
abbrev pub takes : Around → Place → Ty → List Spot → Checked (Unit {0})
takes ar at t (s ∷ []) = only (assigned ar s.1.ty at (value_typed t at false (pure (flat.Handle None))))
takes ar at t ss = rule 16 at (not (is_integral t))

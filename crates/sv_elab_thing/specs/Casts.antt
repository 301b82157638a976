-- Casts over what their parts give: to what is no number, and to a width (IEEE 1800-2017, 6.24.1).
use Rattle.std.specs.Prelude.{ℕ, false, List, if◌then◌else◌}
use Rattle.sv_value.specs.declared.place.Place.{Place}
use Rattle.sv_value.specs.declared.val.Integral.{Integral}
use Rattle.sv_tree.specs.declared.word.Name.{Name}
use Rattle.sv_tree.specs.declared.word.VectorWord.{VectorWord}
use Rattle.sv_names.specs.declared.checked.Checked.{Checked}
use Rattle.sv_names.specs.declared.named.Named.{Named}
use Rattle.sv_names.specs.declared.ty.Ty.{Ty}
use Rattle.sv_names.specs.declared.ty.Ty.TheVariants.{Vector}
use Rattle.sv_names.specs.declared.typed.Typed.{Typed}
use Rattle.sv_names.specs.Checked.{both, ◌▷◌, given}
use Rattle.sv_names.specs.Expressions.{named_cast}
use Rattle.sv_names.specs.Named.{Around, meaning}
use Rattle.sv_names.specs.Operators.{literal_typed, number_cast, sized, vector_word_four_state}
use Rattle.sv_names.specs.Things.{named_thing, thing_value}
use Rattle.sv_names.specs.Types.{is_integral, integral_or, plain_vector, whole}
use Rattle.sv_names.specs.Values.{value_typed, constant_count, assigned, one_item}

-- the type of `bit`, `logic` or `reg`
abbrev pub word_type : VectorWord → Ty
word_type w = plain_vector 1 false (vector_word_four_state w)

-- the type of all bits of an integral type
abbrev pub whole_type : Integral → Ty
whole_type i = Vector i (whole i.width) false

-- E16, E17, E42: a value as one of a type that is no number
abbrev pub assigned_as : Around → Ty → Place → Place → Typed → Checked Typed
assigned_as ar to pe at t = one_item t ▷ (λ x. given (λ c. value_typed to pe x.is_constant c) (assigned ar to at x))

-- a cast to a type, by whether it is a number
abbrev pub cast_as : Around → Ty → Place → Place → Typed → Checked Typed
cast_as ar to pe at t = if is_integral to then number_cast to (integral_or to) pe at t else assigned_as ar to pe at t

-- E11, E12: the width that a number tells
abbrev pub width_written : Place → List ℕ → Checked ℕ
width_written at text = constant_count at (literal_typed at text)

-- a cast to a width that may break a rule
abbrev pub sized_by : Place → Place → Checked ℕ → Checked Typed → Checked Typed
sized_by pe at n e = both n e ▷ (λ p. sized pe at p.0 p.1)

-- E7, E11, E12, E15: the width that a name tells
abbrev pub width_named : Around → Place → Named → Checked ℕ
width_named ar at n = named_thing ar at n ▷ thing_value ar at ▷ constant_count at

-- a cast to a name
abbrev pub cast_to_name : Around → Name → Place → Place → Checked Typed → Checked Typed
cast_to_name ar n pe at e = named_cast ar pe n.at at (meaning ar n) e

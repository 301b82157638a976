-- The arrays that dimensions make (IEEE 1800-2017, 7.4 to 7.10).
use Rattle.sv_tree.specs.declared.word.Name.{Name}
use Rattle.sv_tree.specs.Types.{Range}
use Rattle.sv_names.specs.declared.checked.Checked.{Checked}
use Rattle.sv_names.specs.declared.element.Element.{Element}
use Rattle.sv_names.specs.declared.ty.Ty.{Ty}
use Rattle.sv_names.specs.declared.ty.Ty.TheVariants.{Queue, Dynamic, Assoc, Fixed}
use Rattle.sv_names.specs.Checked.{both, ◌▷◌, given}
use Rattle.sv_names.specs.Declarations.{bound, bounds, dimension_named}
use Rattle.sv_names.specs.Named.{Around, meaning}
use Rattle.sv_elab_type.specs.declared.dimensions.Shape.{Shape}
use Rattle.sv_elab_type.specs.declared.dimensions.Shape.TheVariants as shape

-- the array of what it holds
abbrev pub shape_in : Shape → Element → Ty
shape_in shape.Dynamic = λ t. Dynamic t
shape_in shape.Queue = λ t. Queue t
shape_in (shape.Fixed b) = Fixed b
shape_in (shape.Keyed k) = Assoc k

-- E11, E12, E15: an array with bounds
abbrev pub bounded_array : Around → Range → Checked (Element → Ty)
bounded_array ar r = given (λ q. Fixed (bounds q.0 q.1)) (both (bound ar r.left) (bound ar r.right))

-- E6, E7: what a name alone in brackets makes
abbrev pub by_name : Around → Name → Checked (Element → Ty)
by_name ar n = meaning ar n ▷ dimension_named ar n

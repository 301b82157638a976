-- All parts of a class, in steps (IEEE 1800-2017, 8).
use Rattle.std.specs.Prelude.{List}
use Rattle.sv_flat.specs.declared.class.Class.{Class}
use Rattle.sv_flat.specs.declared.object.Object.{Object}
use Rattle.sv_tree.specs.Classes as tree_class
use Rattle.sv_names.specs.declared.around.ClassInfo.{ClassInfo}
use Rattle.sv_names.specs.declared.checked.Checked.{Checked}
use Rattle.sv_names.specs.Checked.{both, given, ◌where_also◌}
use Rattle.sv_names.specs.Classes.{ClassParts, class_stands, flat_class}
use Rattle.sv_names.specs.Items.{GivenParts, class_given}
use Rattle.sv_names.specs.Joined as lists
use Rattle.sv_names.specs.Named.{Around}
use Rattle.sv_names.specs.Subroutines.{MadeSubroutine}
use Rattle.sv_names.specs.Types.{Path}
use Rattle.sv_elab_member.specs.Methods.{constructor_alone, all_methods}
use Rattle.sv_elab_member.specs.Statics.{all_statics}

-- objects, subroutines and the class, as parts of a class
abbrev pub parts_of : Class → List Object × List MadeSubroutine → ClassParts
parts_of c p = record { objects = p.0; subroutines = p.1; class = c }

-- what they give
abbrev pub given_by : Path → Class → Checked (List Object) → Checked (List MadeSubroutine) → Checked GivenParts
given_by k c os ms = given (λ p. class_given k (parts_of c p)) (both os ms)

-- its constructor, and then its methods
abbrev pub subroutines_of : Around → ClassInfo → List tree_class.ClassItem → Checked (List MadeSubroutine)
subroutines_of i k is = lists.joined (constructor_alone i k is) (all_methods i k is)

-- what it gives, whose members stand in `i`
abbrev pub class_inside : Around → Around → ClassInfo → tree_class.Class → Checked GivenParts
class_inside ar i k c =
    given_by k.path (flat_class ar k) (all_statics i k c.items) (subroutines_of i k c.items) where_also class_stands i k c

-- What all instances of a design stand on, and what one of them declares.
use Rattle.std.specs.Prelude.{◌≡◌, Bool, true, false, ◌||◌, List, [], ◌∷◌, map}
use Rattle.sv_tree.specs.Descriptions.{Description}
use Rattle.sv_tree.specs.Items as tree_item
use Rattle.sv_tree.specs.Items.{Item, DesignElement}
use Rattle.sv_tree.specs.UnitView.{description}
use Rattle.sv_names.specs.declared.checked.Checked.{Checked}
use Rattle.sv_names.specs.Entries.{Entry}
use Rattle.sv_names.specs.Groups.{Group, heads_of, settled_group}
use Rattle.sv_names.specs.Instances.{Givens, file_entries, names_stand, unit_entries}
use Rattle.sv_names.specs.Named.{Around}
use Rattle.sv_names.specs.Types.{Path}
use Rattle.sv_names.specs.Views.{around_in}
use Rattle.sv_elab_walk.specs.declared.making.Ground.{Ground}

-- the descriptions
abbrev pub units_in : Ground → List Description
units_in g = map description g.units.now

-- what stands around the units
abbrev pub files_in : Ground → Around
files_in g = around_in g.files.now

-- whether an item declares a class
abbrev pub is_class : Item → Bool
is_class (tree_item.Class c) = true
is_class i = false

-- whether one of these does
abbrev pub some_class : List Item → Bool
some_class [] = false
some_class (i ∷ is) = is_class i || some_class is

-- declarations outside that tell the same of the bases of the classes among these items
abbrev pub ServesAs : List Entry → List Entry → List Item → Type 0
ServesAs es outer is = (p : Path) (own : List Entry) → heads_of p own es is ≡ heads_of p own outer is

-- the scope and the classes of an instance with these values, and what their names break
pub record IsBody (us : List Description) (ar : Around) (p : Path) (u : DesignElement) (gs : Givens) (g : Group) (stands : Checked (Unit {0})) : Type 0 where
  pub settled : g ≡ settled_group ar p (unit_entries p u gs) (heads_of p (unit_entries p u gs) (file_entries us) u.items)
  pub names : stands ≡ names_stand (unit_entries p u gs) (heads_of p (unit_entries p u gs) (file_entries us) u.items)

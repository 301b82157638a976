-- Classes as they are written, with their bases (IEEE 1800-2017, 8.13).
use Rattle.std.specs.Prelude.{ℕ, List, [], ◌∷◌, ◌++◌, Option, Some, None}
use Rattle.sv_tree.specs.Classes.{Class}
use Rattle.sv_tree.specs.Descriptions as tree_description
use Rattle.sv_tree.specs.Descriptions.{Description}
use Rattle.sv_tree.specs.Items as tree_item
use Rattle.sv_tree.specs.Items.{Item}
use Rattle.sv_tree.specs.UnitView.{class}
use Rattle.sv_names.specs.Entries.{Entry}
use Rattle.sv_names.specs.Groups as groups
use Rattle.sv_names.specs.Groups.{class_among, raw_base, base_stands}
use Rattle.sv_names.specs.Named.{nearest}
use Rattle.sv_names.specs.Types.{Path}
use Rattle.sv_elab_class.specs.declared.bases.Base.{Base}
use Rattle.sv_elab_class.specs.declared.bases.Base.TheVariants as base
use Rattle.sv_elab_class.specs.declared.heads.ClassHead.{ClassHead}

-- the class that a name is declared as
abbrev pub base_in : Base → Option Path
base_in (base.Class p n) = Some (p.now ++ n.now.text ∷ [])
base_in base.NoClass = None

-- what the name of a base is declared as, in the scope itself or around it
abbrev pub base_among : List ℕ → List Entry → List Entry → Option (Option Path)
base_among x own outer = nearest (class_among x own) (class_among x outer)

-- the class, where it is one
abbrev pub path_of : Option (Option Path) → Option Path
path_of None = None
path_of (Some p) = p

-- a class with its base
abbrev pub head_in : ClassHead → groups.Head
head_in h = record { path = h.path; tree = class h.tree.now; raw = h.raw; stands = h.stands }

-- a class with its base, by what the scope itself and those around it declare
abbrev pub head_of : Path → List Entry → List Entry → Class → groups.Head
head_of p own outer c =
    record { path = p ++ c.name.text ∷ []; tree = c; raw = raw_base own outer c.base; stands = base_stands own outer c.base }

-- the class that an item declares
abbrev pub head_if : Path → List Entry → List Entry → Item → List groups.Head
head_if p own outer (tree_item.Class c) = head_of p own outer c ∷ []
head_if p own outer i = []

-- the class that a description declares outside units
abbrev pub head_outside : List Entry → Description → List groups.Head
head_outside own (tree_description.Item i) = head_if [] own [] i
head_outside own d = []

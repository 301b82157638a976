-- What the scope of the files breaks, in parts.
use Rattle.std.specs.Prelude.{List, [], ◌∷◌, filter, if◌then◌else◌}
use Rattle.sv_tree.specs.Descriptions.{Description}
use Rattle.sv_names.specs.declared.checked.Checked.{Checked}
use Rattle.sv_names.specs.declared.checked.Checked.TheVariants.{Good}
use Rattle.sv_names.specs.Checked.{◌where_also◌}
use Rattle.sv_names.specs.Classes.{announcements_stand, bases_stand}
use Rattle.sv_names.specs.Entries.{Entry, twice}
use Rattle.sv_names.specs.Groups.{Group, heads_of}
use Rattle.sv_names.specs.Instances.{file_entries, file_heads, outside}
use Rattle.sv_names.specs.Items.{GivenParts, nothing, is_no_item, files_differ}
use Rattle.sv_names.specs.Scopes.{known_stand}

-- a declaration that is no item of an enum
abbrev pub kept_of : Entry → List Entry
kept_of e = if is_no_item e then e ∷ [] else []

-- E1: two units or items of files have one name
abbrev pub units_differ : List Description → Checked (Unit {0})
units_differ us = twice (λ e. 1) [] (filter is_no_item (file_entries us))

-- E5, E58: what the names of declarations break
abbrev pub names_stand : List Entry → Checked (Unit {0})
names_stand es = twice (λ e. 5) [] es where_also announcements_stand es

-- E6, E33: the bases of classes outside units with these declarations
abbrev pub bases_in : List Entry → List Description → Checked (Unit {0})
bases_in es us = bases_stand (heads_of [] es [] (outside us))

-- what the declarations outside units break by their names
abbrev pub files_stand : List Description → Checked (Unit {0})
files_stand us = units_differ us where_also names_stand (file_entries us) where_also bases_in (file_entries us) us

-- what the scope of the files breaks
abbrev pub file_scope : List Description → Group → Checked GivenParts
file_scope us g =
    Good nothing where_also known_stand g.scope.known where_also files_differ (file_entries us)
    where_also announcements_stand (file_entries us) where_also bases_stand (file_heads us)

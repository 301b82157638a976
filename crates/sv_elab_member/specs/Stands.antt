-- The rules on a class by itself, in steps (IEEE 1800-2017, 8.21, 8.27 and 23.9).
use Rattle.std.specs.Prelude.{Bool, not, ◌&&◌, []}
use Rattle.sv_tree.specs.Classes as tree_class
use Rattle.sv_names.specs.declared.around.ClassInfo.{ClassInfo}
use Rattle.sv_names.specs.declared.checked.Checked.{Checked}
use Rattle.sv_names.specs.Checked.{◌where_also◌}
use Rattle.sv_names.specs.Classes.{announcements_stand, some_left}
use Rattle.sv_names.specs.Entries.{twice, class_entries}
use Rattle.sv_names.specs.Named.{Around}
use Rattle.sv_names.specs.Scopes.{known_stand}

-- what its declarations break
abbrev pub names_stand : ClassInfo → tree_class.Class → Checked (Unit {0})
names_stand k c =
    known_stand k.scope.known where_also twice (λ e. 5) [] (class_entries k.path c)
    where_also announcements_stand (class_entries k.path c)

-- whether it has objects and keeps a pure method
abbrev pub is_left : Around → ClassInfo → Bool
is_left ar k = not k.is_virtual && some_left ar k k.slots

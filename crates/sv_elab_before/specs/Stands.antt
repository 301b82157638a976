-- What the declarations of subroutines break, in steps (IEEE 1800-2017, 8.21, 13 and 23.9).
use Rattle.std.specs.Prelude.{[], Option}
use Rattle.sv_tree.specs.Units.{Method}
use Rattle.sv_names.specs.declared.checked.Checked.{Checked}
use Rattle.sv_names.specs.declared.named.Callee.{Callee}
use Rattle.sv_names.specs.declared.scope.Scope.{Scope}
use Rattle.sv_names.specs.Checked.{◌where_also◌}
use Rattle.sv_names.specs.Entries.{twice}
use Rattle.sv_names.specs.Named.{Around}
use Rattle.sv_names.specs.Scopes.{known_stand, callee_stands, all_entries}
use Rattle.sv_names.specs.Types.{Path}

-- what a scope and a head break
abbrev pub head_stands : Scope → Callee → Checked (Unit {0})
head_stands s c = known_stand s.known where_also callee_stands c

-- E5: a name that is declared twice
abbrev pub names_stand : Around → Option Path → Method → Checked (Unit {0})
names_stand ar k m = twice (λ e. 5) [] (all_entries ar k m)

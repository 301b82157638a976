-- What declarations stand for where they hold references.
use Rattle.std.specs.Prelude.{true, false, [], ◌∷◌, ◌++◌, Option, Some, map, option_map}
use Rattle.sv_tree.specs.Types.{WrittenType}
use Rattle.sv_tree.specs.Stmt.{Dimension}
use Rattle.sv_tree.specs.View.{expr}
use Rattle.sv_tree.specs.StmtView.{range, type, implied, dimension}
use Rattle.sv_tree.specs.UnitView.{head, routine, clocking_item}
use Rattle.sv_names.specs.Entries as entries
use Rattle.sv_elab_scope.specs.declared.declared.Source.{Source}
use Rattle.sv_elab_scope.specs.declared.declared.Source.TheVariants as sources
use Rattle.sv_elab_scope.specs.declared.declared.Storage.{Storage}
use Rattle.sv_elab_scope.specs.declared.declared.Storage.TheVariants as storage
use Rattle.sv_elab_scope.specs.declared.declared.Declared.{Declared}
use Rattle.sv_elab_scope.specs.declared.declared.Declared.TheVariants as declared
use Rattle.sv_elab_scope.specs.declared.declared.Entry.{Entry}

-- the value of a parameter
abbrev pub source_in : Source → entries.Source
source_in (sources.Own e) = entries.Own (expr e.now)
source_in (sources.Given at t) = entries.Given at t.now

-- a variable by what holds it
abbrev pub variable_in : Storage → WrittenType → Option Dimension → entries.Declared
variable_in storage.Static w d = entries.A_variable w d
variable_in storage.Activation w d = entries.A_local w d
variable_in (storage.Object k p) w d = entries.A_property k.now p w d
variable_in (storage.Class k p) w d = entries.A_static_property k.now p w d

-- what a declaration declares
abbrev pub declared_in : Declared → entries.Declared
declared_in (declared.Variable s t d) = variable_in s (type t.now) (option_map dimension d.now)
declared_in (declared.Argument t auto) = entries.An_argument (implied t.now) auto
declared_in (declared.Given t) = entries.A_given t.now
declared_in (declared.Net s r) = entries.A_net s (option_map range r.now)
declared_in (declared.Port i w t) = entries.A_port i w (implied t.now)
declared_in (declared.Parameter t s) = entries.A_parameter (implied t.now) (source_in s)
declared_in (declared.«Type» t) = entries.A_type (type t.now)
declared_in (declared.Item t v n) = entries.An_item (type t.now) (option_map (λ e. expr e.now) v) n
declared_in (declared.Class p n) = entries.A_class (p.now ++ n.now.text ∷ [])
declared_in declared.Announcement = entries.An_announcement
declared_in (declared.Routine d) =
    entries.A_subroutine false (option_map (λ p. p.now) d.value.class)
    (record { qualifiers = d.value.qualifiers; routine = routine d.value.routine.now })
declared_in (declared.Pure d) =
    entries.A_subroutine true (Some d.value.class.now) (entries.pure_method (head d.value.head.now))
declared_in (declared.Clocking is) = entries.A_clocking (map clocking_item is.now)
declared_in (declared.ObjectOf k) = entries.The_object_of k.now
declared_in declared.Another = entries.Another

-- a declared name
abbrev pub entry_in : Entry → entries.Entry
entry_in e = record { name = e.name.now; what = declared_in e.what }

-- What processes write, one after another.
use Rattle.std.specs.Prelude.{List, [], ◌++◌, flat_map, if◌then◌else◌}
use Rattle.sv_names.specs.declared.checked.Checked.{Checked}
use Rattle.sv_names.specs.Checked.{◌where_also◌}
use Rattle.sv_names.specs.Sources.{Met, numbered, limits_stand}
use Rattle.sv_names.specs.declared.around.ClassInfo.{ClassInfo}
use Rattle.sv_names.specs.Types.{Path}
use Rattle.sv_names.specs.Writers.{Source, Table, Write, write_in, writes_of, touches_at, all_writes, table_writes, is_in_process, Initialized, writers_stand}

-- what a subroutine writes that a process reaches
abbrev pub reached_writes : Source → Table → Path → List Write
reached_writes s t p = flat_map (write_in s.process s.writer) (touches_at p t)

-- what a process writes, where it is a procedure
abbrev pub process_writes : List ClassInfo → Table → Source → List Write
process_writes ks t s = if is_in_process s then all_writes ks t s else []

-- what processes write themselves, and what subroutines write
abbrev pub own_and_table : Table → List Source → List Write
own_and_table t ss = flat_map writes_of ss ++ table_writes t

-- the rules on writers and limits, over what is met
abbrev pub met_stand : List ClassInfo → List Met → List Initialized → Checked (Unit {0})
met_stand ks ms is =
    writers_stand ks (flat_map (λ m. m.table) ms) (numbered 0 (flat_map (λ m. m.processes) ms)) is where_also limits_stand ms

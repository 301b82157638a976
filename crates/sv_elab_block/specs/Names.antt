-- What loops declare, as the code puts it together (IEEE 1800-2017, 12.7.1).
use Rattle.std.specs.Prelude.{List, ◌∷◌, ◌++◌, Option}
use Rattle.sv_tree.specs.declared.word.Name.{Name}
use Rattle.sv_tree.specs.Stmt as tree_stmt
use Rattle.sv_tree.specs.Stmt.{Dimension}
use Rattle.sv_tree.specs.Types.{WrittenType}
use Rattle.sv_names.specs.Entries.{Entry, entry, A_local, blocks, items_in}

-- a variable of a loop, between the items in its type and the blocks of the body
abbrev pub loop_entries : WrittenType → Option Dimension → Name → tree_stmt.Stmt → List Entry
loop_entries w d n x = items_in w ++ entry n (A_local w d) ∷ blocks x

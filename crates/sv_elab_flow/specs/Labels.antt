-- The labels of a `case` item by item, and heads over them (IEEE 1800-2017, 12.5).
use Rattle.std.specs.Prelude.{ℕ, Bool, ◌&&◌, ◌||◌, List, Option, Some, None, if◌then◌else◌}
use Rattle.sv_value.specs.declared.place.Place.{Place}
use Rattle.sv_tree.specs.Stmt as tree_stmt
use Rattle.sv_tree.specs.Stmt.{CaseItems}
use Rattle.sv_names.specs.declared.checked.Checked.{Checked}
use Rattle.sv_names.specs.declared.checked.Checked.TheVariants.{Good}
use Rattle.sv_names.specs.declared.ty.Ty.{Ty}
use Rattle.sv_names.specs.declared.typed.Typed.{Typed}
use Rattle.sv_names.specs.Cases as cases
use Rattle.sv_names.specs.Cases.{Placed, compares, labels_in, hidden_of_labels}
use Rattle.sv_names.specs.Checked.{given, broken_at}
use Rattle.sv_names.specs.Named.{Around, behind}
use Rattle.sv_names.specs.Types.{is_integral, is_text, is_reference}

-- two numbers, or two texts
abbrev pub are_alike : Ty → Ty → Bool
are_alike t u = (is_integral t && is_integral u) || (is_text t && is_text u)

-- two references
abbrev pub are_references : Ty → Ty → Bool
are_references t u = is_reference t && is_reference u

-- E15: a label that is compared with the subject
abbrev pub comparable : Around → Option Ty → Place → Typed → Checked Typed
comparable ar None at x = Good x
comparable ar (Some t) at x = if compares ar t x.ty then Good x else broken_at 15 at

-- a label at its place
abbrev pub placed : Place → Typed → Placed
placed at t = (at, t)

-- labels as those of an item
abbrev pub some : List Placed → cases.Labels
some ps = Some ps

-- the labels of the first item
abbrev pub item_labels : Around → Option Ty → CaseItems → Checked cases.Labels
item_labels ar t tree_stmt.NoCaseItem = Good None
item_labels ar t (tree_stmt.Labels es x rest) = given some (labels_in ar t es)
item_labels ar t (tree_stmt.Default x rest) = Good None

-- how many hidden variables they take
abbrev pub hidden_in : Checked cases.Labels → ℕ
hidden_in (Good (Some ps)) = hidden_of_labels ps
hidden_in c = 0

-- behind the first item
abbrev pub behind_item : Around → CaseItems → Checked cases.Labels → Around
behind_item ar tree_stmt.NoCaseItem c = ar
behind_item ar (tree_stmt.Labels es x rest) c = behind (hidden_in c) ar
behind_item ar (tree_stmt.Default x rest) c = ar

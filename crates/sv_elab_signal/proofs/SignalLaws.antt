-- Signals, one after the other.
use Rattle.std.proofs.Common.{◌≡◌, List, [], ◌∷◌, ◌++◌, refl, ap, ◌∙◌, append_assoc}
use Rattle.sv_tree.specs.declared.word.Name.{Name}
use Rattle.sv_tree.specs.Units as tree_unit
use Rattle.sv_tree.specs.Units.{ClockingItem, Sided}
use Rattle.sv_names.specs.declared.checked.Checked.{Checked}
use Rattle.sv_names.specs.declared.named.SignalInfo.{SignalInfo}
use Rattle.sv_names.specs.Named.{Around}
use Rattle.sv_names.specs.Scopes.{item_signals, signals_in}
use Rattle.sv_names.specs.Types.{Path}
use Rattle.sv_elab_signal.specs.Signals.{signal_called, signals_called}

-- a turn appends a signal
pub turn_signal : (ar : Around) (s : Path) (ds : List Sided) (n : Name) (ns : List Name) (xs ys : List (Checked SignalInfo))
    → ys ≡ xs ++ signal_called ar s ds n ∷ [] → ys ++ signals_called ar s ds ns ≡ xs ++ signals_called ar s ds (n ∷ ns)
turn_signal ar s ds n ns xs ys pushed =
    ap (λ l. l ++ signals_called ar s ds ns) pushed ∙ append_assoc xs (signal_called ar s ds n ∷ []) (signals_called ar s ds ns)

-- the signals of an item
pub called_is : (ar : Around) (s : Path) (ds : List Sided) (ns : List Name)
    → signals_called ar s ds ns ≡ item_signals ar s (tree_unit.Signals ds ns)
called_is ar s ds [] = refl
called_is ar s ds (n ∷ ns) = ap (λ xs. signal_called ar s ds n ∷ xs) (called_is ar s ds ns)

-- a turn appends the signals of an item
pub turn_item : (ar : Around) (s : Path) (i : ClockingItem) (is : List ClockingItem) (xs ys : List (Checked SignalInfo))
    → ys ≡ xs ++ item_signals ar s i → ys ++ signals_in ar s is ≡ xs ++ signals_in ar s (i ∷ is)
turn_item ar s i is xs ys added = ap (λ l. l ++ signals_in ar s is) added ∙ append_assoc xs (item_signals ar s i) (signals_in ar s is)

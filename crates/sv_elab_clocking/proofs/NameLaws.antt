-- Names, one behind the other.
use Rattle.std.proofs.Common.{◌≡◌, ◌∙◌, List, [], ◌∷◌, ◌++◌, ap, append_assoc}
use Rattle.sv_tree.specs.declared.word.Name.{Name}
use Rattle.sv_tree.specs.Units.{ClockingItem}
use Rattle.sv_names.specs.Clockings.{names_in}
use Rattle.sv_elab_clocking.specs.Names.{items_names}

-- a name, and those behind it
pub one_name : (n : Name) (ns xs ys zs : List Name) → ys ≡ xs ++ n ∷ [] → zs ≡ ys ++ ns → zs ≡ xs ++ n ∷ ns
one_name n ns xs ys zs pushed behind = behind ∙ ap (λ l. l ++ ns) pushed ∙ append_assoc xs (n ∷ []) ns

-- the names of an item, and those behind it
pub one_item : (i : ClockingItem) (is : List ClockingItem) (xs ys zs : List Name) → ys ≡ xs ++ names_in i → zs ≡ ys ++ items_names is
    → zs ≡ xs ++ items_names (i ∷ is)
one_item i is xs ys zs pushed behind = behind ∙ ap (λ l. l ++ items_names is) pushed ∙ append_assoc xs (names_in i) (items_names is)

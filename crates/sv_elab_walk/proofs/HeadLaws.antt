-- Classes among items.
use Rattle.std.proofs.Common.{◌≡◌, false, List, [], ◌∷◌, refl}
use Rattle.sv_tree.specs.Items as tree_item
use Rattle.sv_tree.specs.Items.{Item}
use Rattle.sv_names.specs.Entries.{Entry}
use Rattle.sv_elab_walk.specs.Grounds.{some_class, ServesAs}

-- items without a class ask for nothing
pub no_heads : (es outer : List Entry) (is : List Item) → some_class is ≡ false → ServesAs es outer is
no_heads es outer [] none p own = refl
no_heads es outer (tree_item.Class c ∷ is) none p own = cc
no_heads es outer (tree_item.Net x ∷ is) none p own = no_heads es outer is none p own
no_heads es outer (tree_item.Assign x ∷ is) none p own = no_heads es outer is none p own
no_heads es outer (tree_item.Instances x ∷ is) none p own = no_heads es outer is none p own
no_heads es outer (tree_item.Procedure x ∷ is) none p own = no_heads es outer is none p own
no_heads es outer (tree_item.Decl x ∷ is) none p own = no_heads es outer is none p own
no_heads es outer (tree_item.Typedef x ∷ is) none p own = no_heads es outer is none p own
no_heads es outer (tree_item.Announce x ∷ is) none p own = no_heads es outer is none p own
no_heads es outer (tree_item.Param x ∷ is) none p own = no_heads es outer is none p own
no_heads es outer (tree_item.Routine x ∷ is) none p own = no_heads es outer is none p own
no_heads es outer (tree_item.Clocking x ∷ is) none p own = no_heads es outer is none p own
no_heads es outer (tree_item.DefaultClocking at x ∷ is) none p own = no_heads es outer is none p own
no_heads es outer (tree_item.Null ∷ is) none p own = no_heads es outer is none p own

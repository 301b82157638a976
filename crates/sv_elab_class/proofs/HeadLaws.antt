-- Classes with their bases, one after the other.
use Rattle.std.proofs.Common.{◌≡◌, List, [], ◌∷◌, ◌++◌, map, refl, sym, ap, ◌∙◌, append_assoc, append-nil}
use Rattle.sv_tree.specs.Descriptions as tree_description
use Rattle.sv_tree.specs.Descriptions.{Description}
use Rattle.sv_tree.specs.Items as tree_item
use Rattle.sv_tree.specs.Items.{Item}
use Rattle.sv_names.specs.Entries.{Entry}
use Rattle.sv_names.specs.Groups as groups
use Rattle.sv_names.specs.Groups.{heads_of}
use Rattle.sv_names.specs.Instances.{outside}
use Rattle.sv_names.specs.Types.{Path}
use Rattle.sv_elab_class.specs.declared.heads.ClassHead.{ClassHead}
use Rattle.sv_elab_class.specs.Heads.{head_in, head_if, head_outside}

map-joined : (xs ys : List ClassHead) → map head_in (xs ++ ys) ≡ map head_in xs ++ map head_in ys
map-joined [] ys = refl
map-joined (x ∷ xs) ys = ap (λ hs. head_in x ∷ hs) (map-joined xs ys)

-- no class is appended
pub no_head : (hs : List ClassHead) → map head_in hs ≡ map head_in hs ++ []
no_head hs = sym (append-nil (map head_in hs))

-- a class is appended
pub pushed_head : (hs ks : List ClassHead) (h : ClassHead) (x : groups.Head)
    → ks ≡ hs ++ h ∷ [] → head_in h ≡ x → map head_in ks ≡ map head_in hs ++ x ∷ []
pushed_head hs ks h x pushed is = ap (map head_in) pushed ∙ map-joined hs (h ∷ []) ∙ ap (λ y. map head_in hs ++ y ∷ []) is

-- the class of an item, and those of others behind it
item_first : (p : Path) (own outer : List Entry) (i : Item) (is : List Item)
    → head_if p own outer i ++ heads_of p own outer is ≡ heads_of p own outer (i ∷ is)
item_first p own outer (tree_item.Class c) is = refl
item_first p own outer (tree_item.Net c) is = refl
item_first p own outer (tree_item.Assign c) is = refl
item_first p own outer (tree_item.Instances c) is = refl
item_first p own outer (tree_item.Procedure c) is = refl
item_first p own outer (tree_item.Decl c) is = refl
item_first p own outer (tree_item.Typedef c) is = refl
item_first p own outer (tree_item.Announce c) is = refl
item_first p own outer (tree_item.Param c) is = refl
item_first p own outer (tree_item.Routine c) is = refl
item_first p own outer (tree_item.Clocking c) is = refl
item_first p own outer (tree_item.DefaultClocking at c) is = refl
item_first p own outer tree_item.Null is = refl

-- a turn appends the class of an item
pub turn_head : (p : Path) (own outer : List Entry) (i : Item) (is : List Item) (hs ks : List ClassHead)
    → map head_in ks ≡ map head_in hs ++ head_if p own outer i
    → map head_in ks ++ heads_of p own outer is ≡ map head_in hs ++ heads_of p own outer (i ∷ is)
turn_head p own outer i is hs ks added =
    ap (λ l. l ++ heads_of p own outer is) added ∙ append_assoc (map head_in hs) (head_if p own outer i) (heads_of p own outer is)
    ∙ ap (λ l. map head_in hs ++ l) (item_first p own outer i is)

-- the class of a description, and those of others behind it
description_first : (own : List Entry) (d : Description) (ds : List Description)
    → head_outside own d ++ heads_of [] own [] (outside ds) ≡ heads_of [] own [] (outside (d ∷ ds))
description_first own (tree_description.Module e) ds = refl
description_first own (tree_description.Program e) ds = refl
description_first own (tree_description.Item i) ds = item_first [] own [] i (outside ds)

-- a turn appends the class of a description
pub turn_description : (own : List Entry) (d : Description) (ds : List Description) (hs ks : List ClassHead)
    → map head_in ks ≡ map head_in hs ++ head_outside own d
    → map head_in ks ++ heads_of [] own [] (outside ds) ≡ map head_in hs ++ heads_of [] own [] (outside (d ∷ ds))
turn_description own d ds hs ks added =
    ap (λ l. l ++ heads_of [] own [] (outside ds)) added ∙ append_assoc (map head_in hs) (head_outside own d) (heads_of [] own [] (outside ds))
    ∙ ap (λ l. map head_in hs ++ l) (description_first own d ds)

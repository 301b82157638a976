-- All that is given, one item after another.
use Rattle.std.proofs.Common.{◌≡◌, ◌∙◌, ℕ, ◌+◌, ◌<◌, List, [], ◌∷◌, ◌++◌, length, drop, get_or, map, refl, sym, ap}
use Rattle.sv_tree.specs.Descriptions.{Description, Module, Program, Item}
use Rattle.sv_names.specs.declared.checked.Checked.{Checked}
use Rattle.sv_names.specs.declared.checked.Checked.TheVariants.{Good}
use Rattle.sv_names.specs.Checked.{each, put_before}
use Rattle.sv_names.specs.Design.{given_parts}
use Rattle.sv_names.specs.Groups.{Group}
use Rattle.sv_names.specs.Instances.{Walked}
use Rattle.sv_names.specs.Items.{common_parts, walked_parts, file_parts}
use Rattle.sv_names.specs.Joined.{joined, put_behind}
use Rattle.sv_names.specs.Named.{Around}
use Rattle.sv_names.proofs.Joined.{next_joined, joined_first, joined_last, joined_grouped}
use Rattle.sv_elab_flow.proofs.Left.{first_left}
use Rattle.sv_elab_plain.specs.Files.{file_scope}
use Rattle.sv_elab_item.specs.Given.{described, all_described, outside_given, walked_given}

-- one part before a list is a list of it before the list
single_joined : {A : Type 0} (x : Checked A) (ys : Checked (List A)) → put_before x ys ≡ joined (put_behind (Good []) x) ys
single_joined x ys = sym (next_joined (Good []) x ys ∙ joined_first (put_before x ys))

-- two lists of parts
pub each_joined : {A : Type 0} (xs ys : List (Checked A)) → each (λ c. c) (xs ++ ys) ≡ joined (each (λ c. c) xs) (each (λ c. c) ys)
each_joined [] ys = sym (joined_first (each (λ c. c) ys))
each_joined (x ∷ xs) ys =
    ap (put_before x) (each_joined xs ys) ∙ single_joined x (joined (each (λ c. c) xs) (each (λ c. c) ys))
    ∙ sym (joined_grouped (put_behind (Good []) x) (each (λ c. c) xs) (each (λ c. c) ys))
    ∙ ap (λ c. joined c (each (λ c. c) ys)) (sym (single_joined x (each (λ c. c) xs)))

-- parts that are made of a list
pub each_mapped : {A B : Type 0} (f : A → Checked B) (xs : List A) → each (λ c. c) (map f xs) ≡ each f xs
each_mapped f [] = refl
each_mapped f (x ∷ xs) = ap (put_before (f x)) (each_mapped f xs)

-- what stands outside units, and then what is met on the walk
pub all_given : (us : List Description) (ar : Around) (g : Group) (ws : List Walked)
    → joined (outside_given us ar g) (walked_given us ar ws) ≡ given_parts us ar g ws
all_given us ar g ws =
    ap (joined (outside_given us ar g)) (sym (each_mapped (walked_parts us ar) ws))
    ∙ sym (each_joined (file_parts us ar g) (map (walked_parts us ar) ws))

-- one part behind a list is a list of it behind the list
pub behind_joined : {A : Type 0} (xs : Checked (List A)) (x : Checked A) → put_behind xs x ≡ joined xs (put_before x (Good []))
behind_joined xs x = sym (joined_last (put_behind xs x)) ∙ next_joined xs x (Good [])

-- one step further
pub steps_next : {T A B : Type 0} (f : A → Checked B) (v : T → A) (xs : List T) (i : ℕ) (x : T) (c whole : Checked (List B)) → i < length xs
    → get_or xs i x ≡ x → joined c (each f (map v (drop i xs))) ≡ whole
    → joined (put_behind c (f (v x))) (each f (map v (drop (i + 1) xs))) ≡ whole
steps_next f v xs i x c whole within is so_far =
    next_joined c (f (v x)) (each f (map v (drop (i + 1) xs)))
    ∙ ap (λ ys. joined c (each f (map v ys))) (sym (first_left xs i x within is))
    ∙ so_far

-- what stands outside units, one description further
pub described_cons : (ar : Around) (d : Description) (ds : List Description)
    → all_described ar (d ∷ ds) ≡ joined (described ar d) (all_described ar ds)
described_cons ar (Module m) ds = sym (joined_first (all_described ar ds))
described_cons ar (Program p) ds = sym (joined_first (all_described ar ds))
described_cons ar (Item i) ds =
    single_joined (common_parts ar [] i) (all_described ar ds)
    ∙ ap (λ c. joined c (all_described ar ds))
    (behind_joined (Good []) (common_parts ar [] i) ∙ joined_first (put_before (common_parts ar [] i) (Good [])))

-- the scope of the files stands before
pub files_first : (us : List Description) (ar : Around) (g : Group)
    → joined (put_behind (Good []) (file_scope us g)) (all_described ar us) ≡ outside_given us ar g
files_first us ar g = sym (single_joined (file_scope us g) (all_described ar us))

-- The initializers of properties, one after another.
use Rattle.std.proofs.Common.{rules, ◌≡◌, ◌∙◌, ℕ, ◌+◌, ◌<◌, ◌≤◌, Bool, true, false, List, [], ◌∷◌, Option, Some, None, length, drop, get_or, map, if◌then◌else◌, option_map, refl, sym, ap}
use Rattle.std.proofs.lemmas.List.{drop_all}
use Rattle.sv_value.specs.declared.place.Place.{Place}
use Rattle.sv_tree.specs.declared.class.ClassItem.{ClassItem as Written}
use Rattle.sv_tree.specs.declared.statement.Declarator.{Declarator as WrittenName}
use Rattle.sv_tree.specs.declared.word.Name.{Name}
use Rattle.sv_tree.specs.Classes as tree_class
use Rattle.sv_tree.specs.Stmt.{Declarator, Dimension, Init}
use Rattle.sv_tree.specs.StmtView.{declarator}
use Rattle.sv_tree.specs.UnitView.{class_item}
use Rattle.sv_names.specs.declared.around.ClassInfo.{ClassInfo}
use Rattle.sv_names.specs.declared.checked.Checked.{Checked}
use Rattle.sv_names.specs.declared.checked.Checked.TheVariants.{Good, Broken}
use Rattle.sv_names.specs.declared.checked.Fault.{Fault}
use Rattle.sv_names.specs.declared.named.Named.{Named}
use Rattle.sv_names.specs.declared.named.Named.TheVariants.{Property, Itself}
use Rattle.sv_names.specs.declared.named.Protection.{Protection}
use Rattle.sv_names.specs.declared.named.ResultVariable.TheVariants as result_variables
use Rattle.sv_names.specs.declared.scope.Found as scope
use Rattle.sv_names.specs.declared.ty.Ty.{Ty}
use Rattle.sv_names.specs.Blocks.{in_sequence}
use Rattle.sv_names.specs.Checked.{◌▷◌, broken_at}
use Rattle.sv_names.specs.Code.{Code, empty}
use Rattle.sv_names.specs.Named.{Around, at_level, declared_in, in_known, placed_at, value_found}
use Rattle.sv_names.specs.Subroutines.{property_spot, property_known, property_code, properties_code, initializers}
use Rattle.sv_names.specs.Types.{Path}
use Rattle.sv_names.specs.Views.{found_in}
use Rattle.sv_elab_flow.proofs.Grouped.{in_sequence_grouped, none_first, none_last}
use Rattle.sv_elab_flow.proofs.Left.{first_left}
use Rattle.sv_elab_before.specs.Properties.{known_or, spot_of, init_code, item_code}

-- ---- targets

-- what is no property takes no value
pub no_property : (ar : Around) (at : Place) (n : Name) (m : Named)
    → ((k : Path) (g : Protection) (x : Name) (t : Ty) → m ≡ Property k g x t → ⊥) → broken_at 7 at ≡ property_spot ar at n m
no_property ar at n (Property k g x t) other = absurd (other k g x t refl)
no_property ar at n m other = refl

-- the activation in which it stands does not matter
spot_anywhere : (ar : Around) (at : Place) (n : Name) (up place : ℕ) (m : Named)
    → property_spot ar at n (at_level up place m) ≡ property_spot ar at n m
spot_anywhere ar at n up place (Itself c (result_variables.Local u p t)) = refl
spot_anywhere ar at n up place (Itself c (result_variables.Object p t)) = refl
spot_anywhere ar at n up place m = refl

-- what a name stands for
known_by : (k : ClassInfo) (n : Name) (o : Option (Checked Named)) → in_known 0 0 n.text k.scope.known ≡ o → property_known k n ≡ known_or n o
known_by k n None is = search rules
known_by k n (Some c) is = search rules

known_is : (k : ClassInfo) (n : Name) (o : Option scope.Found) → option_map found_in o ≡ declared_in 0 0 n.text k.scope.known
    → property_known k n ≡ known_or n (option_map (λ f. value_found (found_in f)) o)
known_is k n None is = known_by k n None (ap (option_map value_found) (sym is))
known_is k n (Some f) is = known_by k n (Some (value_found (found_in f))) (ap (option_map value_found) (sym is))

-- a name that is not declared
pub none_spot : (ar : Around) (k : ClassInfo) (n : Name) (o : Option scope.Found) → option_map found_in o ≡ declared_in 0 0 n.text k.scope.known
    → o ≡ None → broken_at 6 n.at ≡ spot_of ar k n
none_spot ar k n o is none =
    sym (ap (λ (c : Checked Named). c ▷ property_spot ar n.at n)
    (known_is k n o is ∙ ap (λ (x : Option scope.Found). known_or n (option_map (λ f. value_found (found_in f)) x)) none))

-- one that is
found_known : (k : ClassInfo) (n : Name) (o : Option scope.Found) (f : scope.Found) (c : Checked Named)
    → option_map found_in o ≡ declared_in 0 0 n.text k.scope.known → o ≡ Some f → f.known.now.value ≡ c
    → property_known k n ≡ placed_at f.up f.place c
found_known k n o f c is some of =
    known_is k n o is ∙ ap (λ (x : Option scope.Found). known_or n (option_map (λ g. value_found (found_in g)) x)) some
    ∙ ap (placed_at f.up f.place) of

-- one whose declaration breaks a rule
pub broken_spot : (ar : Around) (k : ClassInfo) (n : Name) (o : Option scope.Found) (f : scope.Found) (g : Fault)
    → option_map found_in o ≡ declared_in 0 0 n.text k.scope.known → o ≡ Some f → f.known.now.value ≡ Broken g → Broken g ≡ spot_of ar k n
broken_spot ar k n o f g is some of =
    sym (ap (λ (c : Checked Named). c ▷ property_spot ar n.at n) (found_known k n o f (Broken g) is some of))

-- one whose declaration breaks none
pub good_spot : (ar : Around) (k : ClassInfo) (n : Name) (o : Option scope.Found) (f : scope.Found) (m : Named)
    → option_map found_in o ≡ declared_in 0 0 n.text k.scope.known → o ≡ Some f → f.known.now.value ≡ Good m
    → property_spot ar n.at n m ≡ spot_of ar k n
good_spot ar k n o f m is some of =
    sym (spot_anywhere ar n.at n f.up f.place m)
    ∙ sym (ap (λ (c : Checked Named). c ▷ property_spot ar n.at n) (found_known k n o f (Good m) is some of))

-- ---- one property

-- by its parts
by_init : (ar : Around) (k : ClassInfo) (n : Name) (d : Option Dimension) (e : Option Init)
    → init_code ar k n e ≡ property_code ar k (record { name = n; dimension = d; init = e })
by_init ar k n d None = refl
by_init ar k n d (Some e) = refl

pub property_is : (ar : Around) (k : ClassInfo) (x : Declarator) → init_code ar k x.name x.init ≡ property_code ar k x
property_is ar k x = by_init ar k x.name x.dimension x.init

-- ---- items

-- a static property is initialized at the opening
by_word : (b : Bool) (x rest : Checked Code) → (if b then rest else in_sequence x rest) ≡ in_sequence (if b then Good empty else x) rest
by_word true x rest = sym (none_first rest)
by_word false x rest = refl

-- an item, and those behind it
initializers_next : (ar : Around) (k : ClassInfo) (i : tree_class.ClassItem) (is : List tree_class.ClassItem)
    → initializers ar k (i ∷ is) ≡ in_sequence (item_code ar k i) (initializers ar k is)
initializers_next ar k (tree_class.Property p) is = by_word p.qualifiers.is_static (properties_code ar k p.decl.names) (initializers ar k is)
initializers_next ar k (tree_class.Method m) is = sym (none_first (initializers ar k is))
initializers_next ar k (tree_class.Pure m) is = sym (none_first (initializers ar k is))
initializers_next ar k (tree_class.Typedef t) is = sym (none_first (initializers ar k is))
initializers_next ar k (tree_class.Announce n) is = sym (none_first (initializers ar k is))
initializers_next ar k tree_class.Null is = sym (none_first (initializers ar k is))

-- ---- parts in sequence

-- one part further
part_next : {A : Type 0} (f : A → Checked Code) (go : List A → Checked Code) → ((x : A) (xs : List A) → go (x ∷ xs) ≡ in_sequence (f x) (go xs))
    → (xs : List A) (i : ℕ) (x : A) (c whole : Checked Code) → i < length xs → get_or xs i x ≡ x
    → in_sequence c (go (drop i xs)) ≡ whole → in_sequence (in_sequence c (f x)) (go (drop (i + 1) xs)) ≡ whole
part_next f go step xs i x c whole within is so_far =
    in_sequence_grouped c (f x) (go (drop (i + 1) xs))
    ∙ ap (in_sequence c) (sym (ap go (first_left xs i x within is) ∙ step x (drop (i + 1) xs)))
    ∙ so_far

-- all parts
parts_all : {A : Type 0} (go : List A → Checked Code) → go [] ≡ Good empty → (xs : List A) (i : ℕ) (c whole : Checked Code) → length xs ≤ i
    → in_sequence c (go (drop i xs)) ≡ whole → c ≡ whole
parts_all go none xs i c whole past so_far = sym (none_last c) ∙ ap (in_sequence c) (sym (ap go (drop_all i xs past) ∙ none)) ∙ so_far

-- ---- the properties of a declaration

pub property_next : (ar : Around) (k : ClassInfo) (xs : List WrittenName) (i : ℕ) (x : WrittenName) (c whole : Checked Code) → i < length xs
    → get_or xs i x ≡ x → in_sequence c (properties_code ar k (map declarator (drop i xs))) ≡ whole
    → in_sequence (in_sequence c (property_code ar k (declarator x))) (properties_code ar k (map declarator (drop (i + 1) xs))) ≡ whole
property_next ar k =
    part_next (λ (x : WrittenName). property_code ar k (declarator x))
    (λ (xs : List WrittenName). properties_code ar k (map declarator xs)) (λ x xs. refl)

pub properties_all : (ar : Around) (k : ClassInfo) (xs : List WrittenName) (i : ℕ) (c whole : Checked Code) → length xs ≤ i
    → in_sequence c (properties_code ar k (map declarator (drop i xs))) ≡ whole → c ≡ whole
properties_all ar k = parts_all (λ (xs : List WrittenName). properties_code ar k (map declarator xs)) refl

-- ---- all items

pub item_next : (ar : Around) (k : ClassInfo) (xs : List Written) (i : ℕ) (x : Written) (c whole : Checked Code) → i < length xs
    → get_or xs i x ≡ x → in_sequence c (initializers ar k (map class_item (drop i xs))) ≡ whole
    → in_sequence (in_sequence c (item_code ar k (class_item x))) (initializers ar k (map class_item (drop (i + 1) xs))) ≡ whole
item_next ar k =
    part_next (λ (x : Written). item_code ar k (class_item x)) (λ (xs : List Written). initializers ar k (map class_item xs))
    (λ x xs. initializers_next ar k (class_item x) (map class_item xs))

pub items_all : (ar : Around) (k : ClassInfo) (xs : List Written) (i : ℕ) (c whole : Checked Code) → length xs ≤ i
    → in_sequence c (initializers ar k (map class_item (drop i xs))) ≡ whole → c ≡ whole
items_all ar k = parts_all (λ (xs : List Written). initializers ar k (map class_item xs)) refl

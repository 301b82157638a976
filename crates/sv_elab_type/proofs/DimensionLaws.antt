-- Sizes, and names alone in brackets.
use Rattle.std.proofs.Common.{◌≡◌, ℕ, refl}
use Rattle.sv_value.specs.declared.place.Place.{Place}
use Rattle.sv_tree.specs.declared.expr.Root.TheVariants as root
use Rattle.sv_tree.specs.declared.word.Name.{Name}
use Rattle.sv_tree.specs.Expr as tree
use Rattle.sv_names.specs.declared.checked.Checked.{Checked}
use Rattle.sv_names.specs.declared.checked.Checked.TheVariants.{Good, Broken}
use Rattle.sv_names.specs.declared.named.Named.{Named}
use Rattle.sv_names.specs.declared.named.Named.TheVariants.{TypeName, ClassName, Itself}
use Rattle.sv_names.specs.declared.named.ResultVariable.TheVariants as result_variable
use Rattle.sv_names.specs.declared.typed.Typed.{Typed}
use Rattle.sv_names.specs.declared.ty.Ty.{Ty}
use Rattle.sv_names.specs.Checked.{◌▷◌}
use Rattle.sv_names.specs.Declarations.{dimension_named, sized_array}
use Rattle.sv_names.specs.Named.{Around, at_level}
use Rattle.sv_names.specs.Types.{Path}
use Rattle.sv_names.specs.Values.{constant_number, constant_count, count_from}

-- a constant count is a constant number of at least 1
pub counted_is : (x : Checked Typed) (at : Place) → (x ▷ constant_count at) ≡ (x ▷ constant_number at ▷ count_from at)
counted_is (Good t) at = refl
counted_is (Broken f) at = refl

-- a name that is no type tells a size
pub other_named : (ar : Around) (x : Name) (up place : ℕ) (n : Named) → ((t : Ty) → n ≡ TypeName t → ⊥) → ((k : Path) → n ≡ ClassName k → ⊥)
    → sized_array ar (tree.Post (root.Plain x) tree.NoSuffix) ≡ dimension_named ar x (at_level up place n)
other_named ar x up place (TypeName t) no_type no_class = absurd (no_type t refl)
other_named ar x up place (ClassName k) no_type no_class = absurd (no_class k refl)
other_named ar x up place (Itself c (result_variable.Object p t)) no_type no_class = refl
other_named ar x up place (Itself c (result_variable.Local u p t)) no_type no_class = refl
other_named ar x up place n no_type no_class = refl

-- What a name stands for does not depend on where its variable is found.
use Rattle.std.proofs.Common.{◌≡◌, ℕ, refl, ap}
use Rattle.sv_value.specs.declared.place.Place.{Place}
use Rattle.sv_names.specs.declared.checked.Checked.{Checked}
use Rattle.sv_names.specs.declared.checked.Checked.TheVariants.{Good, Broken}
use Rattle.sv_names.specs.declared.named.Named.{Named}
use Rattle.sv_names.specs.declared.named.Named.TheVariants as named
use Rattle.sv_names.specs.declared.named.ResultVariable.TheVariants as result_variable
use Rattle.sv_names.specs.Checked.{given}
use Rattle.sv_names.specs.Named.{at_level, placed_at}
use Rattle.sv_names.specs.Sources.{type_of_property}
use Rattle.sv_names.specs.Writers.{declares}

-- what it declares
level_declares : (at : Place) (u p : ℕ) (n : Named) → declares at (Good (at_level u p n)) ≡ declares at (Good n)
level_declares at u p (named.Variable q t) = refl
level_declares at u p (named.Net q t) = refl
level_declares at u p (named.Input q n t) = refl
level_declares at u p (named.Local v q t) = refl
level_declares at u p (named.Property k g n t) = refl
level_declares at u p (named.StaticProperty k g q t) = refl
level_declares at u p (named.Constant t b) = refl
level_declares at u p (named.TypeName t) = refl
level_declares at u p (named.ClassName q) = refl
level_declares at u p (named.Subroutine c) = refl
level_declares at u p (named.Itself c (result_variable.Object q t)) = refl
level_declares at u p (named.Itself c (result_variable.Local v q t)) = refl
level_declares at u p (named.ClockingBlock q ss) = refl
level_declares at u p named.Other = refl

pub declared_found : (at : Place) (u p : ℕ) (c : Checked Named) → declares at (placed_at u p c) ≡ declares at c
declared_found at u p (Good n) = level_declares at u p n
declared_found at u p (Broken f) = refl

-- the type of a property
level_type : (u p : ℕ) (n : Named) → type_of_property (at_level u p n) ≡ type_of_property n
level_type u p (named.Variable q t) = refl
level_type u p (named.Net q t) = refl
level_type u p (named.Input q n t) = refl
level_type u p (named.Local v q t) = refl
level_type u p (named.Property k g n t) = refl
level_type u p (named.StaticProperty k g q t) = refl
level_type u p (named.Constant t b) = refl
level_type u p (named.TypeName t) = refl
level_type u p (named.ClassName q) = refl
level_type u p (named.Subroutine c) = refl
level_type u p (named.Itself c (result_variable.Object q t)) = refl
level_type u p (named.Itself c (result_variable.Local v q t)) = refl
level_type u p (named.ClockingBlock q ss) = refl
level_type u p named.Other = refl

pub type_found : (u p : ℕ) (c : Checked Named) → given type_of_property (placed_at u p c) ≡ given type_of_property c
type_found u p (Good n) = ap (λ t. Good t) (level_type u p n)
type_found u p (Broken f) = refl

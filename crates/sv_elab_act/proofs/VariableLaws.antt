-- The type of a variable does not depend on where it is found.
use Rattle.std.proofs.Common.{◌≡◌, ℕ, refl}
use Rattle.sv_names.specs.declared.named.Named.{Named}
use Rattle.sv_names.specs.declared.named.Named.TheVariants as named
use Rattle.sv_names.specs.declared.named.ResultVariable.TheVariants as result_variable
use Rattle.sv_names.specs.Named.{at_level}
use Rattle.sv_names.specs.Writers.{variable_type}

pub type_at_level : (u p : ℕ) (n : Named) → variable_type (at_level u p n) ≡ variable_type n
type_at_level u p (named.Variable q t) = refl
type_at_level u p (named.Net q t) = refl
type_at_level u p (named.Input q n t) = refl
type_at_level u p (named.Local v q t) = refl
type_at_level u p (named.Property k g n t) = refl
type_at_level u p (named.StaticProperty k g q t) = refl
type_at_level u p (named.Constant t b) = refl
type_at_level u p (named.TypeName t) = refl
type_at_level u p (named.ClassName q) = refl
type_at_level u p (named.Subroutine c) = refl
type_at_level u p (named.Itself c (result_variable.Object q t)) = refl
type_at_level u p (named.Itself c (result_variable.Local v q t)) = refl
type_at_level u p (named.ClockingBlock q ss) = refl
type_at_level u p named.Other = refl

-- The objects of static properties.
use Rattle.std.proofs.Common.{rules, ◌≡◌, ◌∙◌, ℕ, List, [], ◌++◌, Option, Some, None, option_map, refl, sym, ap, append-nil}
use Rattle.sv_value.specs.declared.place.Place.{Place}
use Rattle.sv_flat.specs.declared.object.Object.{Object}
use Rattle.sv_tree.specs.Stmt.{Declarator, Init}
use Rattle.sv_names.specs.declared.around.ClassInfo.{ClassInfo}
use Rattle.sv_names.specs.declared.checked.Checked.{Checked}
use Rattle.sv_names.specs.declared.checked.Checked.TheVariants.{Good, Broken}
use Rattle.sv_names.specs.declared.checked.Fault.{Fault}
use Rattle.sv_names.specs.declared.named.Named.{Named}
use Rattle.sv_names.specs.declared.named.Named.TheVariants.{StaticProperty, Itself}
use Rattle.sv_names.specs.declared.named.Protection.{Protection}
use Rattle.sv_names.specs.declared.named.ResultVariable.TheVariants as result_variables
use Rattle.sv_names.specs.declared.scope.Found as scope
use Rattle.sv_names.specs.declared.ty.Ty.{Ty}
use Rattle.sv_names.specs.Classes.{static_object}
use Rattle.sv_names.specs.Named.{Around, at_level, declared_in, in_known, placed_at, value_found}
use Rattle.sv_names.specs.Types.{Path}
use Rattle.sv_names.specs.Views.{found_in}
use Rattle.sv_elab_member.specs.Statics.{static_known, static_named}

-- no object is behind the others
pub none_placed : (os : List Object) → os ≡ os ++ []
none_placed os = sym (append-nil os)

-- what is no static property has none
pub no_static : (ar : Around) (at : Place) (n : Named) (e : Option Init)
    → ((k : Path) (g : Protection) (p : Path) (t : Ty) → n ≡ StaticProperty k g p t → ⊥) → static_named ar at n e ≡ Good []
no_static ar at (StaticProperty k g p t) e other = absurd (other k g p t refl)
no_static ar at n e other = refl

-- the activation in which it stands does not matter
static_anywhere : (ar : Around) (at : Place) (up place : ℕ) (n : Named) (e : Option Init)
    → static_named ar at (at_level up place n) e ≡ static_named ar at n e
static_anywhere ar at up place (Itself c (result_variables.Local u p t)) e = refl
static_anywhere ar at up place (Itself c (result_variables.Object p t)) e = refl
static_anywhere ar at up place n e = refl

-- by what the class declares
object_by : (ar : Around) (k : ClassInfo) (x : Declarator) (o : Option (Checked Named)) → in_known 0 0 x.name.text k.scope.known ≡ o
    → static_object ar k x ≡ static_known ar x.name.at o x.init
object_by ar k x None is = search rules
object_by ar k x (Some (Broken f)) is = search rules
object_by ar k x (Some (Good (StaticProperty c g p t))) is = search rules
object_by ar k x (Some (Good n)) is = search rules

object_is : (ar : Around) (k : ClassInfo) (x : Declarator) (o : Option scope.Found)
    → option_map found_in o ≡ declared_in 0 0 x.name.text k.scope.known
    → static_object ar k x ≡ static_known ar x.name.at (option_map (λ f. value_found (found_in f)) o) x.init
object_is ar k x None is = object_by ar k x None (ap (option_map value_found) (sym is))
object_is ar k x (Some f) is = object_by ar k x (Some (value_found (found_in f))) (ap (option_map value_found) (sym is))

-- a name that is not declared
pub none_static : (ar : Around) (k : ClassInfo) (x : Declarator) (o : Option scope.Found)
    → option_map found_in o ≡ declared_in 0 0 x.name.text k.scope.known → o ≡ None → static_object ar k x ≡ Good []
none_static ar k x o is none =
    object_is ar k x o is
    ∙ ap (λ (y : Option scope.Found). static_known ar x.name.at (option_map (λ f. value_found (found_in f)) y) x.init) none

-- one that is
found_static : (ar : Around) (k : ClassInfo) (x : Declarator) (o : Option scope.Found) (f : scope.Found) (c : Checked Named)
    → option_map found_in o ≡ declared_in 0 0 x.name.text k.scope.known → o ≡ Some f → f.known.now.value ≡ c
    → static_object ar k x ≡ static_known ar x.name.at (Some (placed_at f.up f.place c)) x.init
found_static ar k x o f c is some of =
    object_is ar k x o is
    ∙ ap (λ (y : Option scope.Found). static_known ar x.name.at (option_map (λ g. value_found (found_in g)) y) x.init) some
    ∙ ap (λ (d : Checked Named). static_known ar x.name.at (Some (placed_at f.up f.place d)) x.init) of

-- one whose declaration breaks a rule
pub broken_static : (ar : Around) (k : ClassInfo) (x : Declarator) (o : Option scope.Found) (f : scope.Found) (g : Fault)
    → option_map found_in o ≡ declared_in 0 0 x.name.text k.scope.known → o ≡ Some f → f.known.now.value ≡ Broken g
    → static_object ar k x ≡ static_known ar x.name.at (Some (Broken g)) x.init
broken_static ar k x o f g is some of = found_static ar k x o f (Broken g) is some of

-- one whose declaration breaks none
pub good_static : (ar : Around) (k : ClassInfo) (x : Declarator) (o : Option scope.Found) (f : scope.Found) (n : Named)
    → option_map found_in o ≡ declared_in 0 0 x.name.text k.scope.known → o ≡ Some f → f.known.now.value ≡ Good n
    → static_object ar k x ≡ static_named ar x.name.at n x.init
good_static ar k x o f n is some of =
    found_static ar k x o f (Good n) is some of ∙ static_anywhere ar x.name.at f.up f.place n x.init

-- Objects of the same name.
use Rattle.std.proofs.Common.{◌≡◌, ℕ, Option, Some, None, refl, sym, ap, ◌∙◌}
use Rattle.std.specs.Prelude.{option_map}
use Rattle.sv_value.specs.declared.place.Place.{Place}
use Rattle.sv_tree.specs.declared.word.Name.{Name}
use Rattle.sv_names.specs.declared.checked.Checked.{Checked}
use Rattle.sv_names.specs.declared.checked.Checked.TheVariants.{Good, Broken}
use Rattle.sv_names.specs.declared.checked.Fault.{Fault}
use Rattle.sv_names.specs.declared.named.Named.{Named}
use Rattle.sv_names.specs.declared.named.Named.TheVariants as named
use Rattle.sv_names.specs.declared.named.ResultVariable.TheVariants as result_variable
use Rattle.sv_names.specs.Checked.{broken_at, ◌where_also◌}
use Rattle.sv_names.specs.declared.scope.Scope.{Scope}
use Rattle.sv_names.specs.Connections.{is_object, finds_object, port_thing, port_known}
use Rattle.sv_names.specs.Instances.{Inst, PortInfo}
use Rattle.sv_names.specs.Named.{Around, Found, at_level, declared_in, declared_from, found, value_found, placed_at, kind_stands, is_object_kind}

-- an object is one at every level
pub level_object : (at : Place) (up place : ℕ) (n : Named) → is_object at n ≡ is_object at (at_level up place n)
level_object at up place (named.Local u p t) = refl
level_object at up place (named.Itself c (result_variable.Local u p t)) = refl
level_object at up place (named.Itself c (result_variable.Object p t)) = refl
level_object at up place (named.Variable p t) = refl
level_object at up place (named.Net p t) = refl
level_object at up place (named.Input p n t) = refl
level_object at up place (named.Property c q n t) = refl
level_object at up place (named.StaticProperty c q o t) = refl
level_object at up place (named.Constant t b) = refl
level_object at up place (named.TypeName t) = refl
level_object at up place (named.ClassName p) = refl
level_object at up place (named.Subroutine c) = refl
level_object at up place (named.ClockingBlock p ss) = refl
level_object at up place named.Other = refl

-- and so is what a port stands for
pub level_thing : (ar : Around) (at : Place) (up place : ℕ) (n : Named) → port_thing ar at n ≡ port_thing ar at (at_level up place n)
level_thing ar at up place (named.Local u p t) = refl
level_thing ar at up place (named.Itself c (result_variable.Local u p t)) = refl
level_thing ar at up place (named.Itself c (result_variable.Object p t)) = refl
level_thing ar at up place (named.Variable p t) = refl
level_thing ar at up place (named.Net p t) = refl
level_thing ar at up place (named.Input p n t) = refl
level_thing ar at up place (named.Property c q n t) = refl
level_thing ar at up place (named.StaticProperty c q o t) = refl
level_thing ar at up place (named.Constant t b) = refl
level_thing ar at up place (named.TypeName t) = refl
level_thing ar at up place (named.ClassName p) = refl
level_thing ar at up place (named.Subroutine c) = refl
level_thing ar at up place (named.ClockingBlock p ss) = refl
level_thing ar at up place named.Other = refl

-- ---- what a port stands for in its unit

module _ (c : Inst) (p : PortInfo) (s : Scope) where
  -- by what is found
  abbrev known_by : Option Found → Checked Named
  known_by None = broken_at 6 p.name.at
  known_by (Some f) = value_found f

  known_at : (o : Option Found) → declared_in 0 0 p.name.text c.group.scope.known ≡ o → port_known c p ≡ known_by o
  known_at None is = rw is
  known_at (Some f) is = rw is

  known_is : (o : Option Found) → c.group.scope ≡ s → o ≡ declared_in 0 0 p.name.text s.known → port_known c p ≡ known_by o
  known_is o scope is = known_at o (ap (λ (t : Scope). declared_in 0 0 p.name.text t.known) scope ∙ sym is)

  pub none_known : c.group.scope ≡ s → None ≡ declared_in 0 0 p.name.text s.known → port_known c p ≡ broken_at 6 p.name.at
  none_known scope is = known_is None scope is

  pub good_known : (f : Found) (n : Named) → c.group.scope ≡ s → Some f ≡ declared_in 0 0 p.name.text s.known → f.known.value ≡ Good n
      → port_known c p ≡ Good (at_level f.up f.place n)
  good_known f n scope is good = known_is (Some f) scope is ∙ ap (placed_at f.up f.place) good

  pub broken_known : (f : Found) (b : Fault) → c.group.scope ≡ s → Some f ≡ declared_in 0 0 p.name.text s.known → f.known.value ≡ Broken b
      → port_known c p ≡ Broken b
  broken_known f b scope is broken = known_is (Some f) scope is ∙ ap (placed_at f.up f.place) broken

-- ---- the object of the same name

module _ (ar : Around) (at : Place) (x : Name) where
  -- by what the name is found as
  abbrev by_found : Option (Checked Named) → Checked (Unit {0})
  by_found None = broken_at 9 at
  by_found (Some (Good n)) = is_object at n
  by_found (Some (Broken f)) = Broken f where_also kind_stands ar 9 at is_object_kind x.text

  finds_is : (o : Option (Checked Named)) → found ar x.text ≡ o → finds_object ar at x ≡ by_found o
  finds_is None is = rw is
  finds_is (Some (Good n)) is = rw is
  finds_is (Some (Broken f)) is = rw is

  pub none_found : None ≡ declared_from 0 x.text ar.scopes → broken_at 9 at ≡ finds_object ar at x
  none_found is = sym (finds_is None (sym (ap (option_map value_found) is)))

  pub good_found : (f : Found) (n : Named) → Some f ≡ declared_from 0 x.text ar.scopes → f.known.value ≡ Good n
      → is_object at n ≡ finds_object ar at x
  good_found f n is good =
      let value : found ar x.text ≡ Some (Good (at_level f.up f.place n)) =
      sym (ap (option_map value_found) is) ∙ ap (λ (v : Checked Named). Some (placed_at f.up f.place v)) good in
      level_object at f.up f.place n ∙ sym (finds_is (Some (Good (at_level f.up f.place n))) value)

  pub broken_found : (f : Found) (b : Fault) → Some f ≡ declared_from 0 x.text ar.scopes → f.known.value ≡ Broken b
      → (Broken b where_also kind_stands ar 9 at is_object_kind x.text) ≡ finds_object ar at x
  broken_found f b is broken =
      let value : found ar x.text ≡ Some (Broken b) =
      sym (ap (option_map value_found) is) ∙ ap (λ (v : Checked Named). Some (placed_at f.up f.place v)) broken in
      sym (finds_is (Some (Broken b)) value)

-- Names among those of several lists.
use Rattle.std.proofs.Common.{◌≡◌, ℕ, Bool, true, false, List, [], ◌∷◌, ◌++◌, Some, None, refl, sym, ap, ◌∙◌}
use Rattle.std.specs.Prelude.{flat_map, ◌||◌}
use Rattle.sv_tree.specs.Descriptions as tree
use Rattle.sv_names.specs.Index.{has_name}
use Rattle.sv_names.specs.Instances.{Definition, all_used, used_names}
use Rattle.sv_names.specs.Types.{same_bytes, among}
use Rattle.sv_names.specs.declared.name_set.NameSet.{NameSet}
use Rattle.sv_elab_unit.specs.Definitions.{definition_of}
use Rattle.sv_elab_unit.specs.Roots.{Adds, AddsUsed}
use Rattle.sv_elab_unit.proofs.DefinitionLaws.{without, with_first}

pub or_false : (b : Bool) → b ≡ (b || false)
or_false true = refl
or_false false = refl

or_assoc : (a b c : Bool) → (a || (b || c)) ≡ ((a || b) || c)
or_assoc true b c = refl
or_assoc false b c = refl

or_swap : (a b c : Bool) → (b || (a || c)) ≡ ((a || b) || c)
or_swap true true c = refl
or_swap true false c = refl
or_swap false b c = refl

among_both : (x : List ℕ) (ys zs : List (List ℕ)) → among x (ys ++ zs) ≡ (among x ys || among x zs)
among_both x [] zs = refl
among_both x (y ∷ ys) zs =
    ap (λ (b : Bool). same_bytes x y || b) (among_both x ys zs) ∙ or_assoc (same_bytes x y) (among x ys) (among x zs)

module _ (s t : NameSet) where
  pub adds_one : (n : List ℕ) → ((x : List ℕ) → has_name t x ≡ (same_bytes x n || has_name s x)) → Adds s t (n ∷ [])
  adds_one n is x = is x ∙ ap (λ (b : Bool). b || has_name s x) (or_false (same_bytes x n))

  -- what is added before more
  pub adds_turn : (here more : List (List ℕ)) → Adds s t here → (x : List ℕ) → (among x more || has_name t x) ≡ (among x (here ++ more) || has_name s x)
  adds_turn here more is x =
      ap (λ (b : Bool). among x more || b) (is x) ∙ or_swap (among x here) (among x more) (has_name s x)
      ∙ ap (λ (b : Bool). b || has_name s x) (sym (among_both x here more))

  -- what a unit instantiates
  pub used_unit : (d : tree.Description) (u : Definition) → Some u ≡ definition_of d → Adds s t (flat_map used_names u.element.items) → AddsUsed s t d
  used_unit d u unit is us x =
      adds_turn (flat_map used_names u.element.items) (all_used us) is x
      ∙ sym (ap (λ (ds : List Definition). among x (flat_map (λ u. flat_map used_names u.element.items) ds) || has_name s x) (with_first d u us unit))

-- what is no unit instantiates none
pub used_outside : (s : NameSet) (d : tree.Description) → None ≡ definition_of d → AddsUsed s s d
used_outside s d none us x =
    sym (ap (λ (ds : List Definition). among x (flat_map (λ u. flat_map used_names u.element.items) ds) || has_name s x) (without d us none))

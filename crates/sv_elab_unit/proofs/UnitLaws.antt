-- An index of units by their names grows with them.
use Rattle.std.proofs.Common.{◌≡◌, ℕ, Bool, true, false, cond, List, [], ◌∷◌, ◌++◌, Option, Some, None, option_map, is_some, Vec, refl, sym, ap, subst, ◌∙◌, append-nil}
use Rattle.std.specs.Cmp.Lexicographic.{bytes_decides, nat_list_eq_equiv}
use Rattle.std.specs.BTreeMap.{BTreeMap, Updates}
use Rattle.sv_tree.specs.Descriptions as tree
use Rattle.sv_names.specs.Instances as instances
use Rattle.sv_names.specs.Instances.{name_of, first_named, definitions}
use Rattle.sv_names.specs.Named.{nearest}
use Rattle.sv_names.specs.Types.{same_bytes}
use Rattle.sv_names.specs.Index.{at_name}
use Rattle.sv_names.proofs.ByName.{by_bytes, updated}
use Rattle.sv_names.proofs.FirstLemmas.{chosen, nearest-none, nearest-some, none_of}
use Rattle.sv_elab_unit.specs.declared.definitions.Definition.{Definition}
use Rattle.sv_elab_unit.specs.Definitions.{definition_in, definition_of}
use Rattle.sv_elab_unit.specs.Units.{Finds}
use Rattle.sv_elab_unit.proofs.DefinitionLaws.{with_first, without}

is_some-map : {A B : Type 0} (f : A → B) (r : Option A) → is_some (option_map f r) ≡ is_some r
is_some-map f None = refl
is_some-map f (Some a) = refl

first_named-append : (x : List ℕ) (us : List instances.Definition) (u : instances.Definition)
    → first_named x (us ++ u ∷ []) ≡ nearest (first_named x us) (cond (same_bytes x (name_of u).text) (Some u) None)
first_named-append x [] u = refl
first_named-append x (v ∷ us) u = chosen (same_bytes x (name_of v).text) v _ _ _ (first_named-append x us u)

module _ {A : Type 0} (first : BTreeMap (Vec ℕ A) Definition) (us : List instances.Definition) (u : Definition) (n : List ℕ)
    (name : n ≡ (name_of (definition_in u)).text) (is : Finds first us) where
  abbrev known : List ℕ → Option instances.Definition
  known x = first_named x us

  -- a unit of a name that is known does not change it
  pub stays : is_some (at_name n first) ≡ true → Finds first (us ++ definition_in u ∷ [])
  stays there x =
      is x ∙ sym (first_named-append x us (definition_in u) ∙ by (same_bytes x (name_of (definition_in u)).text) refl)
    where
      by : (b : Bool) → same_bytes x (name_of (definition_in u)).text ≡ b → nearest (known x) (cond b (Some (definition_in u)) None) ≡ known x
      by false e = nearest-none (known x)
      by true e =
          let same : x ≡ n = (bytes_decides x (name_of (definition_in u)).text).0 e ∙ sym name in
          nearest-some (known x) _ (subst (λ y. is_some (known y) ≡ true) (sym same)
          (ap is_some (sym (is n)) ∙ is_some-map definition_in _ ∙ there))

  -- a new one is found
  pub grows : (new : BTreeMap (Vec ℕ A) Definition) (k : Vec ℕ A) → k.items ≡ n → is_some (at_name n first) ≡ false
      → Updates by_bytes first new k (Some u) → Finds new (us ++ definition_in u ∷ [])
  grows new k named absent updates x =
      ap (option_map definition_in) (updated first new k n u named updates x) ∙ by (same_bytes n x) refl
      ∙ sym (first_named-append x us (definition_in u))
    where
      text : (b : Bool) → same_bytes n x ≡ b → same_bytes x (name_of (definition_in u)).text ≡ b
      text b e = ap (same_bytes x) (sym name) ∙ nat_list_eq_equiv.symm x n ∙ e

      by : (b : Bool) → same_bytes n x ≡ b → option_map definition_in (cond b (Some u) (at_name x first))
          ≡ nearest (known x) (cond (same_bytes x (name_of (definition_in u)).text) (Some (definition_in u)) None)
      by false e = is x ∙ sym (ap (λ b. nearest (known x) (cond b (Some (definition_in u)) None)) (text false e) ∙ nearest-none (known x))
      by true e =
          let none : known x ≡ None =
          subst (λ y. known y ≡ None) ((bytes_decides n x).0 e) (sym (is n) ∙ ap (option_map definition_in) (none_of _ absent)) in
          sym (λ j. nearest (none j) (cond (text true e j) (Some (definition_in u)) None))

-- ---- one description after another

definitions-append : (ds es : List tree.Description) → definitions (ds ++ es) ≡ definitions ds ++ definitions es
definitions-append [] es = refl
definitions-append (tree.Module e ∷ ds) es = ap (λ us. record { is_program = false; element = e } ∷ us) (definitions-append ds es)
definitions-append (tree.Program e ∷ ds) es = ap (λ us. record { is_program = true; element = e } ∷ us) (definitions-append ds es)
definitions-append (tree.Item i ∷ ds) es = definitions-append ds es

module _ {A : Type 0} (new : BTreeMap (Vec ℕ A) Definition) (ds : List tree.Description) (d : tree.Description) where
  -- one that is a unit
  pub unit_behind : (u : instances.Definition) → Some u ≡ definition_of d → Finds new (definitions ds ++ u ∷ [])
      → Finds new (definitions (ds ++ d ∷ []))
  unit_behind u is = subst (λ us. Finds new us) (sym (definitions-append ds (d ∷ []) ∙ ap (λ us. definitions ds ++ us) (with_first d u [] is)))

  -- one that is none
  pub none_behind : None ≡ definition_of d → Finds new (definitions ds) → Finds new (definitions (ds ++ d ∷ []))
  none_behind is =
      subst (λ us. Finds new us) (sym (definitions-append ds (d ∷ []) ∙ ap (λ us. definitions ds ++ us) (without d [] is) ∙ append-nil (definitions ds)))

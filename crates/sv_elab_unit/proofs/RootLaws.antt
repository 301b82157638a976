-- Roots, one unit after another.
use Rattle.std.proofs.Common.{◌≡◌, ℕ, Bool, true, false, List, [], ◌∷◌, ◌++◌, map, Some, None, refl, sym, ap, ◌∙◌, append_assoc, append-nil, if◌then◌else◌}
use Rattle.std.specs.Prelude.{not, cond, filter, ◌||◌}
use Rattle.sv_tree.specs.Descriptions as tree
use Rattle.sv_names.specs.Instances.{Definition, definitions, name_of, all_used, first_of_name, roots}
use Rattle.sv_names.specs.Index.{has_name}
use Rattle.sv_names.specs.Types.{among, same_bytes}
use Rattle.sv_names.specs.declared.name_set.NameSet.{NameSet}
use Rattle.sv_elab_unit.specs.declared.definitions.Definition as declared
use Rattle.sv_elab_unit.specs.Definitions.{definition_of, definition_in}
use Rattle.sv_elab_unit.specs.Roots.{first_unseen, roots_behind}
use Rattle.sv_elab_unit.proofs.DefinitionLaws.{without, with_first}

module _ (used seen : NameSet) (kept : List Definition) (u : Definition) (rest : List Definition) where
  -- the units that are not instantiated
  abbrev unused : List Definition → List Definition
  unused ds = filter (λ u. not (has_name used (name_of u).text)) ds

  pub used_root : has_name used (name_of u).text ≡ true
      → roots_behind used seen kept rest ≡ roots_behind used seen kept (u ∷ rest)
  unfolding roots_behind
  used_root is =
      sym (ap (λ (b : Bool). kept ++ first_unseen (has_name seen) (cond (not b) (u ∷ unused rest) (unused rest))) is)

  -- one that is not instantiated
  abbrev first_kept : Bool → List Definition
  first_kept b =
      kept ++ (if b then first_unseen (has_name seen) (unused rest)
      else u ∷ first_unseen (λ x. same_bytes x (name_of u).text || has_name seen x) (unused rest))

  not_used : has_name used (name_of u).text ≡ false
      → roots_behind used seen kept (u ∷ rest) ≡ first_kept (has_name seen (name_of u).text)
  unfolding roots_behind
  not_used is = ap (λ (b : Bool). kept ++ first_unseen (has_name seen) (cond (not b) (u ∷ unused rest) (unused rest))) is

  pub seen_root : has_name used (name_of u).text ≡ false → has_name seen (name_of u).text ≡ true
      → roots_behind used seen kept rest ≡ roots_behind used seen kept (u ∷ rest)
  unfolding roots_behind
  seen_root is met = sym (not_used is ∙ ap first_kept met)

  pub next_root : (next : NameSet) → has_name used (name_of u).text ≡ false → has_name seen (name_of u).text ≡ false
      → ((x : List ℕ) → has_name next x ≡ (same_bytes x (name_of u).text || has_name seen x))
      → roots_behind used next (kept ++ u ∷ []) rest ≡ roots_behind used seen kept (u ∷ rest)
  unfolding roots_behind
  next_root next is new grown =
      append_assoc kept (u ∷ []) (first_unseen (has_name next) (unused rest))
      ∙ (λ i. kept ++ u ∷ first_unseen (λ x. grown x i) (unused rest)) ∙ sym (not_used is ∙ ap first_kept new)

map_last : (us : List declared.Definition) (u : declared.Definition) → map definition_in (us ++ u ∷ []) ≡ map definition_in us ++ definition_in u ∷ []
map_last [] u = refl
map_last (x ∷ us) u = ap (λ ds. definition_in x ∷ ds) (map_last us u)

-- a root is appended
pub root_added : (used seen next : NameSet) (kept kept' : List declared.Definition) (u : declared.Definition) (rest : List Definition)
    → has_name used u.element.now.name.text ≡ false → has_name seen u.element.now.name.text ≡ false
    → ((x : List ℕ) → has_name next x ≡ (same_bytes x u.element.now.name.text || has_name seen x)) → kept' ≡ kept ++ u ∷ []
    → roots_behind used next (map definition_in kept') rest ≡ roots_behind used seen (map definition_in kept) (definition_in u ∷ rest)
root_added used seen next kept kept' u rest is new grown list =
    ap (λ (ds : List Definition). roots_behind used next ds rest) (ap (map definition_in) list ∙ map_last kept u)
    ∙ next_root used seen (map definition_in kept) (definition_in u) rest next is new grown

-- a description that is no unit
pub turn_outside : (used seen : NameSet) (kept : List Definition) (d : tree.Description) (ds : List tree.Description)
    → None ≡ definition_of d
    → roots_behind used seen kept (definitions ds) ≡ roots_behind used seen kept (definitions (d ∷ ds))
turn_outside used seen kept d ds is = sym (ap (roots_behind used seen kept) (without d ds is))

-- a unit among the descriptions
pub turn_unit : (used seen : NameSet) (kept : List Definition) (d : tree.Description) (u : Definition) (ds : List tree.Description)
    → Some u ≡ definition_of d
    → roots_behind used seen kept (u ∷ definitions ds) ≡ roots_behind used seen kept (definitions (d ∷ ds))
turn_unit used seen kept d u ds is = sym (ap (roots_behind used seen kept) (with_first d u ds is))

unseen_is : (ns : List (List ℕ)) (us : List Definition) → first_unseen (λ x. among x ns) us ≡ first_of_name ns us
unseen_is ns [] = refl
unseen_is ns (u ∷ us) =
    λ i. if among (name_of u).text ns then unseen_is ns us i else u ∷ unseen_is ((name_of u).text ∷ ns) us i

-- before all
pub roots_begin : (used seen : NameSet) (us : List tree.Description) → ((x : List ℕ) → has_name used x ≡ among x (all_used us))
    → ((x : List ℕ) → has_name seen x ≡ false) → roots_behind used seen [] (definitions us) ≡ roots us None
unfolding roots_behind
roots_begin used seen us is none =
    (λ i. first_unseen (λ x. none x i) (filter (λ u. not (is (name_of u).text i)) (definitions us)))
    ∙ unseen_is [] (filter (λ u. not (among (name_of u).text (all_used us))) (definitions us))

-- behind all
pub roots_end : (used seen : NameSet) (kept : List Definition) → roots_behind used seen kept [] ≡ kept
unfolding roots_behind
roots_end used seen kept = append-nil kept

-- Roots, one unit after another.
use Rattle.std.specs.Prelude.{◌≡◌, ℕ, Bool, not, ◌||◌, if◌then◌else◌, List, [], ◌∷◌, ◌++◌, filter}
use Rattle.sv_tree.specs.Descriptions.{Description}
use Rattle.sv_names.specs.Index.{has_name}
use Rattle.sv_names.specs.Instances as instances
use Rattle.sv_names.specs.Types.{among, same_bytes}
use Rattle.sv_names.specs.declared.name_set.NameSet.{NameSet}

-- a set with names added
abbrev pub Adds : NameSet → NameSet → List (List ℕ) → Type 0
Adds s t ns = (x : List ℕ) → has_name t x ≡ (among x ns || has_name s x)

-- a set with what a description instantiates added
abbrev pub AddsUsed : NameSet → NameSet → Description → Type 0
AddsUsed s t d = (us : List Description) (x : List ℕ)
    → (among x (instances.all_used us) || has_name t x) ≡ (among x (instances.all_used (d ∷ us)) || has_name s x)

-- the first unit of each name that is not yet seen
abbrev pub first_unseen : (List ℕ → Bool) → List instances.Definition → List instances.Definition
first_unseen seen [] = []
first_unseen seen (u ∷ us) =
    if seen (instances.name_of u).text then first_unseen seen us
    else u ∷ first_unseen (λ x. same_bytes x (instances.name_of u).text || seen x) us

-- the roots so far, and those among further units
unfoldable pub roots_behind : NameSet → NameSet → List instances.Definition → List instances.Definition → List instances.Definition
roots_behind used seen kept rest = kept ++ first_unseen (has_name seen) (filter (λ u. not (has_name used (instances.name_of u).text)) rest)

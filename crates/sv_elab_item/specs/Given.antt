-- All that is given, one item after another.
use Rattle.std.specs.Prelude.{List, [], ◌∷◌, Result, map}
use Rattle.sv_tree.specs.Descriptions.{Description}
use Rattle.sv_names.specs.declared.checked.Checked.{Checked}
use Rattle.sv_names.specs.declared.refusal.Refusal.{Refusal}
use Rattle.sv_names.specs.Checked.{each}
use Rattle.sv_names.specs.Groups.{Group}
use Rattle.sv_names.specs.Instances.{Walked, outside}
use Rattle.sv_names.specs.Items.{GivenParts, common_parts, file_parts, walked_parts}
use Rattle.sv_names.specs.Joined.{joined}
use Rattle.sv_names.specs.Named.{Around}
use Rattle.sv_elab_parts.specs.declared.so_far.SoFar.{SoFar}
use Rattle.sv_elab_parts.specs.Adding.{AddingAll}

-- what stands outside units, of these descriptions
abbrev pub all_described : Around → List Description → Checked (List GivenParts)
all_described ar ds = each (λ c. c) (map (common_parts ar []) (outside ds))

-- and of one
abbrev pub described : Around → Description → Checked (List GivenParts)
described ar d = all_described ar (d ∷ [])

-- what stands outside units
abbrev pub outside_given : List Description → Around → Group → Checked (List GivenParts)
outside_given us files g = each (λ c. c) (file_parts us files g)

-- what is met on the walk
abbrev pub walked_given : List Description → Around → List Walked → Checked (List GivenParts)
walked_given us files ws = each (walked_parts us files) ws

-- items that are added behind others
abbrev pub AddsBehind : (x x' : SoFar) → (before after : Result (Unit {0}) Refusal) → Checked (List GivenParts) → Type 0
AddsBehind x x' before after c =
    (start : SoFar) (b : Checked (List GivenParts)) → AddingAll start x before b → AddingAll start x' after (joined b c)

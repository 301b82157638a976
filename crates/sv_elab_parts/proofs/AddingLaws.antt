-- Items one after another.
use Rattle.std.proofs.Common.{◌≡◌, List, [], ◌∷◌, ◌++◌, subst, sym, refl}
use Rattle.sv_names.specs.Items.{GivenParts}
use Rattle.sv_elab_parts.specs.declared.so_far.SoFar.{SoFar}
use Rattle.sv_elab_parts.specs.Adding.{Adds, AddsAll}

-- an item behind others
pub added_behind : (x y z : SoFar) → (gs : List GivenParts) → (g : GivenParts) → AddsAll x y gs → Adds y z g
    → AddsAll x z (gs ++ g ∷ [])
added_behind x y z [] g is one = (z, subst (λ u. Adds u z g) is one, refl)
added_behind x y z (h ∷ hs) g (m, first, rest) one = (m, first, added_behind m y z hs g rest one)

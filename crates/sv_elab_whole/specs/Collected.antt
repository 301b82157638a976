-- What all items give, as it stands so far.
use Rattle.std.specs.Prelude.{◌≡◌, ℕ, List, Result, Ok, Err, map}
use Rattle.sv_names.specs.declared.checked.Checked.{Checked}
use Rattle.sv_names.specs.declared.checked.Checked.TheVariants.{Good}
use Rattle.sv_names.specs.declared.refusal.Refusal.{Refusal}
use Rattle.sv_names.specs.Design as design
use Rattle.sv_names.specs.Given.{Fails}
use Rattle.sv_names.specs.Items.{GivenParts}
use Rattle.sv_elab_parts.specs.declared.so_far.SoFar.{SoFar}
use Rattle.sv_elab_parts.specs.Adding.{so_far_in}

-- what stands so far is what the items give, behind so many places
pub record IsGiven (n : ℕ) (x : SoFar) (gs : List GivenParts) : Type 0 where
  pub so_far : so_far_in x ≡ design.with_each design.with_given (design.none_so_far n) gs
  pub classes : x.class_paths ≡ (design.all_parts gs).class_paths
  pub subroutines : x.subroutine_paths ≡ map (λ m. m.path) (design.all_parts gs).subroutines
  pub clockings : x.clocking_paths ≡ map (λ m. m.path) (design.all_parts gs).clockings

-- what all items give stands so far, or the first rule that is broken is told; or memory ran out
abbrev pub GivesParts : (n : ℕ) → Result SoFar Refusal → Checked (List GivenParts) → Type 0
GivesParts n (Ok x) c = (gs : List GivenParts) × (c ≡ Good gs) × IsGiven n x gs
GivesParts n (Err e) c = Fails e c

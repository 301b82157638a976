-- Elaboration, step by step.
use Rattle.std.proofs.Common.{◌≡◌, ◌∙◌, ℕ, Bool, List, [], ◌∷◌, map, ap, sym, subst}
use Rattle.std.specs.Prelude.{Result, Ok, Err, IsErrAnd}
use Rattle.sv_flat.specs.declared.design.Scale.{Scale}
use Rattle.sv_tree.specs.Descriptions.{Description}
use Rattle.sv_names.specs.declared.around.Around as code_around
use Rattle.sv_names.specs.declared.checked.Checked.{Checked}
use Rattle.sv_names.specs.declared.numbers.Numbers as code_numbers
use Rattle.sv_names.specs.declared.refusal.Refusal.{Refusal}
use Rattle.sv_names.specs.declared.refusal.Refusal.TheVariants.{Rule, Memory}
use Rattle.sv_names.specs.Checked.{given, ◌▷◌}
use Rattle.sv_names.specs.Design.{foreseen, same_paths}
use Rattle.sv_names.specs.Given.{Fails, Gives}
use Rattle.sv_names.specs.Groups.{Group}
use Rattle.sv_names.specs.Instances.{Walked, nowhere_around, file_around}
use Rattle.sv_names.specs.Items.{GivenParts}
use Rattle.sv_names.specs.Types.{Numbers}
use Rattle.sv_names.specs.Views.{around_in}
use Rattle.sv_elab_parts.specs.declared.so_far.SoFar.{SoFar}
use Rattle.sv_elab_whole.specs.Collected.{IsGiven}
use Rattle.sv_elab_whole.specs.Numbering.{IsForeseen, paths_so_far, plain_paths}
use Rattle.sv_elab_whole.proofs.NumberLaws.{paths_given}
use Rattle.sv_elab_design.specs.Elaborating.{paths}

-- what is seen outside units is what is seen nowhere, with the scope and the classes of the files
pub files_seen : (ns : Numbers) (s : Scale) (g : Group) (outer seen : code_around.Around) → around_in outer ≡ nowhere_around ns s
    → seen ≡ record outer { scopes = seen.scopes; classes = seen.classes } → map (λ x. x.now) seen.scopes.now ≡ g.scope ∷ []
    → map (λ k. k.now) seen.classes.now ≡ g.classes → around_in seen ≡ file_around ns s g
files_seen ns s g outer seen nowhere same scopes classes =
    ap around_in same ∙ (λ j. record (nowhere j) { scopes = scopes j; classes = classes j })

-- what breaks a rule gives nothing
pub fails_given : {A B : Type 0} (h : A → B) (x : Checked A) (e : Refusal) → Fails e x → Fails e (given h x)
fails_given h x (Rule n at) fails = ap (given h) fails
fails_given h x Memory fails = tt

-- what breaks a rule breaks it before what follows
pub fails_then : {A B : Type 0} (go : A → Checked B) (x : Checked A) (e : Refusal) → Fails e x → Fails e (x ▷ go)
fails_then go x (Rule n at) fails = ap (λ y. y ▷ go) fails
fails_then go x Memory fails = tt

-- what stops for want of memory says nothing
pub stopped : {A : Type 0} (r : Result A Refusal) (x : Checked A) → IsErrAnd r (λ e. e ≡ Memory) → Gives r x
stopped (Ok a) x is = absurd is
stopped (Err e) x is = subst (λ f. Fails f x) (sym is) tt

-- the paths that the code compares are those that the definition compares
pub foreseen_is : (us : List Description) (ws : List Walked) (ns : code_numbers.Numbers) (n : ℕ) (x : SoFar) (gs : List GivenParts) (b : Bool)
    → IsForeseen us ws ns → IsGiven n x gs → b ≡ same_paths (plain_paths ns.objects ns.subroutines) (paths_so_far x)
    → same_paths (foreseen us ws) (paths gs) ≡ b
foreseen_is us ws ns n x gs b seen given is =
    sym (is ∙ (λ j. same_paths (plain_paths (seen.objects j) (seen.subroutines j)) (paths_given n x gs given j)))

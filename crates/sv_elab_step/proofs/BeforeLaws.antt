-- What stands in a target before a part that breaks a rule, from the left, and what it breaks.
use Rattle.std.proofs.Common.{◌≡◌, Option, Some, None, refl}
use Rattle.sv_value.specs.declared.place.Place.{Place}
use Rattle.sv_names.specs.declared.checked.Checked.{Checked}
use Rattle.sv_names.specs.declared.checked.Checked.TheVariants.{Good, Broken}
use Rattle.sv_names.specs.declared.typed.How.{How}
use Rattle.sv_names.specs.declared.typed.Typed.{Typed}
use Rattle.sv_names.specs.Expressions.{as_target, or_before, if_broken}
use Rattle.sv_names.specs.Named.{Around}
use Rattle.sv_names.specs.Targets.{Spot, may_be_written}
use Rattle.sv_names.specs.Things.{Thing, A_value, A_subroutine, A_method, Its_result, A_block, The_signal, A_type, one_spot, thing_target}
use Rattle.sv_elab_name.specs.Things.{no_target}
use Rattle.sv_elab_step.specs.Before.{or_else, kept, first_stands, one_or, spot_of}

-- what is kept on the way goes before what stands further behind
pub kept_first : (before made : Option Typed) (next : Checked Thing) (go : Checked Thing → Option Typed)
    → or_else (kept before made next) (go next) ≡ or_else before (if_broken made next go)
kept_first (Some t) made next go = refl
kept_first None (Some t) (Good th) go = refl
kept_first None (Some t) (Broken f) go = refl
kept_first None None (Good th) go = refl
kept_first None None (Broken f) go = refl

-- a thing as a target, by what it is as one
pub target_is : (ar : Around) (h : How) (pe : Place) (th : Thing)
    → spot_of h pe (no_target pe th) (as_target ar (Good th)) ≡ thing_target ar h pe th
target_is ar h pe (A_value t) = refl
target_is ar h pe (A_subroutine c o direct at) = refl
target_is ar h pe (A_method m o at) = refl
target_is ar h pe (Its_result c o v at) = refl
target_is ar h pe (A_block p ss at) = refl
target_is ar h pe (The_signal b i s at) = refl
target_is ar h pe (A_type t at) = refl

-- what a target of one part breaks
one_is : (h : How) (at : Place) (m : Checked Spot) (b : Option Typed) (t : Typed)
    → one_or m (first_stands h at b t) ≡ or_before h at (one_spot m) (λ _. or_else b (Some t))
one_is h at (Good s) b t = refl
one_is h at (Broken f) (Some b) t = refl
one_is h at (Broken f) None t = refl

pub written_is : (h : How) (at : Place) (b : Option Typed) (t : Typed)
    → one_or (may_be_written h at t) (first_stands h at b t) ≡ or_before h at (one_spot (may_be_written h at t)) (λ _. or_else b (Some t))
written_is h at b t = one_is h at (may_be_written h at t) b t

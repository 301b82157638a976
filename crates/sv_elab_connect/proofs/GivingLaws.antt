-- A target and a value, each of which may break a rule.
use Rattle.std.proofs.Common.{◌≡◌, List, ◌++◌, None, Result, Ok, Err, map, length, sym, ap, subst}
use Rattle.std.specs.Prelude.{IfOk, IfErr, OnOk}
use Rattle.sv_value.specs.declared.place.Place.{Place}
use Rattle.sv_flat.specs.declared.class.Routine.{Routine}
use Rattle.sv_flat.specs.declared.process.Process.{Process}
use Rattle.sv_flat.specs.declared.process.ProcessKind.{ProcessKind}
use Rattle.sv_names.specs.declared.checked.Checked.{Checked}
use Rattle.sv_names.specs.declared.checked.Checked.TheVariants.{Good, Broken}
use Rattle.sv_names.specs.declared.refusal.Refusal.{Refusal}
use Rattle.sv_names.specs.declared.refusal.Refusal.TheVariants.{Rule, Memory}
use Rattle.sv_names.specs.declared.typed.Typed.{Typed}
use Rattle.sv_names.specs.Checked.{◌▷◌, given}
use Rattle.sv_names.specs.Connections.{Made, made_of}
use Rattle.sv_names.specs.Given.{Fails}
use Rattle.sv_names.specs.Named.{Around}
use Rattle.sv_names.specs.Targets.{Spot, type_of_target}
use Rattle.sv_names.specs.Types.{Path}
use Rattle.sv_names.specs.Values.{assigned}
use Rattle.sv_flat.specs.declared.stmt.Form.{Form}
use Rattle.sv_names.specs.declared.hoisted.Hoisted.{Hoisted}
use Rattle.sv_names.specs.Assignments.{given_to}
use Rattle.sv_elab_drive.specs.Driven.{driving, nets_of}
use Rattle.sv_elab_drive.specs.Making.{EmitsProcess}
use Rattle.sv_elab_drive.proofs.DrivenLaws.{process_with, made_whole}

-- a rule that is broken before
pub fails_through : {A B : Type 0} (x : Checked A) (go : A → Checked B) (e : Refusal) → Fails e x → Fails e (x ▷ go)
fails_through (Good p) go (Rule n place) is = cc
fails_through (Broken f) go (Rule n place) is = let same : f ≡ record { at = place; rule = n } = cc in ap Broken same
fails_through (Good p) go Memory is = tt
fails_through (Broken f) go Memory is = tt

module _ (ar : Around) (at : Place) (k : ProcessKind) where
  -- the process of a target and a value that begins at a place
  abbrev pub given_both : Place → List Spot × Typed → Checked Made
  given_both q p = given (made_of ar at k p.0) (assigned ar (type_of_target p.0) q p.1)

  -- where both break no rule
  pub both_good : (b b' : List Path) (rs rs' : List Routine) (r : Result Process Refusal) (ss : List Spot) (t : Typed) (q q' : Place)
      (x : Checked (List Spot × Typed)) → x ≡ Good (ss, t) → q ≡ q' → EmitsProcess b b' rs rs' r (given_both q (ss, t))
      → EmitsProcess b b' rs rs' r (x ▷ given_both q')
  both_good b b' rs rs' r ss t q q' x good place made =
      let there : EmitsProcess b b' rs rs' r (given_both q' (ss, t)) =
      subst (λ (p : Place). EmitsProcess b b' rs rs' r (given_both p (ss, t))) place made in
      subst (λ (y : Checked (List Spot × Typed)). EmitsProcess b b' rs rs' r (y ▷ given_both q')) (sym good) there

  -- where one breaks a rule
  pub both_broken : (q : Place) (x : Checked (List Spot × Typed)) (e : Refusal) → Fails e x → Fails e (x ▷ given_both q)
  both_broken q x e is = fails_through x (given_both q) e is

module _ (ar : Around) (at : Place) (k : ProcessKind) (before : List Path) (ss : List Spot) (before' : List Path) (rs rs' : List Routine)
    (pv : Place) (t : Typed) where
  -- a process whose form is made
  pub put_whole : (f : Hoisted Form) (r : Result Process Refusal)
      → (assigned ar (type_of_target (map (driving before) ss)) pv t ▷ given_to ar None (map (driving before) ss)) ≡ Good f
      → OnOk r (before' ≡ before ++ nets_of ss)
      → IfOk r (λ p. p ≡ (process_with ar at k before f (length rs)).0) → OnOk r (rs' ≡ rs ++ (process_with ar at k before f (length rs)).1)
      → IfErr r (λ e. e ≡ Memory)
      → EmitsProcess before before' rs rs' r (given (made_of ar at k ss) (assigned ar (type_of_target ss) pv t))
  put_whole f (Ok p) is drives value added none =
      made_whole ar at k before ss before' rs rs' pv t f (Ok p) is drives value added none
  put_whole f (Err e) is drives value added none =
      subst (λ (x : Refusal). Fails x (given (made_of ar at k ss) (assigned ar (type_of_target ss) pv t))) (sym none) tt

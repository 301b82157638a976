-- A unit with its classes is a group whose shape no round changes.
use Rattle.std.proofs.Common.{◌≡◌, ℕ, suc, Bool, true, false, List, [], ◌∷◌, refl, ap, ◌∙◌}
use Rattle.sv_names.specs.Types.{Path}
use Rattle.sv_names.specs.Named.{Around}
use Rattle.sv_names.specs.Rounds.{Row, settled}
use Rattle.sv_names.specs.Scopes.{value_of_any}
use Rattle.sv_names.specs.Groups.{Group, Head, group_of, infos_from, info_of, with_around, evaluated}
use Rattle.sv_elab_scope.specs.declared.declared.Entry.{Entry}
use Rattle.sv_elab_scope.specs.Rows.{all_rows, classes_over, group_over}
use Rattle.sv_elab_scope.specs.Settling.{Meant, prepare_over, evaluated_by}
use Rattle.sv_elab_scope.specs.Ending.{settled_group}
use Rattle.sv_elab_scope.proofs.AloneLaws.{settled-like}

-- what the declarations of a unit stand for
abbrev pub in_unit : Meant
in_unit l ar p e = value_of_any l ar p e e.what

classes-of : (ar : Around) (hs : List Head) (qs rs : List Row) (home : ℕ) (more : List Head)
    → classes_over home rs (infos_from ar hs qs home more) ≡ infos_from ar hs rs home more
classes-of ar hs qs rs home [] = refl
classes-of ar hs qs rs home (h ∷ more) = ap (λ cs. info_of ar hs rs home h ∷ cs) (classes-of ar hs qs rs (suc home) more)

module _ (ar : Around) (p : Path) (hs : List Head) (qs : List Row) where
  group-of : (rs : List Row) → group_over (group_of ar p hs qs) rs ≡ group_of ar p hs rs
  group-of rs = ap (λ cs. record { scope = (group_of ar p hs rs).scope; classes = cs }) (classes-of ar hs qs rs 1 hs)

  sight : (l : Bool) (rs : List Row) (r : Row)
      → evaluated_by in_unit l p (prepare_over ar (group_of ar p hs qs) rs) r ≡ evaluated l p (with_around ar (group_of ar p hs rs)) r
  sight l rs r = ap (λ (g : Group). evaluated l p (with_around ar g) r) (group-of rs)

  -- it is settled as the definition says
  pub settled-unit : (ess : List (List Entry))
      → settled_group in_unit ar p ess (group_of ar p hs qs)
      ≡ group_of ar p hs (settled (λ rs. with_around ar (group_of ar p hs rs)) (evaluated false p) (evaluated true p) (all_rows ess (group_of ar p hs qs)))
  settled-unit ess =
      ap (group_over (group_of ar p hs qs))
      (settled-like (prepare_over ar (group_of ar p hs qs)) (evaluated_by in_unit false p) (evaluated_by in_unit true p)
      (λ rs. with_around ar (group_of ar p hs rs)) (evaluated false p) (evaluated true p) (sight false) (sight true) (all_rows ess (group_of ar p hs qs)))
      ∙ group-of _

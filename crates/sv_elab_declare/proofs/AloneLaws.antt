-- A scope that stands alone is settled as the definition says.
use Rattle.std.proofs.Common.{◌≡◌, Bool, List, [], ◌∷◌, ◌||◌, map, refl, sym, ap, subst, ◌∙◌}
use Rattle.sv_names.specs.Groups.{Group}
use Rattle.sv_names.specs.Named.{Around}
use Rattle.sv_names.specs.Scopes.{is_in_activation, makes_activation, settled_scope, first_scope}
use Rattle.sv_elab_scope.specs.declared.declared.Entry.{Entry}
use Rattle.sv_elab_scope.specs.Views.{entry_in, declared_in}
use Rattle.sv_elab_scope.specs.Rows.{AllAgree, all_known}
use Rattle.sv_elab_scope.specs.Settling.{Meant}
use Rattle.sv_elab_scope.specs.Starting.{without_announcements, all_waiting}
use Rattle.sv_elab_scope.specs.Ending.{settled_group, first_group}
use Rattle.sv_elab_scope.proofs.StartLaws.{lists-agree-waiting}
use Rattle.sv_elab_scope.proofs.AloneLaws.{settled-alone, first-alone}
use Rattle.sv_elab_declare.specs.declared.scope.ScopeHead.{ScopeHead}
use Rattle.sv_elab_declare.specs.Alone.{alone, group_alone, class_in, some_in_activation}

-- the declarations of the code are those of the definition
pub activation_made : (es : List Entry) → some_in_activation es ≡ makes_activation (map entry_in es)
activation_made [] = refl
activation_made (e ∷ es) = ap (λ b. is_in_activation (declared_in e.what) || b) (activation_made es)

module _ (meant : Meant) (ar : Around) (h : ScopeHead) (es kept : List Entry) (lists : List (List Entry)) (g made : Group) (is : meant ≡ alone)
    (kept_is : kept ≡ without_announcements es) (lists_are : lists ≡ kept ∷ []) (group_is : g ≡ group_alone h (all_waiting kept)) where
  lists_path : lists ≡ without_announcements es ∷ []
  lists_path = lists_are ∙ ap (λ x. x ∷ []) kept_is

  group_path : g ≡ group_alone h (all_waiting (without_announcements es))
  group_path = group_is ∙ ap (λ x. group_alone h (all_waiting x)) kept_is

  agree : AllAgree lists (all_known g)
  agree =
      subst (λ (x : List (List Entry)). AllAgree x (all_known g)) (sym lists_path)
      (subst (λ (x : Group). AllAgree (without_announcements es ∷ []) (all_known x)) (sym group_path) (lists-agree-waiting (without_announcements es ∷ [])))

  -- a group that was settled
  pub scope_settled : (AllAgree lists (all_known g) → made ≡ settled_group meant ar h.path.now lists g)
      → made.scope ≡ settled_scope ar h.path.now (class_in h.class) h.enters (map entry_in es)
  scope_settled given =
      ap (λ (x : Group). x.scope)
      (given agree ∙ (λ i. settled_group (is i) ar h.path.now (lists_path i) (group_path i))
      ∙ settled-alone ar h.path.now (class_in h.class) h.enters es)

  -- a group after its rounds
  pub scope_first : (AllAgree lists (all_known g) → made ≡ first_group meant ar h.path.now lists g)
      → made.scope ≡ first_scope ar h.path.now (class_in h.class) h.enters (map entry_in es)
  scope_first given =
      ap (λ (x : Group). x.scope)
      (given agree ∙ (λ i. first_group (is i) ar h.path.now (lists_path i) (group_path i))
      ∙ first-alone ar h.path.now (class_in h.class) h.enters es)

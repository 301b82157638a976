-- Targets by how many parts they have, and by what they begin with.
use Rattle.std.proofs.Common.{◌≡◌, Bool, true, false, List, [], ◌∷◌, Option, Some, None, refl, ap, sym, ◌∙◌}
use Rattle.std.specs.Prelude.{if◌then◌else◌}
use Rattle.sv_value.specs.declared.place.Place.{Place}
use Rattle.sv_flat.specs.declared.stmt.Form.{Form}
use Rattle.sv_flat.specs.declared.stmt.Form.TheVariants as form
use Rattle.sv_flat.specs.declared.target.Container.{Container}
use Rattle.sv_flat.specs.Expr as flat
use Rattle.sv_names.specs.declared.checked.Fault.{Fault}
use Rattle.sv_names.specs.declared.checked.Checked.{Checked}
use Rattle.sv_names.specs.declared.checked.Checked.TheVariants.{Good, Broken}
use Rattle.sv_names.specs.declared.hoisted.Hoisted.{Hoisted}
use Rattle.sv_names.specs.declared.typed.Begin.{Begin}
use Rattle.sv_names.specs.declared.typed.Begin.TheVariants.{Signal}
use Rattle.sv_names.specs.declared.typed.Typed.{Typed}
use Rattle.sv_names.specs.Assignments.{Amount, assign_form, copy_form, given_to, later_given, no_object, resized}
use Rattle.sv_names.specs.Checked.{given, broken_at}
use Rattle.sv_names.specs.Hoisted.{mapped}
use Rattle.sv_names.specs.Named.{Around}
use Rattle.sv_names.specs.Targets.{Spot, lvalues, read_of}
use Rattle.sv_elab_assign.specs.Forms.{is_whole_container, is_dynamic_array, signal_of, later_by, resize_form, resize_given}

-- ---- values for targets

module _ (ar : Around) (d : Option Amount) (e : Hoisted flat.Expr) where
  -- a container is copied, or not
  abbrev by_container : Spot → Bool → Checked (Hoisted Form)
  by_container s b = if b then copy_form d s.1 e else Good (assign_form d (lvalues ar (s ∷ [])) e)

  pub copied_given : (at : Place) (ss : List Spot) → is_whole_container ss ≡ true → copy_form d (read_of at ss) e ≡ given_to ar d ss e
  copied_given at [] h = cc
  copied_given at (s ∷ []) h = sym (ap (by_container s) h)
  copied_given at (s ∷ r ∷ ss) h = cc

  pub written_given : (ss : List Spot) → is_whole_container ss ≡ false → Good (assign_form d (lvalues ar ss) e) ≡ given_to ar d ss e
  written_given [] h = refl
  written_given (s ∷ []) h = sym (ap (by_container s) h)
  written_given (s ∷ r ∷ ss) h = refl

-- ---- drives

module _ (ar : Around) (d : Option Amount) (at : Place) (ss : List Spot) (t : Typed) where
  -- only a signal is driven
  pub later_is : (b : Begin) → later_by ar d at ss t (signal_of ar b) ≡ later_given ar d at ss t b
  later_is (Signal p i o) = refl
  later_is b = refl

-- ---- `new[n]`

-- no form
abbrev no_form : Hoisted flat.Expr → Hoisted Form
no_form e = mapped (λ x. form.Null) e

module _ (ar : Around) (at : Place) (n : Hoisted flat.Expr) (old : Option (Hoisted Container)) where
  pub not_resized : (d : Option Amount) (ss : List Spot) (f : Fault) → is_dynamic_array ss ≡ false → no_object at ss ≡ Broken f
      → resized ar d at n old ss ≡ Broken f
  not_resized None [] f h told = ap (given no_form) told
  not_resized (Some d) [] f h told = ap (given no_form) told
  not_resized None (s ∷ []) f h told =
      ap (λ (b : Bool). if b then Good (resize_form ar s.1 n old) else given no_form (no_object at (s ∷ []))) h ∙ ap (given no_form) told
  not_resized (Some d) (s ∷ []) f h told =
      ap (λ (b : Bool). if b then broken_at 42 s.1.at else given no_form (no_object at (s ∷ []))) h ∙ ap (given no_form) told
  not_resized None (s ∷ r ∷ ss) f h told = ap (given no_form) told
  not_resized (Some d) (s ∷ r ∷ ss) f h told = ap (given no_form) told

  pub array_resized : (d : Option Amount) (ss : List Spot) → is_dynamic_array ss ≡ true
      → resize_given ar d (read_of at ss) n old ≡ resized ar d at n old ss
  array_resized d [] h = cc
  array_resized None (s ∷ []) h =
      sym (ap (λ (b : Bool). if b then Good (resize_form ar s.1 n old) else given no_form (no_object at (s ∷ []))) h)
  array_resized (Some d) (s ∷ []) h =
      sym (ap (λ (b : Bool). if b then broken_at 42 s.1.at else given no_form (no_object at (s ∷ []))) h)
  array_resized d (s ∷ r ∷ ss) h = cc

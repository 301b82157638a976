-- The initializers of static variables.
use Rattle.std.proofs.Common.{◌≡◌, Bool, true, false, Option, None, ap, sym, ◌∙◌}
use Rattle.std.specs.Prelude.{List, if◌then◌else◌}
use Rattle.sv_value.specs.declared.place.Place.{Place}
use Rattle.sv_flat.specs.declared.stmt.Form.{Form}
use Rattle.sv_flat.specs.Expr as flat
use Rattle.sv_tree.specs.declared.expr.Root.TheVariants as root
use Rattle.sv_tree.specs.declared.word.Name.{Name}
use Rattle.sv_tree.specs.Expr as tree
use Rattle.sv_tree.specs.Expr.{place_of}
use Rattle.sv_tree.specs.Stmt.{Value, Copy, Array}
use Rattle.sv_names.specs.declared.argument.Arg.{Arg}
use Rattle.sv_names.specs.declared.checked.Checked.{Checked}
use Rattle.sv_names.specs.declared.hoisted.Hoisted.{Hoisted}
use Rattle.sv_names.specs.declared.ty.Ty.{Ty}
use Rattle.sv_names.specs.declared.typed.Typed.{Typed}
use Rattle.sv_names.specs.Assignments.{at_name, initial_given, made, new_at_opening}
use Rattle.sv_names.specs.Checked.{broken_at, ◌where_also◌, only}
use Rattle.sv_names.specs.Expressions.{expr}
use Rattle.sv_names.specs.Named.{Around, behind, hidden_in}
use Rattle.sv_names.specs.Types.{is_sync}
use Rattle.sv_elab_assign.specs.declared.arrays.Source as arrays
use Rattle.sv_elab_assign.specs.Openings.{not_made, value_opening, sync_opening, copy_opening, array_opening}
use Rattle.sv_elab_assign.specs.Wholes.{IsSource}
use Rattle.sv_elab_assign.proofs.WholeLaws.{array_stands}

module _ (ar : Around) (at : Place) (t : Ty) where
  pub value_is : (e : tree.Expr) (pv : Place) (x : Checked Typed) → pv ≡ place_of e → x ≡ expr ar e
      → value_opening ar at t pv x ≡ initial_given ar at t (Value e)
  value_is e pv x place is =
      ap (λ (q : Place). value_opening ar at t q x) place ∙ ap (value_opening ar at t (place_of e)) is

  pub sync_is : (p : Place) (as' : List Arg) → is_sync t ≡ true → sync_opening ar t p as' ≡ new_at_opening ar at t p as'
  sync_is p as' h =
      sym (ap (λ (b : Bool). if b then sync_opening ar t p as' else broken_at 25 p where_also only (made ar p (at_name at t) as' t)) h)

  pub object_is : (p : Place) (as' : List Arg) (x : Checked (Hoisted flat.Expr)) → is_sync t ≡ false → x ≡ made ar p (at_name at t) as' t
      → not_made 25 p x ≡ new_at_opening ar at t p as'
  object_is p as' x h is =
      ap (λ (c : Checked (Hoisted flat.Expr)). not_made 25 p c) is
      ∙ sym (ap (λ (b : Bool). if b then sync_opening ar t p as' else not_made 25 p (made ar p (at_name at t) as' t)) h)

  pub copy_is : (n : Name) (p : Place) (x : Checked Typed) → x ≡ expr ar (tree.Post (root.Plain n) tree.NoSuffix)
      → copy_opening ar at t p x ≡ initial_given ar at t (Copy p n)
  copy_is n p x is = ap (copy_opening ar at t p) is

  pub array_is : (n : tree.Expr) (old : Option tree.Expr) (p q : Place) (x : Checked Typed) (s : Option arrays.Source) → q ≡ place_of n → x ≡ expr ar n
      → IsSource (behind (hidden_in x) ar) s old → array_opening ar at t p q x s ≡ initial_given ar at t (Array p n old)
  array_is n old p q x s place is source =
      ap (λ (c : Checked (Hoisted Form)). not_made 25 p c) (array_stands ar None p (at_name at t) n old q x s place is source)

-- System tasks over their arguments.
use Rattle.std.proofs.Common.{arith, ◌≡◌, ◌∙◌, ℕ, ◌<◌, ◌≤◌, length, true, false, List, [], ◌∷◌, ◌++◌, refl, sym, ap, append-nil}
use Rattle.std.specs.Prelude.{ℤ, pos, negsuc, ◌<ℤ◌, ◌≤ℤ◌, nat_lt}
use Rattle.std.proofs.lemmas.Bool.Decides.{nat_tests}
use Rattle.sv_value.specs.declared.place.Place.{Place}
use Rattle.sv_value.specs.declared.operator.Piece.{Piece}
use Rattle.sv_flat.specs.declared.stmt.Form.{Form}
use Rattle.sv_flat.specs.declared.stmt.Form.TheVariants as form
use Rattle.sv_flat.specs.declared.stmt.PrintKind.{PrintKind}
use Rattle.sv_flat.specs.Expr as flat
use Rattle.sv_tree.specs.Expr as tree
use Rattle.sv_names.specs.declared.argument.Arg.{Arg}
use Rattle.sv_names.specs.declared.checked.Checked.{Checked}
use Rattle.sv_names.specs.declared.checked.Checked.TheVariants.{Good, Broken}
use Rattle.sv_names.specs.declared.hoisted.Hoisted.{Hoisted}
use Rattle.sv_names.specs.declared.system.System.{System}
use Rattle.sv_names.specs.declared.system.System.TheVariants as system
use Rattle.sv_names.specs.Checked.{given, broken_at}
use Rattle.sv_names.specs.Events as events
use Rattle.sv_names.specs.Formats.{Printed, all_printed}
use Rattle.sv_names.specs.Hoisted.{mapped, in_row, pure}
use Rattle.sv_names.specs.Named.{Around}
use Rattle.sv_elab_task.specs.Tasks.{finish_within, finish_first, first_of, refused, value_of}

-- no end of a line
pub written_is : (k : PrintKind) (ps : List Piece) (es : List (Hoisted flat.Expr))
    → mapped (form.Print k ps) (in_row es) ≡ mapped (form.Print k (ps ++ [])) (in_row es)
written_is k ps es = ap (λ (qs : List Piece). mapped (form.Print k qs) (in_row es)) (sym (append-nil ps))

-- what `$finish` is given
pub finish_below : (at : Place) (n : ℤ) → n <ℤ pos 0 → finish_within at n ≡ broken_at 12 at
finish_below at (pos n) low = grind (arith, nat_tests)
finish_below at (negsuc n) low = refl

pub finish_inside : (at : Place) (n : ℤ) → pos 0 ≤ℤ n → n <ℤ pos 3 → finish_within at n ≡ Good (pure form.Finish)
finish_inside at (pos n) low high = grind (arith, nat_tests)
finish_inside at (negsuc n) low high = grind (arith, nat_tests)

pub finish_above : (at : Place) (n : ℤ) → pos 3 ≤ℤ n → finish_within at n ≡ broken_at 12 at
finish_above at (pos n) high = grind (arith, nat_tests)
finish_above at (negsuc n) high = refl

-- `$finish` by the number of its arguments
pub several_finish : (at : Place) (as' : List Arg) → 1 < length as' → refused 31 at as' ≡ events.finish_of at as'
several_finish at [] h = absurd (omega arith)
several_finish at (a ∷ []) h = absurd (omega arith)
several_finish at (a ∷ b ∷ as') h = refl

pub few_finish : (at : Place) (as' : List Arg) → length as' ≤ 1 → finish_first (first_of as') ≡ events.finish_of at as'
few_finish at [] h = refl
few_finish at (a ∷ []) h = refl
few_finish at (a ∷ b ∷ as') h = absurd (omega arith)

-- `void'(..)` of what is not `$cast`
pub other_ignored : (ar : Around) (at : Place) (a : tree.Actuals) (s : System) → (s ≡ system.Cast → ⊥)
    → value_of ar at a s ≡ events.system_ignored ar at a s
other_ignored ar at a system.Cast other = absurd (other refl)
other_ignored ar at a s other = refl

-- The parts of a `for`.
use Rattle.std.proofs.Common.{◌≡◌, refl, List}
use Rattle.sv_value.specs.declared.place.Place.{Place}
use Rattle.sv_flat.specs.declared.object.Declared.{Declared}
use Rattle.sv_flat.specs.declared.stmt.Form.{Form}
use Rattle.sv_flat.specs.Expr as flat
use Rattle.sv_tree.specs.Stmt as tree_stmt
use Rattle.sv_tree.specs.Stmt.{ForStep}
use Rattle.sv_names.specs.declared.checked.Checked.{Checked}
use Rattle.sv_names.specs.declared.checked.Checked.TheVariants.{Good, Broken}
use Rattle.sv_names.specs.declared.hoisted.Hoisted.{Hoisted}
use Rattle.sv_names.specs.Checked.{both, given}
use Rattle.sv_names.specs.Code.{Code, single}
use Rattle.sv_names.specs.Named.{Around}
use Rattle.sv_names.specs.Statements.{step_code, for_code}
use Rattle.sv_elab_flow.specs.Fors.{step_form, for_of}

-- the last part is one statement
pub step_given : (ar : Around) (at : Place) (l : ForStep) → step_code ar at l ≡ given (single at) (step_form ar l)
step_given ar at (tree_stmt.ForStep.Assign l e) = refl
step_given ar at (tree_stmt.ForStep.Operator a) = refl
step_given ar at (tree_stmt.ForStep.Step p l w) = refl

-- so is the first one
pub first_given : (at : Place) (ls : List Declared) (x : Checked (Hoisted Form)) (c : Checked (Hoisted flat.Expr)) (y : Checked (Code × Code))
    → given (λ p. for_code at ls p.0.0 p.0.1 p.1.0 p.1.1) (both (both (given (single at) x) c) y) ≡ given (for_of at ls) (both (both x c) y)
first_given at ls (Good x) (Good c) (Good y) = refl
first_given at ls (Good x) (Good c) (Broken h) = refl
first_given at ls (Good x) (Broken g) (Good y) = refl
first_given at ls (Good x) (Broken g) (Broken h) = refl
first_given at ls (Broken f) (Good c) (Good y) = refl
first_given at ls (Broken f) (Good c) (Broken h) = refl
first_given at ls (Broken f) (Broken g) (Good y) = refl
first_given at ls (Broken f) (Broken g) (Broken h) = refl

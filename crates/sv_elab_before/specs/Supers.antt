-- `super.new`, in steps (IEEE 1800-2017, 8.7, 8.15 and 8.17).
use Rattle.std.specs.Prelude.{Option, Some, if◌then◌else◌, is_some, not, Bool, false, List, []}
use Rattle.sv_value.specs.declared.place.Place.{Place}
use Rattle.sv_flat.specs.declared.call.Argument.{Argument}
use Rattle.sv_flat.specs.declared.stmt.Form.{Form}
use Rattle.sv_tree.specs.Expr as tree
use Rattle.sv_tree.specs.Stmt as tree_stmt
use Rattle.sv_tree.specs.View.{actuals}
use Rattle.sv_names.specs.declared.around.ClassInfo.{ClassInfo}
use Rattle.sv_names.specs.declared.checked.Checked.{Checked}
use Rattle.sv_names.specs.declared.checked.Checked.TheVariants.{Good}
use Rattle.sv_names.specs.declared.hoisted.Hoisted.{Hoisted}
use Rattle.sv_names.specs.declared.named.Formal.{Formal}
use Rattle.sv_names.specs.declared.named.Named.{Named}
use Rattle.sv_names.specs.declared.named.Named.TheVariants.{Subroutine}
use Rattle.sv_names.specs.Calls.{usual_value}
use Rattle.sv_names.specs.Assignments.{constructor_in, with_constructor, outputs_of_class}
use Rattle.sv_names.specs.Checked.{both, given, broken_at}
use Rattle.sv_names.specs.Code.{Code, empty}
use Rattle.sv_names.specs.Expressions.{actual_args}
use Rattle.sv_names.specs.Named.{Around, raised}
use Rattle.sv_names.specs.Subroutines as subroutines
use Rattle.sv_names.specs.Subroutines.{super_form, super_code, needs_arguments, constructor_needs, written_super}
use Rattle.sv_names.specs.Statements.{place_from}
use Rattle.sv_names.specs.Things.{this_typed}
use Rattle.sv_names.specs.Types.{Path}
use Rattle.sv_elab_before.specs.declared.supers.Opening.{Opening}
use Rattle.sv_elab_before.specs.declared.supers.Opening.TheVariants as opening

-- how a constructor begins
abbrev pub opening_in : Opening → subroutines.Opening
opening_in (opening.Super at place a) = subroutines.Super_at at place (actuals a.now)
opening_in opening.NoSuper = subroutines.No_super

-- the call of the constructor of a base, in variables of this activation
abbrev pub super_once : Around → Place → Place → Path → ClassInfo → tree.Actuals → Checked (Hoisted Form)
super_once s at pe base k a =
    given (λ p. super_form s base p.0 p.1)
    (both (this_typed s at) (with_constructor s pe base (actual_args s (outputs_of_class (Some k)) a) (constructor_in k)))

-- the same in variables of its own, where it has hidden ones
abbrev pub super_called : Around → Place → Place → Path → ClassInfo → tree.Actuals → Checked (Hoisted Form)
super_called ar at pe base k a = raised ar (λ s. super_once s at pe base k a)

-- the statement, where the class of the base is known
abbrev pub super_statement : Around → Place → Place → Path → tree.Actuals → Option ClassInfo → Checked Code
super_statement i at pe base a k = super_code i at pe base (λ s os. actual_args s os a) k

-- E38: no class is extended
abbrev pub no_base : Bool → Place → Checked Code
no_base is_told at = if is_told then Good empty else broken_at 38 at

-- ---- what a constructor needs

-- whether an argument may not be left out
abbrev pub is_needed : Formal → Bool
is_needed f = not (is_some (usual_value f))

-- E40: whether a constructor needs arguments
abbrev pub needs : Option (Checked Named) → Bool
needs (Some (Good (Subroutine c))) = needs_arguments c.formals
needs c = false

-- ---- how a constructor begins

-- how one begins whose first statement calls this
abbrev pub called_opening : Place → tree.Expr → subroutines.Opening
called_opening at (tree.SuperNew p new a) = subroutines.Super_at at p a
called_opening at e = subroutines.No_super

-- how one begins whose first statement this is
abbrev pub opening_at : tree_stmt.Stmt → subroutines.Opening
opening_at (tree_stmt.Statement at label (tree_stmt.Call e)) = called_opening (place_from at label) e
opening_at (tree_stmt.Statement at label b) = subroutines.No_super

-- what stands behind the opening, of all statements
abbrev pub behind_opening : subroutines.Opening → (rest whole : tree_stmt.Stmts) → tree_stmt.Stmts
behind_opening (subroutines.Super_at at p a) rest whole = rest
behind_opening subroutines.No_super rest whole = whole

-- ---- written and implied calls

-- the arguments of the constructor of a base
abbrev pub super_args : Around → Place → Path → ClassInfo → tree.Actuals → Checked (List (Hoisted Argument))
super_args s pe base k a = with_constructor s pe base (actual_args s (outputs_of_class (Some k)) a) (constructor_in k)

-- `super.new` as it is written
abbrev pub written : Around → ClassInfo → Place → Place → tree.Actuals → Option Path → Checked Code
written i k at ps a b = written_super i k at ps (λ s os. actual_args s os a) b

-- E40: where none is written, in a class with this base
abbrev pub implied_call : Around → Place → Place → Path → Option ClassInfo → Checked Code
implied_call i name at b k = if constructor_needs k then broken_at 40 name else super_code i at at b (λ s os. []) k

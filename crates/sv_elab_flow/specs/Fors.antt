-- `for` and its parts (IEEE 1800-2017, 12.7.1).
use Rattle.std.specs.Prelude.{List, None, Some}
use Rattle.sv_value.specs.declared.place.Place.{Place}
use Rattle.sv_flat.specs.declared.object.Declared.{Declared}
use Rattle.sv_flat.specs.declared.stmt.Form.{Form}
use Rattle.sv_flat.specs.declared.stmt.Form.TheVariants as form
use Rattle.sv_flat.specs.Expr as flat
use Rattle.sv_tree.specs.declared.word.Name.{Name}
use Rattle.sv_tree.specs.Expr as tree
use Rattle.sv_tree.specs.Stmt as tree_stmt
use Rattle.sv_tree.specs.Stmt.{ForStep, Init}
use Rattle.sv_names.specs.declared.checked.Checked.{Checked}
use Rattle.sv_names.specs.declared.hoisted.Hoisted.{Hoisted}
use Rattle.sv_names.specs.declared.typed.How.TheVariants.{Statement as By_statement}
use Rattle.sv_names.specs.Assignments.{assignment, operated, stepped}
use Rattle.sv_names.specs.Blocks.{declared_variable, variable_spot}
use Rattle.sv_names.specs.Checked.{◌▷◌, given, both}
use Rattle.sv_names.specs.Code.{Code, single, over, ◌>>◌}
use Rattle.sv_names.specs.Expressions.{target}
use Rattle.sv_names.specs.Hoisted.{mapped}
use Rattle.sv_names.specs.Named.{Around, raised}
use Rattle.sv_names.specs.Statements.{condition, for_code, in_loop, step_code}
use Rattle.sv_elab_flow.specs.Parts.{two_routines}

-- the first assignment and the condition; the body and the step
abbrev pub ForParts : Type 0
ForParts = (Hoisted Form × Hoisted flat.Expr) × (Code × Code)

-- the first assignment, and the loop behind it
abbrev pub for_turns : Place → ForParts → Code
for_turns at p = single at p.0.0 >> over at (mapped (λ c q. form.While c q.0 (Some q.1)) p.0.1) (two_routines at p.1)

-- a block of both, with the variable of the loop
abbrev pub for_of : Place → List Declared → ForParts → Code
for_of at ls p = for_code at ls (single at p.0.0) p.0.1 p.1.0 p.1.1

-- a value for a target, in variables of this activation
abbrev pub value_once : Around → tree.Lval → tree.Expr → Checked (Hoisted Form)
value_once i l e = assignment i (target By_statement i l) None (tree_stmt.Value e)

-- a value for a target
abbrev pub value_assigned : Around → tree.Lval → tree.Expr → Checked (Hoisted Form)
value_assigned ar l e = raised ar (λ i. value_once i l e)

-- the last part of a `for`
abbrev pub step_form : Around → ForStep → Checked (Hoisted Form)
step_form ar (tree_stmt.ForStep.Assign l e) = value_assigned ar l e
step_form ar (tree_stmt.ForStep.Operator a) = raised ar (λ i. operated i a)
step_form ar (tree_stmt.ForStep.Step p l w) = raised ar (λ i. stepped i l w)

-- what initializes a variable, in variables of this activation
abbrev pub first_once : Around → Place → Name → Init → Checked (Hoisted Form)
first_once s at n i = assignment s (declared_variable s n ▷ variable_spot s at) None i

-- the first value of the variable of a loop
abbrev pub first_value : Around → Place → Name → tree.Expr → Checked (Hoisted Form)
first_value ar at n v = raised ar (λ s. first_once s at n (tree_stmt.Value v))

-- a `for` in its scope, but for what its declarations break
abbrev pub for_inside :
    Around → Place → List Declared → Name → tree.Expr → tree.Expr → ForStep → (Around → Checked Code) → Checked Code
for_inside i at ls n v e l go =
    given (for_of at ls) (both (both (first_value i at n v) (condition i e)) (both (go (in_loop i)) (step_code i at l)))

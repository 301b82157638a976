-- Subroutines over their scopes, in steps (IEEE 1800-2017, 8.6, 13.3 and 13.4).
use Rattle.std.specs.Prelude.{Bool, not, List, ◌++◌}
use Rattle.sv_flat.specs.declared.class.Routine.{Routine}
use Rattle.sv_flat.specs.declared.class.Subroutine.{Subroutine}
use Rattle.sv_tree.specs.Stmt as tree_stmt
use Rattle.sv_tree.specs.Stmt.{Decl}
use Rattle.sv_tree.specs.Units.{Head}
use Rattle.sv_names.specs.declared.around.Returns.{Returns}
use Rattle.sv_names.specs.declared.checked.Checked.{Checked}
use Rattle.sv_names.specs.declared.scope.Scope.{Scope}
use Rattle.sv_names.specs.Blocks.{decls_code, in_sequence}
use Rattle.sv_names.specs.Checked.{given}
use Rattle.sv_names.specs.Code.{Numbered, Code, with_objects}
use Rattle.sv_names.specs.Entries.{is_task, taken}
use Rattle.sv_names.specs.Named.{Around}
use Rattle.sv_names.specs.Statements.{stmts}
use Rattle.sv_names.specs.Subroutines.{Before, in_body, subroutine_of, routine_at, object_formal, argument_formals, result_formal}
use Rattle.sv_elab_routine.specs.declared.bodies.Manner.{Manner}
use Rattle.sv_elab_before.specs.Objects.{own_objects}

-- where its statements stand
abbrev pub inner : Around → Scope → Manner → Returns → Around
inner ar s m r = in_body ar s m.is_automatic m.has_object m.may_wait r

-- what stands before its statements, its declarations, and then they themselves
abbrev pub body_code : Around → Before → List Decl → tree_stmt.Stmts → Checked Code
body_code i before ds xs = in_sequence (before i) (in_sequence (decls_code i ds) (stmts i xs))

-- the subroutine of the flat design
abbrev pub flat_subroutine : Around → Scope → Bool → Head → Subroutine
flat_subroutine ar s auto h =
    subroutine_of ar s (not (is_task h)) auto (object_formal ar s ++ argument_formals ar s (taken h)) (result_formal ar s)

-- its routine over its statements
abbrev pub routine_over : Around → Around → Scope → Bool → Head → Code → Numbered Routine
routine_over ar i s auto h x = routine_at h.name.at (flat_subroutine ar s auto h) (with_objects (own_objects i s h) x)

-- its routine, where its statements stand in `i`
abbrev pub routine_inside : Around → Around → Scope → Bool → Head → List Decl → tree_stmt.Stmts → Before → Checked (Numbered Routine)
routine_inside ar i s auto h ds xs before = given (routine_over ar i s auto h) (body_code i before ds xs)

-- its routine in its scope
abbrev pub routine_within : Around → Scope → Manner → Returns → Head → List Decl → tree_stmt.Stmts → Before → Checked (Numbered Routine)
routine_within ar s m r h ds xs before = routine_inside ar (inner ar s m r) s m.is_automatic h ds xs before

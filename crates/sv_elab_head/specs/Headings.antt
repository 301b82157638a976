-- Subroutines without their bodies (IEEE 1800-2017, 8.21 and 13).
use Rattle.std.specs.Prelude.{[], None}
use Rattle.sv_tree.specs.Stmt as tree_stmt
use Rattle.sv_tree.specs.Units.{Method}
use Rattle.sv_tree.specs.UnitView.{head}
use Rattle.sv_names.specs.declared.named.Callee.{Callee}
use Rattle.sv_names.specs.declared.scope.Scope.{Scope}
use Rattle.sv_names.specs.Named.{Around}
use Rattle.sv_names.specs.Scopes as scopes
use Rattle.sv_elab_declare.specs.Alone.{class_in}
use Rattle.sv_elab_head.specs.declared.callees.Heading.{Heading}

-- a method with this head, whatever its body
abbrev pub method_of : Heading → Method
method_of o =
    record {
      qualifiers = o.qualifiers;
      routine = record { head = head o.head.now; decls = []; stmts = tree_stmt.NoStmt; label = None };
    }

-- the head over its scope
abbrev pub callee_within : Around → Scope → Heading → Callee
callee_within ar s o = scopes.callee_within ar s o.is_pure (class_in o.class) (method_of o)

-- Whole subroutines (IEEE 1800-2017, 8.6, 8.7, 13.3 and 13.4).
use Rattle.std.specs.Prelude.{true, Option, Some, None, List, [], ◌∷◌, if◌then◌else◌}
use Rattle.sv_flat.specs.declared.class.Direction.TheVariants as way
use Rattle.sv_flat.specs.declared.class.Formal.{Formal}
use Rattle.sv_flat.specs.declared.class.Routine.{Routine}
use Rattle.sv_flat.specs.declared.class.Subroutine.{Subroutine}
use Rattle.sv_flat.specs.declared.class.Variable.TheVariants as variable
use Rattle.sv_tree.specs.Classes as tree_class
use Rattle.sv_tree.specs.Stmt as tree_stmt
use Rattle.sv_tree.specs.Units.{Method}
use Rattle.sv_names.specs.declared.around.ClassInfo.{ClassInfo}
use Rattle.sv_names.specs.declared.checked.Checked.{Checked}
use Rattle.sv_names.specs.declared.named.Callee.{Callee}
use Rattle.sv_names.specs.declared.scope.Scope.{Scope}
use Rattle.sv_names.specs.Checked.{given}
use Rattle.sv_names.specs.Code.{Numbered}
use Rattle.sv_names.specs.Entries.{is_constructor, subroutine_is_automatic, has_result}
use Rattle.sv_names.specs.Named.{Around, nearest}
use Rattle.sv_names.specs.Subroutines.{Before, MadeSubroutine, subroutine_in, body_scope, implied_constructor, written_constructor, subroutine_of, routine_at, constructor_before, No_super}
use Rattle.sv_names.specs.declared.ty.Ty.TheVariants.{Class}
use Rattle.sv_names.specs.Types.{Path, data_of}
use Rattle.sv_elab_before.specs.Befores.{construction}

-- the routine of a subroutine
abbrev pub routine_of : Checked MadeSubroutine → Checked (Numbered Routine)
routine_of c = given (λ m. m.routine) c

-- a subroutine over its scope, but for the rules on its declarations
abbrev pub over_scope : Around → Scope → Callee → Option Path → Method → tree_stmt.Stmts → Before → Checked MadeSubroutine
over_scope ar s c k m xs before =
    subroutine_in ar (body_scope s c (subroutine_is_automatic ar.is_automatic k m.routine.head) (has_result m.routine.head)) c m xs before

-- the constructor that an item writes, if it is one
abbrev pub constructor_item : tree_class.ClassItem → Option Method
constructor_item (tree_class.Method m) = if is_constructor m.routine.head then Some m else None
constructor_item i = None

-- the constructor that is written, or the implied one
abbrev pub chosen : Around → ClassInfo → List tree_class.ClassItem → Option Method → Checked MadeSubroutine
chosen ar k whole None = implied_constructor ar k whole
chosen ar k whole (Some m) = written_constructor ar k whole m

-- the first of some that are written
abbrev pub constructor_among : List tree_class.ClassItem → Option Method
constructor_among [] = None
constructor_among (i ∷ is) = nearest (constructor_item i) (constructor_among is)

-- ---- implied constructors

-- the object, as its only argument
abbrev pub object_formals : Around → Path → List Formal
object_formals ar k =
    record { direction = way.Input; variable = variable.Local 0; ty = data_of ar.numbers (Class k) } ∷ []

-- the subroutine, whose scope knows the object alone
abbrev pub implied_subroutine : Around → Path → Scope → Subroutine
implied_subroutine ar k s = subroutine_of ar s true true (object_formals ar k) None

-- its routine
abbrev pub implied_within : Around → ClassInfo → List tree_class.ClassItem → Scope → Checked (Numbered Routine)
implied_within ar k is s =
    given (λ c. routine_at k.name.at (implied_subroutine ar k.path s) c)
    (constructor_before ar k is k.name.at No_super (construction ar s))

-- Procedures as processes.
use Rattle.std.proofs.Common.{◌≡◌, List, [], ◌∷◌, ◌++◌, length, Option, None, refl, sym, append-nil}
use Rattle.std.specs.declared.boxed.Box.{Box}
use Rattle.std.specs.declared.alloc.Global.{Global}
use Rattle.sv_value.specs.declared.place.Place.{Place}
use Rattle.sv_flat.specs.declared.class.Routine.{Routine}
use Rattle.sv_flat.specs.declared.object.Object.{Object}
use Rattle.sv_flat.specs.declared.stmt.Stmt.{Stmt as flat_stmt}
use Rattle.sv_tree.specs.declared.statement.Body.{Body, On, On'}
use Rattle.sv_tree.specs.declared.statement.Event.{Event}
use Rattle.sv_tree.specs.declared.statement.Stmt.{Stmt}
use Rattle.sv_tree.specs.declared.word.Name.{Name}
use Rattle.sv_tree.specs.Stmt.{Statement}
use Rattle.sv_tree.specs.StmtView.{body}
use Rattle.sv_tree.specs.Units.{Procedure}
use Rattle.sv_names.specs.Code.{Code, as_routine}
use Rattle.sv_names.specs.Emits.{Made}
use Rattle.sv_names.specs.Checked.{broken_at, ◌where_also◌}
use Rattle.sv_names.specs.Items.{clocked, clocked_code, procedure_made, process_of}
use Rattle.sv_names.specs.Statements.{stmt}
use Rattle.sv_names.specs.Named.{Around}
use Rattle.sv_elab_parts.specs.declared.so_far.SoFar.{SoFar}
use Rattle.sv_elab_parts.specs.Adding.{Adds, so_far_in}
use Rattle.sv_elab_flow.proofs.Added.{routine_made}

-- a procedure is added: its objects, its routine and its process
pub procedure_added : (x : SoFar) (ar : Around) (p : Procedure) (rs' : List Routine) (os' : List Object) (ss : List flat_stmt) (c : Code)
    → Made x.routines rs' x.objects os' ss c
    → Adds x (record x {
      objects = os';
      routines = rs' ++ record { at = p.at; body = ss; subroutine = None } ∷ [];
      processes = x.processes ++ process_of ar p (record { 0 = length rs' }) ∷ [];
    }) (procedure_made ar p c)
procedure_added x ar p rs' os' ss c made =
    let whole : Made x.routines (rs' ++ record { at = p.at; body = ss; subroutine = None } ∷ []) x.objects os' (record { 0 = length rs' }) (as_routine p.at c)
    = routine_made p.at x.routines rs' x.objects os' ss c made in
    record {
      so_far = λ i. record (so_far_in x) {
        objects = made.declared i;
        classes = sym (append-nil x.classes) i;
        processes = x.processes ++ process_of ar p (whole.value i) ∷ [];
        routines = whole.added i;
        drives = sym (append-nil x.drives) i;
      };
      classes = sym (append-nil x.class_paths);
      subroutines = sym (append-nil x.subroutine_paths);
      clockings = sym (append-nil x.clocking_paths);
    }

-- another statement than one behind an event control
module _ (ar : Around) (at p : Place) (l : Option Name) where
  pub other_statement : (b : Body) → ((e : Event) (s : Box Stmt Global) → b ≡ On e s → ⊥)
      → (stmt (clocked at ar) (Statement p l (body b)) where_also broken_at 28 at) ≡ clocked_code ar at (Statement p l (body b))
  other_statement (On' e q at1 l1 b1) none = absurd (none e _ refl)
  other_statement b none = refl

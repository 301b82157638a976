-- What classes and subroutines add, and what adds nothing.
use Rattle.std.proofs.Common.{◌≡◌, ◌∙◌, List, [], ◌∷◌, ◌++◌, Option, Some, None, sym, ap, append-nil}
use Rattle.sv_flat.specs.declared.class.Routine.{Routine}
use Rattle.sv_flat.specs.declared.object.Object.{Object}
use Rattle.sv_tree.specs.Classes as tree_class
use Rattle.sv_tree.specs.Stmt as tree_stmt
use Rattle.sv_tree.specs.Units.{Method}
use Rattle.sv_names.specs.declared.around.ClassInfo.{ClassInfo}
use Rattle.sv_names.specs.declared.checked.Checked.TheVariants.{Good}
use Rattle.sv_names.specs.Checked.{given}
use Rattle.sv_names.specs.Classes.{class_parts}
use Rattle.sv_names.specs.Emits.{Made}
use Rattle.sv_names.specs.Items.{nothing, class_made, class_given, subroutine_made}
use Rattle.sv_names.specs.Named.{Around, class_in}
use Rattle.sv_names.specs.Subroutines.{MadeSubroutine, made_subroutine, Before}
use Rattle.sv_names.specs.Types.{Path}
use Rattle.sv_elab_parts.specs.declared.so_far.SoFar.{SoFar}
use Rattle.sv_elab_parts.specs.Adding.{Adds, so_far_in}
use Rattle.sv_elab_plain.specs.Parts.{info_made}
use Rattle.sv_elab_plain.proofs.CheckedLaws.{good_given, good_where}
use Rattle.sv_elab_plain.proofs.PathLaws.{class_there}

-- nothing is added
pub nothing_added : (x : SoFar) → Adds x x nothing
nothing_added x =
    record {
      so_far = λ i. record (so_far_in x) { objects = sym (append-nil x.objects) i; classes = sym (append-nil x.classes) i };
      classes = sym (append-nil x.class_paths);
      subroutines = sym (append-nil x.subroutine_paths);
      clockings = sym (append-nil x.clocking_paths);
    }

-- ---- classes

pub class_missing : (ar : Around) (c : tree_class.Class) (p : Path) → class_in ar.classes p ≡ None → class_made ar c p ≡ Good nothing
class_missing ar c p none = ap (info_made ar c p) none

pub class_found : (ar : Around) (c : tree_class.Class) (p : Path) (k : ClassInfo) → class_in ar.classes p ≡ Some k
    → class_made ar c p ≡ given (class_given k.path) (class_parts ar k c)
class_found ar c p k found =
    ap (info_made ar c p) found ∙ ap (λ (q : Path). given (class_given q) (class_parts ar k c)) (sym (class_there p ar.classes k found))

-- ---- subroutines

-- the path of a subroutine
pub made_path : (ar : Around) (p : Path) (k : Option Path) (m : Method) (xs : tree_stmt.Stmts) (before : Before) (x : MadeSubroutine)
    → made_subroutine ar p k m xs before ≡ Good x → x.path ≡ p ++ m.routine.head.name.text ∷ []
made_path ar p k m xs before x is = ap (λ (y : MadeSubroutine). y.path) (good_given _ _ x (good_where _ _ x is)).2

-- a subroutine is added
pub subroutine_added : (x : SoFar) (m : MadeSubroutine) (p : Path) (r : Routine) (rs' : List Routine) (os' : List Object) → p ≡ m.path
    → Made x.routines rs' x.objects os' r m.routine
    → Adds x (record x {
      objects = os';
      routines = rs';
      subroutines = x.subroutines ++ r ∷ [];
      subroutine_paths = x.subroutine_paths ++ p ∷ [];
    }) (subroutine_made m)
subroutine_added x m p r rs' os' path made =
    record {
      so_far = λ i. record (so_far_in x) {
        objects = made.declared i;
        classes = sym (append-nil x.classes) i;
        subroutines = x.subroutines ++ made.value i ∷ [];
        routines = made.added i;
      };
      classes = sym (append-nil x.class_paths);
      subroutines = ap (λ (q : Path). x.subroutine_paths ++ q ∷ []) path;
      clockings = sym (append-nil x.clocking_paths);
    }

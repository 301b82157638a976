-- Processes, one after another, with their routines and drivers.
use Rattle.std.proofs.Common.{◌≡◌, ◌∙◌, List, [], ◌∷◌, ◌++◌, length, refl, sym, ap}
use Rattle.sv_flat.specs.declared.class.Routine.{Routine}
use Rattle.sv_flat.specs.declared.process.Process.{Process}
use Rattle.sv_names.specs.Connections.{Made}
use Rattle.sv_names.specs.Design.{SoFar, with_each, with_process}
use Rattle.sv_names.specs.Types.{Path}
use Rattle.sv_elab_drive.specs.Making.{IsProcess}
use Rattle.sv_elab_plain.specs.Adding.{AreProcesses}

-- one after those before
each_behind : (x : SoFar) (ms ns : List Made) → with_each with_process x (ms ++ ns) ≡ with_each with_process (with_each with_process x ms) ns
each_behind x [] ns = refl
each_behind x (m ∷ ms) ns = each_behind (with_process x m) ms ns

-- none
pub no_process : (ps : List Process) (rs : List Routine) (b : List Path) → AreProcesses ps ps rs rs b b []
no_process ps rs b =
    record { added = λ x p r d i. record x { processes = p i; routines = r i; drives = d i } }

-- one
pub one_process : (ps : List Process) (rs rs' : List Routine) (b b' : List Path) (p : Process) (m : Made) → IsProcess b b' rs rs' p m
    → AreProcesses ps (ps ++ p ∷ []) rs rs' b b' (m ∷ [])
one_process ps rs rs' b b' p m is =
    record {
      added = λ x a r d.
          let made : List Path → List Routine → Process × List Routine = λ ds ys. (m.make ds).make (length ys) in
          λ i. record x {
            processes = (ap (λ (l : List Process). l ++ (made x.drives x.routines).0 ∷ []) a
                ∙ ap (λ (ds : List Path). ps ++ (made ds x.routines).0 ∷ []) d ∙ ap (λ (ys : List Routine). ps ++ (made b ys).0 ∷ []) r
                ∙ ap (λ (q : Process). ps ++ q ∷ []) (sym is.value)) i;
            routines = (ap (λ (l : List Routine). l ++ (made x.drives x.routines).1) r
                ∙ ap (λ (ds : List Path). rs ++ (made ds x.routines).1) d ∙ ap (λ (ys : List Routine). rs ++ (made b ys).1) r ∙ sym is.added) i;
            drives = (ap (λ (l : List Path). l ++ m.drives) d ∙ sym is.drives) i;
          };
    }

-- some, and then further ones
pub processes_behind : (ps ps' ps'' : List Process) (rs rs' rs'' : List Routine) (b b' b'' : List Path) (ms ns : List Made)
    → AreProcesses ps ps' rs rs' b b' ms → AreProcesses ps' ps'' rs' rs'' b' b'' ns → AreProcesses ps ps'' rs rs'' b b'' (ms ++ ns)
processes_behind ps ps' ps'' rs rs' rs'' b b' b'' ms ns first next =
    record {
      added = λ x a r d.
          each_behind x ms ns ∙ ap (λ (y : SoFar). with_each with_process y ns) (first.added x a r d)
          ∙ next.added (record x { processes = ps'; routines = rs'; drives = b' }) refl refl refl;
    }

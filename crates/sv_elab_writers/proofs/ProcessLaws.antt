-- What procedures write, one after another.
use Rattle.std.proofs.Common.{◌≡◌, Bool, true, false, List, [], ◌∷◌, ◌++◌, refl, ap, ◌∙◌}
use Rattle.std.specs.Prelude.{flat_map, filter, if◌then◌else◌}
use Rattle.sv_names.specs.declared.around.ClassInfo.{ClassInfo}
use Rattle.sv_names.specs.Writers.{Source, Table, Write, all_writes, is_in_process, of_processes}
use Rattle.sv_elab_writers.specs.Processes.{process_writes}

-- those that are procedures, one after another
pub of_each : (ks : List ClassInfo) (t : Table) (ss : List Source)
    → flat_map (process_writes ks t) ss ≡ flat_map (all_writes ks t) (filter is_in_process ss)
of_each ks t [] = refl
of_each ks t (s ∷ ss) = ap (λ l. process_writes ks t s ++ l) (of_each ks t ss) ∙ by (is_in_process s)
  where
    by : (b : Bool) → (if b then all_writes ks t s else []) ++ flat_map (all_writes ks t) (filter is_in_process ss)
        ≡ flat_map (all_writes ks t) (if b then s ∷ filter is_in_process ss else filter is_in_process ss)
    by true = refl
    by false = refl

-- in a row with what is there already
pub of_all : (test : Bool) (ks : List ClassInfo) (t : Table) (ss : List Source) (ws : List Write) → test ≡ true
    → ws ≡ flat_map (process_writes ks t) ss → ws ≡ of_processes test ks t ss
of_all true ks t ss ws is made = made ∙ of_each ks t ss
of_all false ks t ss ws is made = absurd (cc)

-- where none writes alone
pub of_none : (test : Bool) (ks : List ClassInfo) (t : Table) (ss : List Source) (ws : List Write) → test ≡ false → ws ≡ []
    → ws ≡ of_processes test ks t ss
of_none false ks t ss ws is none = none
of_none true ks t ss ws is none = absurd (cc)

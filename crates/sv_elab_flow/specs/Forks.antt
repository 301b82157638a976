-- Forks over the routines of their initializers and children (IEEE 1800-2017, 9.3.2).
use Rattle.std.specs.Prelude.{◌≡◌, ℕ, List, [], Option}
use Rattle.sv_value.specs.declared.place.Place.{Place}
use Rattle.sv_value.specs.declared.number.RoutineId.{RoutineId}
use Rattle.sv_flat.specs.declared.object.Declared.{Declared}
use Rattle.sv_tree.specs.declared.word.JoinWord.{JoinWord}
use Rattle.sv_names.specs.declared.checked.Checked.{Checked}
use Rattle.sv_names.specs.declared.checked.Checked.TheVariants.{Good, Broken}
use Rattle.sv_names.specs.Code.{Numbered, Code, followed}
use Rattle.sv_names.specs.Statements.{first_routine, fork_code}

-- statements without routines, which are the same from every number on
abbrev pub Steady : Checked Code → Type 0
Steady (Good c) = (n : ℕ) → c.make n ≡ ((c.make 0).0, [])
Steady (Broken f) = Unit {0}

-- the routine of the initializers, and then those of the children
abbrev pub fork_parts : Place → Code × Numbered (List RoutineId) → Numbered (Option RoutineId × List RoutineId)
fork_parts at p = followed (λ i cs. (i, cs)) (first_routine at p.0) p.1

-- a fork over both
abbrev pub fork_of : Place → List Declared → JoinWord → Code × Numbered (List RoutineId) → Code
fork_of at ls j p = fork_code at ls j p.0 p.1

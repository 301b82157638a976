use Rattle.std.proofs.Common.{◌≡◌, ◌+◌, ◌*◌, ◌++◌, map, length}
use Rattle.std.specs.Prelude.{flat_map}
use Rattle.sv_flat.specs.Names.{stmts_with_forks}
use Rattle.sv_elab_comb.specs.Standing.{stmts_in}
use Rattle.sv_elab_comb.proofs.statements.+within.Given as goal

abbrev pub invariant-add_statements-loop-left : goal.invariant-add_statements-loop-left
invariant-add_statements-loop-left l =
    map (λ s. s.now) l.list ++ stmts_in l.levels l.parts l.left ≡ map (λ s. s.now) l.initial.list ++ stmts_in l.levels l.parts l.statements

abbrev pub decreases-add_statements-loop-left : goal.decreases-add_statements-loop-left
decreases-add_statements-loop-left l = length l.left

abbrev pub invariant-add_routines-loop-left : goal.invariant-add_routines-loop-left
invariant-add_routines-loop-left l =
    map (λ s. s.now) l.list ++ flat_map (stmts_with_forks l.levels l.parts) l.left
    ≡ map (λ s. s.now) l.initial.list ++ flat_map (stmts_with_forks l.levels l.parts) l.ids

abbrev pub decreases-add_routines-loop-left : goal.decreases-add_routines-loop-left
decreases-add_routines-loop-left l = length l.left

abbrev pub decreases-add_within : goal.decreases-add_within
decreases-add_within l = 3 * l.levels

abbrev pub decreases-add_routines : goal.decreases-add_routines
decreases-add_routines l = 3 * l.levels + 1

abbrev pub decreases-add_statements : goal.decreases-add_statements
decreases-add_statements l = 3 * l.levels + 2

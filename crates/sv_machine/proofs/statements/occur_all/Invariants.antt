use Rattle.std.proofs.Common.{◌≡◌, List, Some, length}
use Rattle.std.specs.Prelude.{reverse}
use Rattle.std.specs.List.{AllByRecursion}
use Rattle.sv_flat.specs.Effects.{all_occurred}
use Rattle.sv_sound.specs.Sound.{IsPlainEffect}
use Rattle.sv_stack.specs.Effects.{effects_in}
use Rattle.sv_machine.specs.declared.line.Line.{Line}
use Rattle.sv_machine.specs.declared.machine.Machine.{Machine}
use Rattle.sv_machine.specs.Machine.{IsAt, Does, SameMoment}
use Rattle.sv_machine.proofs.statements.occur_all.Given as goal

-- what the effects that are left do from here on, all of them do from the beginning on
abbrev pub invariant-loop-effect : goal.invariant-loop-effect
invariant-loop-effect l =
    IsAt l.design l.machine × (l.machine.running ≡ Some l.process)
    × AllByRecursion IsPlainEffect (effects_in l.design (reverse l.effects.items))
    × ((n : Machine) (last : List Line)
    → Does l.design l.machine n (all_occurred l.design l.at l.process (effects_in l.design (reverse l.effects.items))) l.lines.items last
    → Does l.design l.initial.machine n (all_occurred l.design l.at l.process (effects_in l.design (reverse l.initial.effects.items))) l.initial.lines.items last)
    × SameMoment l.initial.machine l.machine

abbrev pub decreases-loop-effect : goal.decreases-loop-effect
decreases-loop-effect l = length l.effects.items

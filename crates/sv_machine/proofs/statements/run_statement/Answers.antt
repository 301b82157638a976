use Rattle.std.proofs.Common.{rules, ◌≡◌, ◌∙◌, List, refl, ap, subst, sym}
use Rattle.std.specs.Prelude.{reverse, get_or}
use Rattle.std.specs.List.{AllByRecursion}
use Rattle.std.specs.Vec.{with_item}
use Rattle.sv_sound.specs.Sound.{IsPlainEffect}
use Rattle.sv_stack.specs.declared.effect.Effect.{Effect as Own_effect}
use Rattle.sv_stack.specs.Effects.{effects_in}
use Rattle.sv_machine.specs.Steps.{effects_done}
use Rattle.sv_sense.proofs.SenseLaws.{ok_given}
use Rattle.sv_flat.specs.Process.{Effect}
use Rattle.sv_flat.specs.Effects.{all_occurred}
use Rattle.sv_machine.specs.declared.machine.Machine.{Machine}
use Rattle.sv_machine.specs.Machine.{Does}
use Rattle.sv_machine.proofs.OccurLaws.{runs_framed, runs_made}
use Rattle.sv_machine.proofs.StepLaws.{TookStep, took_step, reverse_twice, step_at, step_plain, step_makes}
use Rattle.sv_machine.proofs.statements.run_statement.Goals as goal

pub next-next-requires : goal.next-next-requires
next-next-requires c = runs_made c.args.design.now c.args.machine.now c.requires.at c.args.process c.requires.running

pub index_mut-requires : goal.index_mut-requires
index_mut-requires c = let k = runs_framed c.args.design.now c.args.machine.now c.requires.at c.args.process c.requires.running in search rules

pub occur_all-done-requires-clause-at : goal.occur_all-done-requires-clause-at
occur_all-done-requires-clause-at c =
    let d = c.args.design.now in
    let p = c.args.process in
    let m = c.args.machine.now in
    let n : Machine = record m { processes = with_item m.processes p.0 c.next_step.new.frames; spare = c.next_step.new.spare } in
    let none = c.index_mut.result.now in
    let is : none ≡ get_or m.processes.items p.0 none = search rules in
    let h : TookStep d p m n c.next_step.new.stepped (get_or m.processes.items p.0 none) c.next_step.new.frames c.next_step.new.out.items =
    took_step d p m n c.next_step.new.stepped c.next_step.new.frames c.next_step.new.out.items none c.next-next.result (runs_framed d m c.requires.at p c.requires.running) refl (search rules) is
    c.next-next.ensures c.in_ok-next_step.ensures.does c.in_ok-next_step.ensures.at c.in_ok-next_step.ensures.held in
    step_at d c.requires.built p m n c.requires.running c.next_step.new.stepped (get_or m.processes.items p.0 none) c.next_step.new.frames c.next_step.new.out.items h c.requires.at

pub occur_all-done-requires-clause-plain : goal.occur_all-done-requires-clause-plain
occur_all-done-requires-clause-plain c =
    let d = c.args.design.now in
    let p = c.args.process in
    let m = c.args.machine.now in
    let n : Machine = record m { processes = with_item m.processes p.0 c.next_step.new.frames; spare = c.next_step.new.spare } in
    let none = c.index_mut.result.now in
    let is : none ≡ get_or m.processes.items p.0 none = search rules in
    let h : TookStep d p m n c.next_step.new.stepped (get_or m.processes.items p.0 none) c.next_step.new.frames c.next_step.new.out.items =
    took_step d p m n c.next_step.new.stepped c.next_step.new.frames c.next_step.new.out.items none c.next-next.result (runs_framed d m c.requires.at p c.requires.running) refl (search rules) is
    c.next-next.ensures c.in_ok-next_step.ensures.does c.in_ok-next_step.ensures.at c.in_ok-next_step.ensures.held in
    let e : effects_in d (reverse c.enter_first.new.effects.items) ≡ effects_done d c.next_step.new.stepped.went c.next_step.new.out.items =
    c.in_ok-enter_first.ensures d ∙ ap (effects_done d c.next_step.new.stepped.went) (ap (reverse {A = Own_effect}) c.reverse.ensures.items ∙ reverse_twice c.next_step.new.out.items) in
    subst (AllByRecursion IsPlainEffect) (sym e)
    (step_plain d c.requires.built p m n c.requires.running c.next_step.new.stepped (get_or m.processes.items p.0 none) c.next_step.new.frames c.next_step.new.out.items h c.requires.at)

pub returns-clause-ok : goal.returns-clause-ok
returns-clause-ok c =
    let d = c.args.design.now in
    let p = c.args.process in
    let m = c.args.machine.now in
    let n : Machine = record m { processes = with_item m.processes p.0 c.next_step.new.frames; spare = c.next_step.new.spare } in
    let none = c.index_mut.result.now in
    let is : none ≡ get_or m.processes.items p.0 none = search rules in
    let h : TookStep d p m n c.next_step.new.stepped (get_or m.processes.items p.0 none) c.next_step.new.frames c.next_step.new.out.items =
    took_step d p m n c.next_step.new.stepped c.next_step.new.frames c.next_step.new.out.items none c.next-next.result (runs_framed d m c.requires.at p c.requires.running) refl (search rules) is
    c.next-next.ensures c.in_ok-next_step.ensures.does c.in_ok-next_step.ensures.at c.in_ok-next_step.ensures.held in
    let l = c.occur_all-done.new.machine in
    let at = c.next_step.new.stepped.at in
    let e : effects_in d (reverse c.enter_first.new.effects.items) ≡ effects_done d c.next_step.new.stepped.went c.next_step.new.out.items =
    c.in_ok-enter_first.ensures d ∙ ap (effects_done d c.next_step.new.stepped.went) (ap (reverse {A = Own_effect}) c.reverse.ensures.items ∙ reverse_twice c.next_step.new.out.items) in
    ok_given c.occur_all-done.result _ _
    (λ k. (step_makes d c.requires.built p m n c.requires.running c.next_step.new.stepped (get_or m.processes.items p.0 none) c.next_step.new.frames c.next_step.new.out.items h l c.args.lines.now.items c.occur_all-done.new.lines.items
    (subst (λ (es : List Effect). Does d n l (all_occurred d at p es) c.args.lines.now.items c.occur_all-done.new.lines.items) e k)).makes)
    c.occur_all-done.ensures.ok

pub returns-clause-lines : goal.returns-clause-lines
returns-clause-lines c =
    let d = c.args.design.now in
    let p = c.args.process in
    let m = c.args.machine.now in
    let n : Machine = record m { processes = with_item m.processes p.0 c.next_step.new.frames; spare = c.next_step.new.spare } in
    let none = c.index_mut.result.now in
    let is : none ≡ get_or m.processes.items p.0 none = search rules in
    let h : TookStep d p m n c.next_step.new.stepped (get_or m.processes.items p.0 none) c.next_step.new.frames c.next_step.new.out.items =
    took_step d p m n c.next_step.new.stepped c.next_step.new.frames c.next_step.new.out.items none c.next-next.result (runs_framed d m c.requires.at p c.requires.running) refl (search rules) is
    c.next-next.ensures c.in_ok-next_step.ensures.does c.in_ok-next_step.ensures.at c.in_ok-next_step.ensures.held in
    let l = c.occur_all-done.new.machine in
    let at = c.next_step.new.stepped.at in
    let e : effects_in d (reverse c.enter_first.new.effects.items) ≡ effects_done d c.next_step.new.stepped.went c.next_step.new.out.items =
    c.in_ok-enter_first.ensures d ∙ ap (effects_done d c.next_step.new.stepped.went) (ap (reverse {A = Own_effect}) c.reverse.ensures.items ∙ reverse_twice c.next_step.new.out.items) in
    ok_given c.occur_all-done.result _ _
    (λ k. (step_makes d c.requires.built p m n c.requires.running c.next_step.new.stepped (get_or m.processes.items p.0 none) c.next_step.new.frames c.next_step.new.out.items h l c.args.lines.now.items c.occur_all-done.new.lines.items
    (subst (λ (es : List Effect). Does d n l (all_occurred d at p es) c.args.lines.now.items c.occur_all-done.new.lines.items) e k)).adds)
    c.occur_all-done.ensures.ok

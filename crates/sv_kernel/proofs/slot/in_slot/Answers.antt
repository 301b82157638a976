use Rattle.std.proofs.Common.{rules, ◌≡◌, ◌∙◌, ◌++◌, ap, sym, subst, true, false, Some, None}
use Rattle.std.proofs.lemmas.Result.{on_ok_weaker}
use Rattle.sv_flat.specs.Config.{Config}
use Rattle.sv_machine.specs.Machine.{Picture, Tracks}
use Rattle.sv_machine.specs.Log.{records_of}
use Rattle.sv_kernel.proofs.StepLemmas.{finishes, runs, rests, statement_tracks, statement_records}
use Rattle.sv_kernel.proofs.slot.in_slot.Goals as goal

pub returns-then-machine-clause-ok : goal.returns-then-machine-clause-ok
returns-then-machine-clause-ok c =
    on_ok_weaker c.end_slot.result (λ h. λ c' h'. let s = h'.stands in
    let d = c.args.design.now in
    let over : c'.finishing ≡ true = sym (ap (λ (u : Picture). u.finishing) s.picture) ∙ search rules in
    subst (λ (x : Config). Tracks d c.end_slot.new.machine x)
    (sym (finishes d c.args.active.now c.args.reactive.now c' h'.going over (sym (ap (λ (u : Picture). u.phase) s.picture) ∙ c.requires.open))) (h c' h')) c.end_slot.ensures.ended

pub returns-then-machine-clause-lines : goal.returns-then-machine-clause-lines
returns-then-machine-clause-lines c =
    on_ok_weaker c.end_slot.result (λ h. λ c' h'. let s = h'.stands in
    let d = c.args.design.now in
    let over : c'.finishing ≡ true = sym (ap (λ (u : Picture). u.finishing) s.picture) ∙ search rules in
    subst (λ (x : Config). x.records ≡ c'.records ++ records_of c.end_slot.new.lines.items)
    (sym (finishes d c.args.active.now c.args.reactive.now c' h'.going over (sym (ap (λ (u : Picture). u.phase) s.picture) ∙ c.requires.open))) (h c' h')) c.end_slot.ensures.lines

pub returns-in-Some-clause-ok : goal.returns-in-Some-clause-ok
returns-in-Some-clause-ok c =
    on_ok_weaker c.step_running.result (λ h. λ c' h'. let f = h'.fault in let n = h'.going in let k = h'.sound in let s = h'.stands in
    let d = c.args.design.now in
    let run : c'.running ≡ Some c.in-Some.process = sym (ap (λ (u : Picture). u.running) s.picture) ∙ search rules in
    let going : c'.finishing ≡ false = sym (ap (λ (u : Picture). u.finishing) s.picture) ∙ search rules in
    subst (λ (x : Config). Tracks d c.step_running.new.machine x) (sym (runs d c.args.active.now c.args.reactive.now c' n c.in-Some.process going (sym (ap (λ (u : Picture). u.phase) s.picture) ∙ c.requires.open) run))
    (statement_tracks d c.step_running.new.machine c' c.in-Some.process run (c.step_running.ensures.moment.executed ∙ ap (λ (u : Picture). u.executed) s.picture) (h c' h'))) c.step_running.ensures.ok

pub returns-in-Some-clause-lines : goal.returns-in-Some-clause-lines
returns-in-Some-clause-lines c =
    on_ok_weaker c.step_running.result (λ h. λ c' h'. let f = h'.fault in let n = h'.going in let k = h'.sound in let s = h'.stands in
    let d = c.args.design.now in
    let run : c'.running ≡ Some c.in-Some.process = sym (ap (λ (u : Picture). u.running) s.picture) ∙ search rules in
    let going : c'.finishing ≡ false = sym (ap (λ (u : Picture). u.finishing) s.picture) ∙ search rules in
    subst (λ (x : Config). x.records ≡ c'.records ++ records_of c.step_running.new.lines.items) (sym (runs d c.args.active.now c.args.reactive.now c' n c.in-Some.process going (sym (ap (λ (u : Picture). u.phase) s.picture) ∙ c.requires.open) run))
    (statement_records d c' c.in-Some.process (records_of c.step_running.new.lines.items) run (h c' h'))) c.step_running.ensures.lines

pub returns-in-None-clause-ok : goal.returns-in-None-clause-ok
returns-in-None-clause-ok c =
    on_ok_weaker c.step_idle.result (λ h. λ c' h'. let f = h'.fault in let n = h'.going in let k = h'.sound in let s = h'.stands in
    let d = c.args.design.now in
    let run : c'.running ≡ None = sym (ap (λ (u : Picture). u.running) s.picture) ∙ search rules in
    let going : c'.finishing ≡ false = sym (ap (λ (u : Picture). u.finishing) s.picture) ∙ search rules in
    subst (λ (x : Config). Tracks d c.step_idle.new.machine x) (sym (rests d c.args.active.now c.args.reactive.now c' n going (sym (ap (λ (u : Picture). u.phase) s.picture) ∙ c.requires.open) run)) (h c' h')) c.step_idle.ensures.done

pub returns-in-None-clause-lines : goal.returns-in-None-clause-lines
returns-in-None-clause-lines c =
    on_ok_weaker c.step_idle.result (λ h. λ c' h'. let f = h'.fault in let n = h'.going in let k = h'.sound in let s = h'.stands in
    let d = c.args.design.now in
    let run : c'.running ≡ None = sym (ap (λ (u : Picture). u.running) s.picture) ∙ search rules in
    let going : c'.finishing ≡ false = sym (ap (λ (u : Picture). u.finishing) s.picture) ∙ search rules in
    subst (λ (x : Config). x.records ≡ c'.records ++ records_of c.step_idle.new.lines.items) (sym (rests d c.args.active.now c.args.reactive.now c' n going (sym (ap (λ (u : Picture). u.phase) s.picture) ∙ c.requires.open) run)) (h c' h')) c.step_idle.ensures.lines

use Rattle.std.proofs.Common.{rules, ◌≡◌, ◌∙◌, ◌++◌, sym, subst, ap, List, [], false}
use Rattle.std.specs.Prelude.{◌≢◌}
use Rattle.sv_flat.specs.Config.{Config}
use Rattle.sv_machine.specs.declared.line.Line.{Line}
use Rattle.sv_machine.specs.Machine.{Picture, Tracks}
use Rattle.sv_machine.specs.Log.{records_of}
use Rattle.sv_kernel.proofs.StepLemmas.{begins, goes_to_next, begin_records, next_records}
use Rattle.sv_kernel.proofs.slot.advance.Goals as goal

pub returns-in-NotBegun-clause-ok : goal.returns-in-NotBegun-clause-ok
returns-in-NotBegun-clause-ok c = λ c' h'. let f = h'.fault in let n = h'.going in let k = h'.sound in let s = h'.stands in
    let d = c.args.design.now in
    subst (λ (u : Config). Tracks d c.begin_slot.new.machine u) (sym (begins d c.args.active.now c.args.reactive.now c' n (sym (ap (λ (u : Picture). u.phase) s.picture) ∙ search rules)))
    (c.begin_slot.ensures.begun d c.requires.built c' h')

pub returns-in-NotBegun-clause-lines : goal.returns-in-NotBegun-clause-lines
returns-in-NotBegun-clause-lines c = λ c' h'. let f = h'.fault in let n = h'.going in let k = h'.sound in let s = h'.stands in
    let d = c.args.design.now in
    let none : c.args.lines.now.items ≡ [] = c.requires.empty in
    subst (λ (u : Config). u.records ≡ c'.records ++ records_of c.args.lines.now.items) (sym (begins d c.args.active.now c.args.reactive.now c' n (sym (ap (λ (u : Picture). u.phase) s.picture) ∙ search rules)))
    (begin_records d c' ∙ ap (λ (ls : List Line). c'.records ++ records_of ls) (sym none))

pub returns-in_ok-next_time-in-Ended-clause-ok : goal.returns-in_ok-next_time-in-Ended-clause-ok
returns-in_ok-next_time-in-Ended-clause-ok c = λ c' h'. let f = h'.fault in let n = h'.going in let k = h'.sound in let s = h'.stands in
    let d = c.args.design.now in
    let going = c.requires.going (search rules) in
    let more : c'.future ≢ [] = λ e. going.1 (ap (λ (u : Picture). u.future) s.picture ∙ e) in
    let unfinished : c'.finishing ≡ false = sym (ap (λ (u : Picture). u.finishing) s.picture) ∙ going.0 in
    subst (λ (u : Config). Tracks d c.next_time.new.machine u) (sym (goes_to_next d c.args.active.now c.args.reactive.now c' n unfinished (sym (ap (λ (u : Picture). u.phase) s.picture) ∙ search rules) more))
    (c.in_ok-next_time-in-Ended.ensures.ok c' h')

pub returns-in_ok-next_time-in-Ended-clause-lines : goal.returns-in_ok-next_time-in-Ended-clause-lines
returns-in_ok-next_time-in-Ended-clause-lines c = λ c' h'. let f = h'.fault in let n = h'.going in let k = h'.sound in let s = h'.stands in
    let d = c.args.design.now in
    let going = c.requires.going (search rules) in
    let more : c'.future ≢ [] = λ e. going.1 (ap (λ (u : Picture). u.future) s.picture ∙ e) in
    let unfinished : c'.finishing ≡ false = sym (ap (λ (u : Picture). u.finishing) s.picture) ∙ going.0 in
    let none : c.args.lines.now.items ≡ [] = c.requires.empty in
    subst (λ (u : Config). u.records ≡ c'.records ++ records_of c.args.lines.now.items) (sym (goes_to_next d c.args.active.now c.args.reactive.now c' n unfinished (sym (ap (λ (u : Picture). u.phase) s.picture) ∙ search rules) more))
    (next_records d c' ∙ ap (λ (ls : List Line). c'.records ++ records_of ls) (sym none))

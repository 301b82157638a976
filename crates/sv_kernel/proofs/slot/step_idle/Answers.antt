use Rattle.std.proofs.Common.{rules, ℕ, ◌≡◌, ◌<◌, ◌++◌, ◌∙◌, List, true, false, nat_lt, ap, sym, subst, arith}
use Rattle.std.proofs.lemmas.Bool.Decides.{nat_tests}
use Rattle.std.proofs.lemmas.Result.{on_ok_weaker}
use Rattle.sv_value.specs.Regions.{pickable, is_bare}
use Rattle.sv_flat.specs.Steps.{Kind, after, front, acting}
use Rattle.sv_flat.specs.Directed.{place_on}
use Rattle.sv_value.specs.Regions.{job_count}
use Rattle.sv_machine.specs.declared.line.Line.{Line}
use Rattle.sv_machine.specs.Machine.{Tracks}
use Rattle.sv_kernel.specs.Picks.{acting_set}
use Rattle.sv_machine.specs.Log.{records_of}
use Rattle.sv_kernel.proofs.StepLemmas.{picks_on, moves_on, ends_on, set_is, pick_records, move_records}
use Rattle.sv_kernel.proofs.slot.step_idle.Goals as goal

none_open : (n : ℕ) → n ≡ 0 → nat_lt 0 n ≡ false
none_open n h = grind (arith, nat_tests)

some_open : (n : ℕ) → 0 < n → nat_lt 0 n ≡ true
some_open n h = grind (arith, nat_tests)

pub returns-then-count-gt0-clause-lines : goal.returns-then-count-gt0-clause-lines
returns-then-count-gt0-clause-lines c = λ c' h'. let k = h'.sound in let n = h'.going in let s = h'.stands in
    let d = c.args.design.now in
    let m = c.args.machine.now in
    let some : 0 < pickable (acting_set m) = search rules in
    let set = set_is d m c' s in
    let kind = picks_on c.args.active.now c.args.reactive.now c' (ap (λ x. nat_lt 0 (pickable x)) (sym set) ∙ some_open (pickable (acting_set m)) some) in
    ap (λ (x : Kind). (after d c' x).records) kind
    ∙ pick_records d c' (job_count (front c')) (place_on (acting c') c.args.active.now c.args.reactive.now c')
    ∙ ap (λ (ls : List Line). c'.records ++ records_of ls) (sym c.requires.empty)

pub returns-then-is_bare-clause-done : goal.returns-then-is_bare-clause-done
returns-then-is_bare-clause-done c =
    let d = c.args.design.now in
    let m = c.args.machine.now in
    let none : pickable (acting_set m) ≡ 0 = search rules in
    let bare : is_bare (acting_set m) ≡ true = search rules in
    on_ok_weaker c.end_slot.result (λ h. λ c' h'.
    let set = set_is d m c' h'.stands in
    let kind = ends_on c.args.active.now c.args.reactive.now c' (none_open (pickable (front c')) (ap pickable (sym set) ∙ none)) (ap is_bare (sym set) ∙ bare) in
    subst (λ (x : Kind). Tracks d c.end_slot.new.machine (after d c' x)) (sym kind) (h c' h')) c.end_slot.ensures.ended

pub returns-then-is_bare-clause-lines : goal.returns-then-is_bare-clause-lines
returns-then-is_bare-clause-lines c =
    let d = c.args.design.now in
    let m = c.args.machine.now in
    let none : pickable (acting_set m) ≡ 0 = search rules in
    let bare : is_bare (acting_set m) ≡ true = search rules in
    on_ok_weaker c.end_slot.result (λ h. λ c' h'.
    let set = set_is d m c' h'.stands in
    let kind = ends_on c.args.active.now c.args.reactive.now c' (none_open (pickable (front c')) (ap pickable (sym set) ∙ none)) (ap is_bare (sym set) ∙ bare) in
    subst (λ (x : Kind). (after d c' x).records ≡ c'.records ++ records_of c.end_slot.new.lines.items) (sym kind) (h c' h')) c.end_slot.ensures.lines

pub returns-clause-done : goal.returns-clause-done
returns-clause-done c = λ c' h'. let k = h'.sound in let n = h'.going in let f = h'.fault in let s = h'.stands in
    let d = c.args.design.now in
    let m = c.args.machine.now in
    let none : pickable (acting_set m) ≡ 0 = search rules in
    let some : is_bare (acting_set m) ≡ false = search rules in
    let set = set_is d m c' s in
    let kind = moves_on c.args.active.now c.args.reactive.now c' (none_open (pickable (front c')) (ap pickable (sym set) ∙ none)) (ap is_bare (sym set) ∙ some) in
    subst (λ (x : Kind). Tracks d c.move_region.new.machine (after d c' x)) (sym kind) (c.move_region.ensures.moved d c' h')

pub returns-clause-lines : goal.returns-clause-lines
returns-clause-lines c = λ c' h'. let k = h'.sound in let n = h'.going in let s = h'.stands in
    let d = c.args.design.now in
    let m = c.args.machine.now in
    let none : pickable (acting_set m) ≡ 0 = search rules in
    let some : is_bare (acting_set m) ≡ false = search rules in
    let set = set_is d m c' s in
    let kind = moves_on c.args.active.now c.args.reactive.now c' (none_open (pickable (front c')) (ap pickable (sym set) ∙ none)) (ap is_bare (sym set) ∙ some) in
    ap (λ (x : Kind). (after d c' x).records) kind ∙ move_records d c' ∙ ap (λ (ls : List Line). c'.records ++ records_of ls) (sym c.requires.empty)

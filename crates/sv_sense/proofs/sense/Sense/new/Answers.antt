use Rattle.std.proofs.Common.{rules, ◌≡◌, List, Option, None, length, map}
use Rattle.sv_built.specs.declared.wait.Wait.{Wait}
use Rattle.sv_sense.specs.declared.waiter.Waiter.{Waiter}
use Rattle.sv_sense.specs.Watchers.{from_on}
use Rattle.sv_sense.proofs.SenseLaws.{covers_none}
use Rattle.sv_sense.proofs.sense.Sense.new.Goals as goal

pub returns-clause-covers : goal.returns-clause-covers
returns-clause-covers c =
    let d = c.args.design.now in
    let nobody : List (Option Waiter) = map (λ p. None) d.processes in
    let nothing : List (Option Wait) = map (λ p. None) d.processes in
    let waits : c.in_ok-waits.waits.items ≡ nobody = search rules in
    let known : c.in_ok-known.known.items ≡ nothing = search rules in
    let all : c.in_ok-all.all ≡ from_on 0 (length d.processes) = search rules in
    covers_none d _ waits known all

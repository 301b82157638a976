use Rattle.std.proofs.Common.{rules, ◌≡◌, ◌∙◌, sym, arith, length, ◌<◌, get_or, subst}
use Rattle.std.specs.List.{AllByRecursion}
use Rattle.sv_store.specs.First.{IsStorable}
use Rattle.sv_machine.proofs.OpeningValues.{storable, first_run, initial_at, one_run, all_run}
use Rattle.sv_machine.proofs.opening.first_store.Goals as goal

pub new-requires : goal.new-requires
new-requires c = subst (AllByRecursion IsStorable) (sym c.objects.ensures) (storable c.args.design.now.objects c.requires.each_object)

pub loop-number-init : goal.loop-number-init
loop-number-init c = first_run c.args.design.now c.requires c.in_ok-store.store (search rules)

pub initialize-requires-clause-initial : goal.initialize-requires-clause-initial
initialize-requires-clause-initial c =
    let os = c.args.design.now.objects in
    let x = c.object-item.result in
    let at : c.objects-object-items.result.now ≡ os = c.objects-object-items.ensures in
    let is : get_or os c.loop-number.number x ≡ x = rw (sym at) (search rules) in
    let within : c.loop-number.number < length os = rw (sym at) (omega arith) in
    (initial_at os c.loop-number.number x within is c.requires.each_object).initial

pub loop-number-preserved : goal.loop-number-preserved
loop-number-preserved c =
    let os = c.args.design.now.objects in
    let x = c.object-item.result in
    let at : c.objects-object-items.result.now ≡ os = c.objects-object-items.ensures in
    let is : get_or os c.loop-number.number x ≡ x = rw (sym at) (search rules) in
    let within : c.loop-number.number < length os = rw (sym at) (omega arith) in
    sym (one_run c.args.design.now os c.loop-number.number x c.loop-number.store c.initialize.new.store within is c.requires.each_object (search rules))
    ∙ c.loop-number.invariant

pub returns : goal.returns
returns c =
    let os = c.args.design.now.objects in
    let at : c.objects-object-items.result.now ≡ os = c.objects-object-items.ensures in
    let end : c.loop-number.number ≡ length os = rw (sym at) (omega arith) in
    all_run c.args.design.now c.loop-number.number c.loop-number.store end c.loop-number.invariant

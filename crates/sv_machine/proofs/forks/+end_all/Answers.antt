use Rattle.std.proofs.Common.{rules, ◌-◌, List, subst, sym, arith, drop, take, length, slice_index_or}
use Rattle.sv_value.specs.declared.number.ProcessId.{ProcessId}
use Rattle.sv_machine.specs.Forks.{AllEnd, MayAllEnd}
use Rattle.sv_machine.proofs.FamilyLaws.{split_first}
use Rattle.sv_machine.proofs.EndedLaws.{all_end_more, ends_alone, may_more}
use Rattle.sv_machine.proofs.forks.+end_all.Goals as goal

pub end_one-requires-clause-alone : goal.end_one-requires-clause-alone
end_one-requires-clause-alone t c =
    let d = c.args.design.now in
    let m = c.args.machine.now in
    let p = c.args.process in
    let ps = c.args.processes.now in
    let x : ProcessId = slice_index_or ps 0 (record { 0 = 0 }) in
    let l = c.in-len1-up.len_at_least in
    let h = subst (λ (qs : List ProcessId). MayAllEnd d p qs m) (split_first ps (record { 0 = 0 }) (omega (arith, l))) c.requires.may in
    ends_alone d m h.config h.stands p x h.may.0

pub end_all-requires : goal.end_all-requires
end_all-requires t c =
    let d = c.args.design.now in
    let m = c.args.machine.now in
    let p = c.args.process in
    let ps = c.args.processes.now in
    let x : ProcessId = slice_index_or ps 0 (record { 0 = 0 }) in
    let l = c.in-len1-up.len_at_least in
    let h = subst (λ (qs : List ProcessId). MayAllEnd d p qs m) (split_first ps (record { 0 = 0 }) (omega (arith, l))) c.requires.may in
    let may : MayAllEnd d p (take (length ps - 1) (drop 1 ps)) c.end_one.new.machine = may_more d p x (take (length ps - 1) (drop 1 ps)) m c.end_one.new.machine h c.end_one.ensures.ends in
    search rules

pub returns-in-len1-up-clause-ends : goal.returns-in-len1-up-clause-ends
returns-in-len1-up-clause-ends t c =
    let d = c.args.design.now in
    let m = c.args.machine.now in
    let p = c.args.process in
    let ps = c.args.processes.now in
    let x : ProcessId = slice_index_or ps 0 (record { 0 = 0 }) in
    let l = c.in-len1-up.len_at_least in
    subst (λ (qs : List ProcessId). AllEnd d p qs m c.end_all.new.machine) (sym (split_first ps (record { 0 = 0 }) (omega (arith, l))))
    (all_end_more d p x (take (length ps - 1) (drop 1 ps)) m c.end_one.new.machine c.end_all.new.machine c.end_one.ensures.ends c.end_all.ensures.ends)

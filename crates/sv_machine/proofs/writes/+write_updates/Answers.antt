use Rattle.std.proofs.Common.{rules, ◌≡◌, ◌∙◌, ◌∷◌, ◌++◌, List, [], ap, subst, sym}
use Rattle.std.specs.Prelude.{OnOk, reverse}
use Rattle.sv_value.specs.declared.schedule.Update.{Update}
use Rattle.sv_flat.specs.Steps.{updates_written}
use Rattle.sv_sense.proofs.SenseLaws.{ok_given}
use Rattle.sv_machine.specs.Machine.{IsAt, Makes}
use Rattle.sv_machine.proofs.StepLaws.{reverse_last}
use Rattle.sv_machine.proofs.WriteLaws.{written, written_at, updates_make}
use Rattle.sv_machine.proofs.writes.+write_updates.Goals as goal

pub write_updates-requires : goal.write_updates-requires
write_updates-requires t c =
    let d = c.args.design.now in
    let u : Update = c.in-Some.update in
    let k : Makes d c.args.machine.now c.write.new.machine (written d u.target u.value) = c.in_ok-write.ensures.ok in
    let at : IsAt d c.write.new.machine = written_at d c.args.machine.now c.write.new.machine u.target u.value k c.requires.at in
    search rules

pub returns-clause-ok : goal.returns-clause-ok
returns-clause-ok t c =
    let d = c.args.design.now in
    let u : Update = c.in-Some.update in
    let us = c.pop.new.self.items in
    let m = c.args.machine.now in
    let n = c.write.new.machine in
    let l = c.write_updates.new.machine in
    let last : c.args.updates.now.items ≡ us ++ u ∷ [] = search rules in
    let is : reverse c.args.updates.now.items ≡ u ∷ reverse us = ap (reverse {A = Update}) last ∙ reverse_last us u in
    let k : Makes d m n (written d u.target u.value) = c.in_ok-write.ensures.ok in
    subst (λ (us : List Update). OnOk c.write_updates.result (Makes d m l (updates_written d us))) (sym is)
    (ok_given c.write_updates.result _ _ (λ h. updates_make d c.requires.built u (reverse us) m n l k h) c.write_updates.ensures.ok)

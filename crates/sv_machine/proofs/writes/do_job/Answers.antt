use Rattle.std.proofs.Common.{rules, ◌≡◌, ◌∙◌, List, ap, subst, sym}
use Rattle.std.specs.Prelude.{reverse}
use Rattle.sv_value.specs.declared.schedule.Job.{Job}
use Rattle.sv_value.specs.declared.schedule.Update.{Update}
use Rattle.sv_flat.specs.Steps.{job_done, updates_written}
use Rattle.sv_machine.specs.Machine.{Makes}
use Rattle.sv_machine.proofs.StepLaws.{reverse_twice}
use Rattle.sv_machine.proofs.writes.do_job.Goals as goal

pub returns-clause-ok : goal.returns-clause-ok
returns-clause-ok c =
    let d = c.args.design.now in
    let m = c.args.machine.now in
    let n = c.write_updates.new.machine in
    let got : c.into_vec-list.result.items ≡ c.in-Update.updates = search rules in
    let is : reverse c.reverse.new.self.items ≡ c.in-Update.updates = ap (reverse {A = Update}) c.reverse.ensures.items ∙ reverse_twice c.into_vec-list.result.items ∙ got in
    let done : Makes d m n (updates_written d c.in-Update.updates) = subst (λ (us : List Update). Makes d m n (updates_written d us)) is c.in_ok-write_updates-in-Update.ensures.ok in
    subst (λ (j : Job). Makes d m n (job_done d j)) (sym c.in-Update.is) done

use Rattle.std.proofs.Common.{◌≡◌, ◌∙◌, ap, Some, slice_get}
use Rattle.std.proofs.lemmas.Result.{on_ok_weaker}
use Rattle.sv_value.specs.Regions.{set_of}
use Rattle.sv_sched.specs.declared.regions.Picked.TheVariants as picked
use Rattle.sv_sched.specs.Lists.{picks}
use Rattle.sv_kernel.proofs.PickLemmas.{process_picked, job_picked, process_done, job_picked_done, process_numbers}
use Rattle.sv_kernel.proofs.picks.do_pick.Goals as goal

pub begin_process-requires-clause-taking : goal.begin_process-requires-clause-taking
begin_process-requires-clause-taking c =
    let got : slice_get (picks (set_of c.args.side c.args.machine.now.regions)) c.args.place ≡ Some (picked.Process c.in-Process.process) = c.take.ensures.pick ∙ ap Some c.in-Process.is in
    let at = c.requires.at in
    let k = process_picked c.args.design.now c.requires.built c.args.machine.now c.args.side c.args.place c.take.new.self c.requires.side c.take.ensures.left at.config at.stands c.in-Process.process c.requires.idle got in
    record { config = at.config; place = k.at; takes = k.takes }

pub do_job-requires-clause-at : goal.do_job-requires-clause-at
do_job-requires-clause-at c =
    let got : slice_get (picks (set_of c.args.side c.args.machine.now.regions)) c.args.place ≡ Some (picked.Job c.in-Job.job) = c.take.ensures.pick ∙ ap Some c.in-Job.is in
    let at = c.requires.at in
    let k = job_picked c.args.design.now c.requires.built c.args.machine.now c.args.side c.args.place c.take.new.self c.requires.side c.take.ensures.left at.config at.stands c.in-Job.job got in
    record { config = _; stands = k.stands }

pub do_job-requires-clause-job : goal.do_job-requires-clause-job
do_job-requires-clause-job c =
    let got : slice_get (picks (set_of c.args.side c.args.machine.now.regions)) c.args.place ≡ Some (picked.Job c.in-Job.job) = c.take.ensures.pick ∙ ap Some c.in-Job.is in
    let at = c.requires.at in
    (job_picked c.args.design.now c.requires.built c.args.machine.now c.args.side c.args.place c.take.new.self c.requires.side c.take.ensures.left at.config at.stands c.in-Job.job got).plain

pub returns-in-Process-clause-done : goal.returns-in-Process-clause-done
returns-in-Process-clause-done c =
    let got : slice_get (picks (set_of c.args.side c.args.machine.now.regions)) c.args.place ≡ Some (picked.Process c.in-Process.process) = c.take.ensures.pick ∙ ap Some c.in-Process.is in
    on_ok_weaker c.begin_process.result
    (λ h. process_done c.args.design.now c.requires.built c.args.machine.now c.args.side c.args.place c.take.new.self c.requires.side c.take.ensures.left c.begin_process.new.machine c.in-Process.process c.requires.idle got h)
    c.begin_process.ensures.begins

pub returns-in-Process-clause-numbers : goal.returns-in-Process-clause-numbers
returns-in-Process-clause-numbers c =
    let got : slice_get (picks (set_of c.args.side c.args.machine.now.regions)) c.args.place ≡ Some (picked.Process c.in-Process.process) = c.take.ensures.pick ∙ ap Some c.in-Process.is in
    let at = c.requires.at in
    on_ok_weaker c.begin_process.result
    (λ h. process_numbers c.args.design.now c.requires.built c.args.machine.now c.args.side c.args.place c.take.new.self c.requires.side c.take.ensures.left c.begin_process.new.machine at.config at.stands c.in-Process.process c.requires.idle got h)
    c.begin_process.ensures.begins

pub returns-in-Job-clause-done : goal.returns-in-Job-clause-done
returns-in-Job-clause-done c =
    let got : slice_get (picks (set_of c.args.side c.args.machine.now.regions)) c.args.place ≡ Some (picked.Job c.in-Job.job) = c.take.ensures.pick ∙ ap Some c.in-Job.is in
    on_ok_weaker c.do_job.result
    (λ h. job_picked_done c.args.design.now c.requires.built c.args.machine.now c.args.side c.args.place c.take.new.self c.requires.side c.take.ensures.left c.do_job.new.machine c.in-Job.job got h)
    c.do_job.ensures.ok

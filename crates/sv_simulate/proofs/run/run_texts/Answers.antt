use Rattle.std.proofs.Common.{ℕ, List, Option, refl, true, subst, inr}
use Rattle.std.specs.Prelude.{map, string_bytes}
use Rattle.sv_flat.specs.Directed.{log_of}
use Rattle.sv_kernel.proofs.RunLemmas.{nothing_put}
use Rattle.sv_simulate.specs.Said.{runs, refused, said_of_run, run_of}
use Rattle.sv_simulate.specs.Source.{IsSource, Explains, contents}
use Rattle.sv_simulate.proofs.SaidLemmas.{if_ok_all}
use Rattle.sv_simulate.proofs.run.run_texts.Goals as goal

pub returns-in-Ok-clause-said : goal.returns-in-Ok-clause-said
returns-in-Ok-clause-said g c =
    let s = c.args.simulation in
    let r = run_of s.active s.steps c.in-Ok.design in
    let source = subst (λ (top : Option (List ℕ)). IsSource (contents c.args.texts.now) top c.in-Ok.design) c.bytes_of_name.ensures c.in-Ok.ensures.design in
    if_ok_all c.run_design.result _ _ _ _
    (λ x p q t. (said_of_run (map string_bytes s.files.now) s.steps r, runs c.in-Ok.design source, p, q, t))
    c.run_design.ensures.records c.run_design.ensures.line c.run_design.ensures.status

pub returns-in-Err-clause-said : goal.returns-in-Err-clause-said
returns-in-Err-clause-said g c =
    let explains = subst (λ (top : Option (List ℕ)). Explains (contents c.args.texts.now) top c.in-Err.fault) c.bytes_of_name.ensures c.in-Err.ensures.fault in
    if_ok_all c.refused.result _ _ _ _
    (λ x closed status memory. (_, refused c.in-Err.fault memory explains, nothing_put _, closed, status))
    c.refused.ensures.line c.refused.ensures.status c.refused.ensures.no_memory

pub returns-in-Ok-clause-memory : goal.returns-in-Ok-clause-memory
returns-in-Ok-clause-memory g c = λ e.
    let h = c.run_design.ensures.memory e in
    let source = subst (λ (top : Option (List ℕ)). IsSource (contents c.args.texts.now) top c.in-Ok.design) c.bytes_of_name.ensures c.in-Ok.ensures.design in
    (log_of true h.0, inr (c.in-Ok.design, source, h.0, h.1, refl), h.2)

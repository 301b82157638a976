use Rattle.std.proofs.Common.{rules, ◌≡◌, ◌∙◌, ◌⊎◌, List, map, slice_set, None, refl, ap, subst, sym}
use Rattle.std.specs.Prelude.{get_or}
use Rattle.std.specs.Vec.{with_item}
use Rattle.sv_flat.specs.declared.process.Process.{Process}
use Rattle.sv_flat.specs.declared.process.ProcessKind.{ProcessKind}
use Rattle.sv_flat.specs.declared.process.ProcessKind.TheVariants as kind
use Rattle.sv_flat.specs.Process.{Todo, body_in}
use Rattle.sv_stack.specs.declared.frames.Frame.{Frame}
use Rattle.sv_stack.specs.Frames.{todos_of}
use Rattle.sv_sense.proofs.SenseLaws.{ok_given}
use Rattle.sv_machine.specs.declared.machine.Machine.{Machine}
use Rattle.sv_machine.proofs.EndLaws.{left_with, own_is, initial_ends, always_ends, watched_ends}
use Rattle.sv_machine.proofs.effects.end_first.Goals as goal

pub returns-in-Initial-clause-ok : goal.returns-in-Initial-clause-ok
returns-in-Initial-clause-ok c = λ f e.
    let d = c.args.design.now in
    let p = c.args.process in
    let m = c.args.machine.now in
    let g : Process = c.index-processes-process.result in
    let i : get_or d.processes p.0 g ≡ g = search rules in
    let own : g ≡ f = own_is d p f g e i in
    initial_ends d f p f.kind m _ (sym (ap (λ (x : Process). x.kind) own) ∙ c.in-Initial.is) (record {
      is = λ i. record m { running = None; tree = c.end.ensures i; processes = with_item m.processes p.0 c.clear.new.self };
      left = record { remaining = left_with d m.processes.items p.0 c.clear.new.self ∙ ap (λ (x : List Frame). slice_set (map (todos_of d) m.processes.items) p.0 (todos_of d x)) c.clear.ensures };
    })

pub returns-in-Always-clause-ok : goal.returns-in-Always-clause-ok
returns-in-Always-clause-ok c = ok_given c.begin.result _ _ (λ h f e.
    let d = c.args.design.now in
    let p = c.args.process in
    let m = c.args.machine.now in
    let g : Process = c.index-processes-process.result in
    let i : get_or d.processes p.0 g ≡ g = search rules in
    let own : g ≡ f = own_is d p f g e i in
    always_ends d f p f.kind m _ (subst (λ (k : ProcessKind). (k ≡ kind.Always) ⊎ (k ≡ kind.AlwaysFf)) (ap (λ (x : Process). x.kind) own) c.in-Always.is) (record {
      is = refl;
      left = record { remaining = left_with d m.processes.items p.0 c.begin.new.self ∙ ap (λ (x : List Todo). slice_set (map (todos_of d) m.processes.items) p.0 x) (h d ∙ ap (λ (x : Process). body_in d x.body None) own) };
    })) c.begin.ensures.todos

pub returns-in_ok-begin-in-AlwaysComb-clause-ok : goal.returns-in_ok-begin-in-AlwaysComb-clause-ok
returns-in_ok-begin-in-AlwaysComb-clause-ok c = ok_given c.watch.result _ _ (λ h f e.
    let d = c.args.design.now in
    let p = c.args.process in
    let m = c.args.machine.now in
    let n = c.watch.new.machine in
    let g : Process = c.index-processes-process.result in
    let i : get_or d.processes p.0 g ≡ g = search rules in
    let own : g ≡ f = own_is d p f g e i in
    let again = c.in_ok-begin-in-AlwaysComb.ensures in
    watched_ends d f p f.kind m n (subst (λ (k : ProcessKind). (k ≡ kind.AlwaysComb) ⊎ ((k ≡ kind.Assign) ⊎ (k ≡ kind.Port))) (ap (λ (x : Process). x.kind) own) c.in-AlwaysComb.is) (record {
      is = h.is ∙ ap (λ (x : Machine). record m { running = None; processes = x.processes; sense = n.sense }) (sym h.is);
      left = record { remaining = ap (λ (x : Machine). map (todos_of d) x.processes.items) h.is ∙ left_with d m.processes.items p.0 c.begin-in-AlwaysComb.new.self ∙ ap (λ (x : List Todo). slice_set (map (todos_of d) m.processes.items) p.0 x) (again.todos d ∙ ap (λ (x : Process). body_in d x.body None) own) };
      waits = h.waits;
      covers = h.covers;
    })) c.watch.ensures.ok

use Rattle.std.proofs.Common.{◌∙◌, List, ap, map, slice_set}
use Rattle.std.specs.Vec.{with_item}
use Rattle.sv_stack.specs.declared.frames.Frame.{Frame}
use Rattle.sv_stack.specs.Frames.{todos_of}
use Rattle.sv_machine.proofs.EndLaws.{left_with}
use Rattle.sv_machine.proofs.forks.end_one.Goals as goal

pub returns-clause-ends : goal.returns-clause-ends
returns-clause-ends c =
    let d = c.args.design.now in
    let m = c.args.machine.now in
    let p = c.args.process in
    record {
      is = λ i. record m {
        tree = c.end.ensures i;
        processes = with_item m.processes p.0 c.clear.new.self;
        sense = c.forget.new.self;
        regions = c.remove.ensures i;
        wheel = c.remove-2.ensures i;
      };
      left = record { remaining = left_with d m.processes.items p.0 c.clear.new.self ∙ ap (λ (x : List Frame). slice_set (map (todos_of d) m.processes.items) p.0 (todos_of d x)) c.clear.ensures };
      waits = c.forget.ensures.waits;
      covers = c.forget.ensures.covers d c.requires.covers;
    }

use Rattle.std.proofs.Common.{◌≡◌, take}
use Rattle.sv_io.specs.Outside.{appended}
use Rattle.sv_kernel.specs.Log.{texts_of}
use Rattle.sv_kernel.proofs.log.put_lines.Given as goal

-- the lines before have been put
abbrev pub invariant-loop-line : goal.invariant-loop-line
invariant-loop-line g l = record {
  put : g.O.Sink.bytes l.out ≡ appended (g.O.Sink.bytes l.initial.out) (texts_of (take l.line-index l.lines));
  faults : g.O.Sink.faults l.out ≡ g.O.Sink.faults l.initial.out;
}

-- What was sent so far, and then the next bytes.
use Rattle.std.proofs.Common.{◌-◌, length, drop, arith}
use Rattle.std.proofs.lemmas.List.{length-take}
use Rattle.sv_io.proofs.WriterLemmas.{sent_more}
use Rattle.sv_io.proofs.out_sink.write_some.Goals as goal

pub loop-sent-preserved : goal.loop-sent-preserved
loop-sent-preserved g c =
    let text = c.args.text.now in
    let sent = c.loop-sent.sent in
    let n = c.write_part-count.result in
    record {
      within = omega (arith, c.write_part-count.ensures.within, length-take (length text - sent) (drop sent text), c.loop-sent-test.true);
      written = sent_more _ _ _ text sent n (length text - sent) c.loop-sent.invariant.written c.write_part-count.ensures.within c.write_part-count.ensures.written;
    }

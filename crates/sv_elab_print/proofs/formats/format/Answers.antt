use Rattle.std.proofs.Common.{◌+◌, drop, Option, sym, ap, ◌∙◌}
use Rattle.sv_elab_print.specs.Reading.{read_if}
use Rattle.sv_elab_print.specs.declared.formats.Reading.{Reading}
use Rattle.sv_elab_print.proofs.FormatLaws.{byte_read}
use Rattle.sv_elab_print.proofs.formats.format.Goals as goal

pub returns-in-None-clause-ok : goal.returns-in-None-clause-ok
returns-in-None-clause-ok c =
    let text = c.args.text.now in
    let i = c.loop-byte.byte-index in
    sym (ap (λ (o : Option Reading). read_if o (drop (i + 1) text)) c.in-None.is)
    ∙ byte_read text i c.loop-byte.reading c.in_ok-next.field-0 c.loop-byte-test.true c.in_ok-next.ensures.ok
    ∙ c.loop-byte.invariant

pub loop-byte-preserved : goal.loop-byte-preserved
loop-byte-preserved c =
    let text = c.args.text.now in
    let i = c.loop-byte.byte-index in
    sym (ap (λ (o : Option Reading). read_if o (drop (i + 1) text)) c.in-Some.is)
    ∙ byte_read text i c.loop-byte.reading c.in_ok-next.field-0 c.loop-byte-test.true c.in_ok-next.ensures.ok
    ∙ c.loop-byte.invariant

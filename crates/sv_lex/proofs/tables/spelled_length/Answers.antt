use Rattle.std.proofs.Common.{[], arith}
use Rattle.sv_tree.specs.declared.kind.Kind.TheVariants.{Name}
use Rattle.sv_lex.proofs.Forms.{longest_goes, longest_done}
use Rattle.sv_lex.proofs.tables.spelled_length.Goals as goal

pub loop-word-preserved : goal.loop-word-preserved
loop-word-preserved c = record {
  within = omega arith;
  rest = longest_goes (λ x. (x.0.now, x.1)) c.args.table.now c.loop-word.word-index (record { ref_ptr = (0, 0); now = [] }, Name) c.args.s.now
      c.as_bytes.result.now c.word_length.result c.loop-word.most c.max-most.result _ c.loop-word-test.true c.as_bytes.ensures.value c.word_length.ensures.value c.max-most.ensures c.loop-word.invariant.rest;
}

pub returns-clause-value : goal.returns-clause-value
returns-clause-value c = longest_done (λ x. (x.0.now, x.1)) c.args.table.now c.loop-word.word-index c.args.s.now c.loop-word.most _ c.loop-word-test.false c.loop-word.invariant.rest

use Rattle.std.proofs.Common.{[]}
use Rattle.sv_tree.specs.declared.kind.Kind.TheVariants.{Name}
use Rattle.sv_lex.proofs.Forms.{spelled_found, spelled_goes, spelled_none}
use Rattle.sv_lex.proofs.tables.kind_in.Goals as goal

pub returns-then-eq : goal.returns-then-eq
returns-then-eq c =
    spelled_found (λ x. (x.0.now, x.1)) c.args.table.now c.loop-spelling.spelling-index (record { ref_ptr = (0, 0); now = [] }, Name) c.args.word.now
    c.as_bytes.result.now c.eq.result _ c.loop-spelling-test.true c.as_bytes.ensures.value c.eq.ensures c.if-eq.true c.loop-spelling.invariant

pub loop-spelling-preserved : goal.loop-spelling-preserved
loop-spelling-preserved c =
    spelled_goes (λ x. (x.0.now, x.1)) c.args.table.now c.loop-spelling.spelling-index (record { ref_ptr = (0, 0); now = [] }, Name) c.args.word.now
    c.as_bytes.result.now c.eq.result _ c.loop-spelling-test.true c.as_bytes.ensures.value c.eq.ensures c.if-eq.false c.loop-spelling.invariant

pub returns : goal.returns
returns c = spelled_none (λ x. (x.0.now, x.1)) c.args.table.now c.loop-spelling.spelling-index c.args.word.now _ c.loop-spelling-test.false c.loop-spelling.invariant

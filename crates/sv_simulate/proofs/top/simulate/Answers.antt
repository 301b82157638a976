-- What is put is a prefix of the records, and then a prefix of a line.
use Rattle.std.proofs.Common.{rules, refl, sym, subst}
use Rattle.std.specs.Prelude.{codes}
use Rattle.sv_simulate.specs.Said.{limits, IsLine, line}
use Rattle.sv_simulate.specs.Simulated.{texts, IsPrefixOfRecords}
use Rattle.sv_simulate.proofs.SaidLemmas.{after_whole, after_part, after_none, cut_in_records, cut_in_closing, cut_in_memory_line, memory_line_put, no_memory_line, no_closing}
use Rattle.sv_simulate.proofs.top.simulate.Goals as goal

pub returns-in-Ok-put-clause-prefix : goal.returns-in-Ok-put-clause-prefix
returns-in-Ok-put-clause-prefix g c =
    let is_line : IsLine c.as_bytes.result.now = subst IsLine (sym c.as_bytes.ensures.value) c.in-Ok.ensures.closed.is_line in
    after_whole (IsPrefixOfRecords limits (texts c.args.words.now) (g.F.Shelf.files c.args.shelf.now))
    (g.O.Sink.bytes c.args.out.now) (g.O.Sink.bytes c.answer.new.out) (g.O.Sink.bytes c.put.new.self) c.answer.ensures.put
    c.as_bytes.result.now is_line c.in-Ok-put.ensures.whole

pub returns-in-Err-Failed-clause-prefix : goal.returns-in-Err-Failed-clause-prefix
returns-in-Err-Failed-clause-prefix g c =
    let is_line : IsLine c.as_bytes.result.now = subst IsLine (sym c.as_bytes.ensures.value) c.in-Ok.ensures.closed.is_line in
    after_part (IsPrefixOfRecords limits (texts c.args.words.now) (g.F.Shelf.files c.args.shelf.now))
    (g.O.Sink.bytes c.args.out.now) (g.O.Sink.bytes c.answer.new.out) (g.O.Sink.bytes c.put.new.self) c.answer.ensures.put
    c.as_bytes.result.now is_line (c.in-Err-Failed.ensures.part (search rules))

pub returns-in-Ok-clause-prefix : goal.returns-in-Ok-clause-prefix
returns-in-Ok-clause-prefix g c =
    after_none (IsPrefixOfRecords limits (texts c.args.words.now) (g.F.Shelf.files c.args.shelf.now))
    (g.O.Sink.bytes c.args.out.now) (g.O.Sink.bytes c.answer.new.out) (g.O.Sink.bytes c.put.new.self) c.answer.ensures.put
    (c.in-Err-Memory-put.ensures.nothing (search rules))

pub returns-in-Err-LogFailed-clause-prefix : goal.returns-in-Err-LogFailed-clause-prefix
returns-in-Err-LogFailed-clause-prefix g c =
    after_none (IsPrefixOfRecords limits (texts c.args.words.now) (g.F.Shelf.files c.args.shelf.now))
    (g.O.Sink.bytes c.args.out.now) (g.O.Sink.bytes c.answer.new.out) (g.O.Sink.bytes c.answer.new.out) c.answer.ensures.put refl

memory_line : IsLine (line (codes "out of memory"))
memory_line = (codes "out of memory", refl)

pub returns-in-Ok-put-2-clause-prefix : goal.returns-in-Ok-put-2-clause-prefix
returns-in-Ok-put-2-clause-prefix g c =
    after_whole (IsPrefixOfRecords limits (texts c.args.words.now) (g.F.Shelf.files c.args.shelf.now))
    (g.O.Sink.bytes c.args.out.now) (g.O.Sink.bytes c.answer.new.out) (g.O.Sink.bytes c.put-in-Err-Memory.new.self) c.answer.ensures.put
    (line (codes "out of memory")) memory_line c.in-Ok-put-2.ensures.whole

pub returns-in-Err-Failed-put-clause-prefix : goal.returns-in-Err-Failed-put-clause-prefix
returns-in-Err-Failed-put-clause-prefix g c =
    after_part (IsPrefixOfRecords limits (texts c.args.words.now) (g.F.Shelf.files c.args.shelf.now))
    (g.O.Sink.bytes c.args.out.now) (g.O.Sink.bytes c.answer.new.out) (g.O.Sink.bytes c.put-in-Err-Memory.new.self) c.answer.ensures.put
    (line (codes "out of memory")) memory_line (c.in-Err-Failed-put.ensures.part (search rules))

pub returns-clause-prefix : goal.returns-clause-prefix
returns-clause-prefix g c =
    after_none (IsPrefixOfRecords limits (texts c.args.words.now) (g.F.Shelf.files c.args.shelf.now))
    (g.O.Sink.bytes c.args.out.now) (g.O.Sink.bytes c.answer.new.out) (g.O.Sink.bytes c.put-in-Err-Memory.new.self) c.answer.ensures.put
    (c.in-Err-Memory-put-2.ensures.nothing (search rules))

pub returns-in-Err-Failed-clause-cut : goal.returns-in-Err-Failed-clause-cut
returns-in-Err-Failed-clause-cut g c = λ _.
    cut_in_closing limits (texts c.args.words.now) (g.F.Shelf.files c.args.shelf.now) (g.O.Sink.bytes c.args.out.now) (g.O.Sink.bytes c.answer.new.out) (g.O.Sink.bytes c.put.new.self)
    _ c.as_bytes.result.now c.as_bytes.ensures.value c.in-Ok.ensures.all (c.in-Err-Failed.ensures.part (search rules))

pub returns-in-Err-LogFailed-clause-cut : goal.returns-in-Err-LogFailed-clause-cut
returns-in-Err-LogFailed-clause-cut g c = λ _.
    cut_in_records limits (texts c.args.words.now) (g.F.Shelf.files c.args.shelf.now) (g.O.Sink.bytes c.args.out.now) (g.O.Sink.bytes c.answer.new.out) (g.O.Sink.bytes c.answer.new.out)
    c.answer.ensures.put refl

pub returns-in-Err-Failed-put-clause-cut : goal.returns-in-Err-Failed-put-clause-cut
returns-in-Err-Failed-put-clause-cut g c = λ _.
    cut_in_memory_line limits (texts c.args.words.now) (g.F.Shelf.files c.args.shelf.now) (g.O.Sink.bytes c.args.out.now) (g.O.Sink.bytes c.answer.new.out)
    (g.O.Sink.bytes c.put-in-Err-Memory.new.self) (c.answer.ensures.memory (search rules)) (c.in-Err-Failed-put.ensures.part (search rules))

pub returns-in-Ok-put-2-clause-memory : goal.returns-in-Ok-put-2-clause-memory
returns-in-Ok-put-2-clause-memory g c = λ _.
    memory_line_put limits (texts c.args.words.now) (g.F.Shelf.files c.args.shelf.now) (g.O.Sink.bytes c.args.out.now) (g.O.Sink.bytes c.answer.new.out)
    (g.O.Sink.bytes c.put-in-Err-Memory.new.self) (c.answer.ensures.memory (search rules)) c.in-Ok-put-2.ensures.whole

pub returns-in-Ok-clause-memory : goal.returns-in-Ok-clause-memory
returns-in-Ok-clause-memory g c = λ _.
    no_closing limits (texts c.args.words.now) (g.F.Shelf.files c.args.shelf.now) (g.O.Sink.bytes c.args.out.now) (g.O.Sink.bytes c.answer.new.out) (g.O.Sink.bytes c.put.new.self)
    _ c.in-Ok.ensures.all (c.in-Err-Memory-put.ensures.nothing (search rules))

pub returns-clause-memory : goal.returns-clause-memory
returns-clause-memory g c = λ _.
    no_memory_line limits (texts c.args.words.now) (g.F.Shelf.files c.args.shelf.now) (g.O.Sink.bytes c.args.out.now) (g.O.Sink.bytes c.answer.new.out)
    (g.O.Sink.bytes c.put-in-Err-Memory.new.self) (c.answer.ensures.memory (search rules)) (c.in-Err-Memory-put-2.ensures.nothing (search rules))

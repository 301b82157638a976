use Rattle.std.proofs.Common.{◌∙◌, ◌∷◌, ◌++◌, [], ap, sym, arith}
use Rattle.sv_arena.proofs.ChunkLaws.{chunked_new, entries_new}
use Rattle.sv_arena.proofs.arena.push_in.Goals as goal

pub returns-clause-ok : goal.returns-clause-ok
returns-clause-ok g c =
    entries_new c.args.chunks.now.items c.push-2.new.self.items c.push.new.self c.args.entry c.in_ok-push-2.ensures.items
    (c.in_ok-push.ensures.ok ∙ ap (λ xs. xs ++ c.args.entry ∷ []) c.in_ok-chunk.ensures)

pub returns-clause-chunked : goal.returns-clause-chunked
returns-clause-chunked g c =
    chunked_new 1024 c.args.chunks.now.items c.push-2.new.self.items c.push.new.self c.args.entry c.requires (sym c.has_room.ensures ∙ c.if-has_room.false) (omega arith) c.in_ok-push-2.ensures.items
    (c.in_ok-push.ensures.ok ∙ ap (λ xs. xs ++ c.args.entry ∷ []) c.in_ok-chunk.ensures)

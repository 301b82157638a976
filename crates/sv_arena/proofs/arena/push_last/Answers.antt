use Rattle.std.proofs.Common.{rules, ◌≡◌, ◌-◌, ◌<◌, ◌∙◌, ap, sym, length, slice_get, slice_set, arith}
use Rattle.sv_arena.specs.Chunks.{entries_of}
use Rattle.sv_arena.proofs.ChunkLaws.{chunked_along, last_chunked, last_pushed, room_some}
use Rattle.sv_arena.proofs.PlaceLaws.{get_is}
use Rattle.sv_arena.proofs.arena.push_last.Goals as goal

pub returns-clause-ok : goal.returns-clause-ok
returns-clause-ok g c =
    let n : c.len-last.result ≡ length c.args.chunks.now.items = search rules in
    let some : 0 < length c.args.chunks.now.items = room_some 1024 c.args.chunks.now.items c.requires.room in
    let last : c.len-last.result - 1 ≡ length c.args.chunks.now.items - 1 = ap (λ k. k - 1) n in
    let here = get_is c.args.chunks.now.items (c.len-last.result - 1) c.index_mut-chunk.result.now (omega (arith, n, some)) c.index_mut-chunk.ensures.value in
    ap (λ k. entries_of (slice_set c.args.chunks.now.items k c.push.new.self)) last
    ∙ last_pushed 1024 c.args.chunks.now.items c.index_mut-chunk.result.now c.push.new.self c.args.entry
    (ap (slice_get c.args.chunks.now.items) (sym last) ∙ here) c.in_ok-push.ensures.ok

pub returns-clause-chunked : goal.returns-clause-chunked
returns-clause-chunked g c =
    let n : c.len-last.result ≡ length c.args.chunks.now.items = search rules in
    let some : 0 < length c.args.chunks.now.items = room_some 1024 c.args.chunks.now.items c.requires.room in
    let last : length c.args.chunks.now.items - 1 ≡ c.len-last.result - 1 = ap (λ k. k - 1) (sym n) in
    let here = get_is c.args.chunks.now.items (c.len-last.result - 1) c.index_mut-chunk.result.now (omega (arith, n, some)) c.index_mut-chunk.ensures.value in
    chunked_along 1024 c.args.chunks.now.items c.push.new.self (length c.args.chunks.now.items - 1) (c.len-last.result - 1) last
    (last_chunked 1024 c.args.chunks.now.items c.index_mut-chunk.result.now c.push.new.self c.args.entry c.requires.chunked c.requires.room
    (ap (slice_get c.args.chunks.now.items) last ∙ here) c.in_ok-push.ensures.ok)

use Rattle.std.proofs.Common.{◌≡◌, ◌/◌, ◌%◌, ◌<◌, ◌∙◌, Some, None, ap, sym, slice_get, arith}
use Rattle.std.specs.Option.{option_copied}
use Rattle.sv_arena.proofs.ChunkLaws.{entry_is, get_in}
use Rattle.sv_arena.proofs.arena.Arena.get.Goals as goal

pub returns-in-Some : goal.returns-in-Some
returns-in-Some g c =
    let below : c.args.place % 1024 < 1024 = omega arith in
    let here : Some c.in-Some.chunk.now ≡ slice_get c.self.inside.chunks.items (c.args.place / 1024) = ap option_copied (sym c.in-Some.is) ∙ c.chunk_at.ensures in
    c.get.ensures ∙ ap (λ o. get_in o (c.args.place % 1024)) here
    ∙ entry_is 1024 c.self.inside.chunks.items c.args.place c.self.invariant.0 below ∙ ap (λ xs. slice_get xs c.args.place) c.self.view_is

pub returns-in-None : goal.returns-in-None
returns-in-None g c =
    let below : c.args.place % 1024 < 1024 = omega arith in
    let here : None ≡ slice_get c.self.inside.chunks.items (c.args.place / 1024) = ap option_copied (sym c.in-None.is) ∙ c.chunk_at.ensures in
    ap (λ o. get_in o (c.args.place % 1024)) here
    ∙ entry_is 1024 c.self.inside.chunks.items c.args.place c.self.invariant.0 below ∙ ap (λ xs. slice_get xs c.args.place) c.self.view_is

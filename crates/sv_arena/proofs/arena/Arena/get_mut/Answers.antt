use Rattle.std.proofs.Common.{rules, vec_len, ◌≡◌, ◌/◌, ◌%◌, ◌<◌, ◌∙◌, List, ap, subst, sym, refl, length, slice_get, slice_set, arith}
use Rattle.sv_arena.specs.Chunks.{entries_of}
use Rattle.sv_arena.proofs.ChunkLaws.{chunk_within, entry_is, entry_set, entry_set-chunked, entry_set-length, entry_within, get_in}
use Rattle.sv_arena.proofs.PlaceLaws.{get_is}
use Rattle.sv_arena.proofs.arena.Arena.get_mut.Goals as goal

pub index_mut-chunk-requires : goal.index_mut-chunk-requires
index_mut-chunk-requires g c =
    let below : c.args.place % 1024 < 1024 = omega arith in
    let inside : c.args.place < length (entries_of c.self.inside.chunks.items) = subst (λ (xs : List g.row.T.Denot). c.args.place < length xs) (sym c.self.view_is) c.requires in
    let len : vec_len c.self.inside.chunks ≡ length c.self.inside.chunks.items = search rules in
    omega (arith, len, chunk_within 1024 c.self.inside.chunks.items c.args.place c.self.invariant.0 below inside)

pub get_mut-requires : goal.get_mut-requires
get_mut-requires g c =
    let below : c.args.place % 1024 < 1024 = omega arith in
    let inside : c.args.place < length (entries_of c.self.inside.chunks.items) = subst (λ (xs : List g.row.T.Denot). c.args.place < length xs) (sym c.self.view_is) c.requires in
    let here = get_is c.self.inside.chunks.items (c.args.place / 1024) c.index_mut-chunk.result.now
    (chunk_within 1024 c.self.inside.chunks.items c.args.place c.self.invariant.0 below inside) c.index_mut-chunk.ensures.value in
    entry_within 1024 c.self.inside.chunks.items c.args.place c.index_mut-chunk.result.now c.self.invariant.0 below inside here

pub invariant_of-self-lent : goal.invariant_of-self-lent
invariant_of-self-lent g c = λ w.
    let below : c.args.place % 1024 < 1024 = omega arith in
    let inside : c.args.place < length (entries_of c.self.inside.chunks.items) = subst (λ (xs : List g.row.T.Denot). c.args.place < length xs) (sym c.self.view_is) c.requires in
    let here = get_is c.self.inside.chunks.items (c.args.place / 1024) c.index_mut-chunk.result.now
    (chunk_within 1024 c.self.inside.chunks.items c.args.place c.self.invariant.0 below inside) c.index_mut-chunk.ensures.value in
    let within = entry_within 1024 c.self.inside.chunks.items c.args.place c.index_mut-chunk.result.now c.self.invariant.0 below inside here in (
      entry_set-chunked 1024 c.self.inside.chunks.items c.args.place c.index_mut-chunk.result.now w c.self.invariant.0 here,
      c.self.invariant.1 ∙ entry_set-length 1024 c.self.inside.chunks.items c.args.place c.index_mut-chunk.result.now w c.self.invariant.0 below here within,
    )

pub returns : goal.returns
returns g c =
    let below : c.args.place % 1024 < 1024 = omega arith in
    let inside : c.args.place < length (entries_of c.self.inside.chunks.items) = subst (λ (xs : List g.row.T.Denot). c.args.place < length xs) (sym c.self.view_is) c.requires in
    let here = get_is c.self.inside.chunks.items (c.args.place / 1024) c.index_mut-chunk.result.now
    (chunk_within 1024 c.self.inside.chunks.items c.args.place c.self.invariant.0 below inside) c.index_mut-chunk.ensures.value in
    let within = entry_within 1024 c.self.inside.chunks.items c.args.place c.index_mut-chunk.result.now c.self.invariant.0 below inside here in (
      (
        refl {a = c.get_mut.result.ghost_name},
        λ w. sym (entry_set 1024 c.self.inside.chunks.items c.args.place c.index_mut-chunk.result.now w c.self.invariant.0 below here within)
            ∙ ap (λ xs. slice_set xs c.args.place w) c.self.view_is,
      ),
      record {
        writes_back = tt;
        value = ap (λ xs. slice_get xs c.args.place) (sym c.self.view_is) ∙ sym (entry_is 1024 c.self.inside.chunks.items c.args.place c.self.invariant.0 below)
            ∙ ap (λ o. get_in o (c.args.place % 1024)) here ∙ c.get_mut.ensures.value;
      },
    )

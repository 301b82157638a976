-- The file whose turn it was is the one that was not fetched.
use Rattle.std.proofs.Common.{rules, ◌∙◌, ap, subst}
use Rattle.std.specs.Prelude.{IsSome, string_bytes}
use Rattle.sv_io.specs.Outside.{HasLonger}
use Rattle.sv_simulate.specs.Said.{Files}
use Rattle.sv_simulate.specs.Source.{contents}
use Rattle.sv_simulate.proofs.FetchLemmas.{turn_at, long_at}
use Rattle.sv_simulate.proofs.answer.fetch_all.Goals as goal

pub returns-in-Err-Long : goal.returns-in-Err-Long
returns-in-Err-Long g c =
    let is = c.as_str-name.ensures.value ∙ ap string_bytes c.file-item.is in
    let t = long_at (g.F.Shelf.files c.args.shelf.now) c.args.limit c.args.names.now c.loop-file.file-index c.file-item.result c.loop-file-test.true
    c.as_str-name.result.now is (contents c.loop-file.texts.items) c.loop-file.invariant.has c.loop-file.left c.loop-file.invariant.left
    (subst (λ (files : Files). IsSome files → HasLonger files c.as_str-name.result.now c.loop-file.left) c.loop-file.invariant.files
    (c.in-Err-Long.ensures.longer (search rules))) in
    (t.0, t.1, t.2, t.3, search rules)

pub returns-in-Err-Failed : goal.returns-in-Err-Failed
returns-in-Err-Failed g c =
    let is = c.as_str-name.ensures.value ∙ ap string_bytes c.file-item.is in
    let t = turn_at (g.F.Shelf.files c.args.shelf.now) c.args.limit c.args.names.now c.loop-file.file-index c.file-item.result c.loop-file-test.true
    c.as_str-name.result.now is (contents c.loop-file.texts.items) c.loop-file.invariant.has c.loop-file.left c.loop-file.invariant.left in
    (t, search rules, search rules)

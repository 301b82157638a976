-- One declaration after another.
use Rattle.std.proofs.Common.{◌≡◌, ◌+◌, [], ◌∷◌, ◌∙◌, drop, sym, ap, arith}
use Rattle.std.proofs.lemmas.List.{drop_more}
use Rattle.std.proofs.lemmas.Grind.{common_steps}
use Rattle.sv_names.specs.Named.{further, local_size}
use Rattle.sv_names.specs.Views.{around_in}
use Rattle.sv_elab_subroutine.specs.Results.{result_from}
use Rattle.sv_elab_subroutine.proofs.ResultLaws.{result_here, result_behind, result_is}
use Rattle.sv_elab_subroutine.proofs.results.result_formal.Goals as goal

pub returns-in-Some : goal.returns-in-Some
returns-in-Some c =
    let ar = around_in c.args.around.now in
    let list = c.as_slice-list.result.now in
    let k = c.known-item.result in
    let rest = drop (c.loop-known.known-index + 1) list in
    let here : drop c.loop-known.known-index list ≡ k ∷ rest =
    drop_more list c.loop-known.known-index k c.loop-known-test.true ∙ ap (λ x. x ∷ rest) (sym c.known-item.is) in
    result_here ar c.loop-known.place k rest c.in-Some.formal c.in-Some.ensures
    ∙ ap (result_from ar c.loop-known.place) (sym here) ∙ c.loop-known.invariant
    ∙ ap (result_from ar 0) c.as_slice-list.ensures ∙ result_is ar c.args.scope.now

pub loop-known-preserved : goal.loop-known-preserved
loop-known-preserved c =
    let ar = around_in c.args.around.now in
    let list = c.as_slice-list.result.now in
    let k = c.known-item.result in
    let rest = drop (c.loop-known.known-index + 1) list in
    let here : drop c.loop-known.known-index list ≡ k ∷ rest =
    drop_more list c.loop-known.known-index k c.loop-known-test.true ∙ ap (λ x. x ∷ rest) (sym c.known-item.is) in
    let next : c.saturating_add-place.result ≡ further c.loop-known.place (local_size k.value) = grind (arith, common_steps) in
    result_behind ar c.loop-known.place c.saturating_add-place.result k rest c.in-None.ensures next
    ∙ ap (result_from ar c.loop-known.place) (sym here) ∙ c.loop-known.invariant

pub returns : goal.returns
returns c =
    let ar = around_in c.args.around.now in
    let list = c.as_slice-list.result.now in
    let none : drop c.loop-known.known-index list ≡ [] = grind (arith, common_steps) in
    ap (result_from ar c.loop-known.place) (sym none) ∙ c.loop-known.invariant
    ∙ ap (result_from ar 0) c.as_slice-list.ensures ∙ result_is ar c.args.scope.now

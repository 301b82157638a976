use Rattle.std.proofs.Common.{◌≡◌, ◌+◌, ◌<◌, ◌∷◌, ◌∙◌, ap, sym, Some, length, drop, get_or, slice_get}
use Rattle.std.specs.Prelude.{fold}
use Rattle.std.proofs.lemmas.List.{drop_more}
use Rattle.std.proofs.lemmas.Option.{slice_get-get_or}
use Rattle.sv_value.specs.Vector.{Vector}
use Rattle.sv_value.specs.Operators.{resolved, resolved_symbol}
use Rattle.sv_value.proofs.Laws.{length-by_symbols}
use Rattle.sv_store.proofs.SlotLemmas.{all_at}
use Rattle.sv_store.specs.Objects.{IsWide}
use Rattle.sv_store.proofs.net.resolved_value.Goals as goal

pub loop-driver-preserved : goal.loop-driver-preserved
loop-driver-preserved c =
    let drivers = c.args.drivers.now in
    let i = c.loop-driver.driver-index in
    let value = c.loop-driver.value in
    let driver = c.driver-item.result in
    let within : i < length drivers = c.loop-driver-test.true in
    let is : get_or drivers i driver ≡ driver = sym c.driver-item.is in
    let there : slice_get drivers i ≡ Some driver = slice_get-get_or drivers i driver within ∙ ap Some is in
    let wide : length driver.symbols ≡ c.args.width = all_at (IsWide c.args.width) drivers i driver there c.requires.each_wide in
    record {
      rest = ap (λ (v : Vector). fold resolved v (drop (i + 1) drivers)) c.resolve_bits-value.ensures
          ∙ ap (λ (d : Vector). fold resolved value (d ∷ drop (i + 1) drivers)) (sym is)
          ∙ ap (fold resolved value) (sym (drop_more drivers i driver within)) ∙ c.loop-driver.invariant.rest;
      wide = ap (λ (v : Vector). length v.symbols) c.resolve_bits-value.ensures
          ∙ length-by_symbols resolved_symbol value driver (c.loop-driver.invariant.wide ∙ sym wide) ∙ c.loop-driver.invariant.wide;
    }

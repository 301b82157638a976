use Rattle.std.proofs.Common.{◌≡◌, ◌*◌, [], ◌∷◌, ◌++◌, sym, ap, ◌∙◌}
use Rattle.std.specs.Prelude.{ℕ, ℤ, pos, ◌*ℤ◌}
use Rattle.sv_value.specs.Operators.{integer_in}
use Rattle.sv_value.specs.Digits.{decimal, signed_decimal}
use Rattle.sv_eval.proofs.PrintLaws.{negative_time, natural_time}
use Rattle.sv_eval.proofs.printed.ticks_of.Goals as goal

pub returns-then-is_negative : goal.returns-then-is_negative
returns-then-is_negative c =
    let v = c.args.value in
    let z = c.of-number.result in
    let t = c.args.ticks in
    let number : z ≡ integer_in v.signed v.symbols = c.of-number.ensures ∙ ap (λ s. integer_in s v.symbols) c.signed.ensures in
    let digits = c.bytes.ensures ∙ c.in_ok-digits.ensures ∙ ap (λ (n : ℕ). decimal (n * t)) c.size.ensures in
    let sign = c.in_ok-push.ensures.ok ∙ ap (λ t. t ++ 45 ∷ []) c.new-text.ensures in
    c.in_ok-push_all.ensures.ok ∙ (λ i. sign i ++ digits i)
    ∙ negative_time z t (sym c.is_negative.ensures ∙ c.if-is_negative.true) c.if-ticks-eq0.false ∙ ap (λ (n : ℤ). signed_decimal (n *ℤ pos t)) number

pub returns : goal.returns
returns c =
    let v = c.args.value in
    let z = c.of-number.result in
    let t = c.args.ticks in
    let number : z ≡ integer_in v.signed v.symbols = c.of-number.ensures ∙ ap (λ s. integer_in s v.symbols) c.signed.ensures in
    c.in_ok-digits.ensures ∙ ap (λ (n : ℕ). decimal (n * t)) c.size.ensures
    ∙ natural_time z t (sym c.is_negative.ensures ∙ c.if-is_negative.false) ∙ ap (λ (n : ℤ). signed_decimal (n *ℤ pos t)) number

use Rattle.std.proofs.Common.{arith}
use Rattle.std.specs.Prelude.{slice_index_or}
use Rattle.std.proofs.lemmas.List.Sums.{AllPass-from_list_all}
use Rattle.sv_words.specs.Digits.{is_digit}
use Rattle.sv_words.proofs.DigitLemmas.{ten_most, digit_at_most}
use Rattle.sv_words.proofs.digits.number_of.Goals as goal

pub overflow_mul-number : goal.overflow_mul-number
overflow_mul-number c = let most = ten_most c.loop-d.d-index 19 (omega (arith, c.requires.few, c.loop-d-test.true)) in omega (arith, most, c.loop-d.invariant.small)

pub overflow_add-number : goal.overflow_add-number
overflow_add-number c =
    let most = ten_most c.loop-d.d-index 19 (omega (arith, c.requires.few, c.loop-d-test.true)) in
    let each = AllPass-from_list_all is_digit c.args.digits.now c.requires.digits in
    let d = digit_at_most (slice_index_or c.args.digits.now c.loop-d.d-index 0) (each c.loop-d.d-index 0 c.loop-d-test.true) in
    omega (arith, most, c.loop-d.invariant.small, d)

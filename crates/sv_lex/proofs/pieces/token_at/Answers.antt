use Rattle.std.proofs.Common.{◌≡◌, ◌≤◌, List, length, ℕ, sym, ◌∙◌, arith}
use Rattle.sv_tree.specs.Longest.{longest}
use Rattle.sv_tree.specs.Lexing.{is_token}
use Rattle.sv_lex.proofs.Prefixes.{longest-le}
use Rattle.sv_lex.proofs.Chosen.{longest_is, chosen_is, number_passes, kind_of_nothing, number_of_nothing}
use Rattle.sv_lex.proofs.pieces.token_at.Goals as goal

pub returns-then-n-eq0-clause-length : goal.returns-then-n-eq0-clause-length
returns-then-n-eq0-clause-length c =
    sym c.if-n-eq0.true
    ∙ longest_is c.args.s.now _ _ _ _ _ _ _ _ _ _ _ _ _ c.name_length-name.ensures.value c.system_name_length-system.ensures.value c.number_length-number.ensures.value c.time_length-time.ensures.value
    c.one_step_length-step.ensures.value c.string_length-string.ensures.value c.sign_length-sign.ensures.value
    c.max.ensures c.max-2.ensures c.max-3.ensures c.max-4.ensures c.max-5.ensures c.max-n.ensures

pub returns-then-n-eq0-clause-kind : goal.returns-then-n-eq0-clause-kind
returns-then-n-eq0-clause-kind c = kind_of_nothing

pub returns-then-n-eq0-clause-number : goal.returns-then-n-eq0-clause-number
returns-then-n-eq0-clause-number c = number_of_nothing

within : (s : List ℕ) (n : ℕ) → n ≡ longest is_token s → n ≤ length s
within s n e = omega (arith, longest-le is_token s)

most : (c : goal.After-chosen) → c.max-n.result ≡ longest is_token c.args.s.now
most c =
    longest_is c.args.s.now _ _ _ _ _ _ _ _ _ _ _ _ _ c.name_length-name.ensures.value c.system_name_length-system.ensures.value c.number_length-number.ensures.value c.time_length-time.ensures.value
    c.one_step_length-step.ensures.value c.string_length-string.ensures.value c.sign_length-sign.ensures.value
    c.max.ensures c.max-2.ensures c.max-3.ensures c.max-4.ensures c.max-5.ensures c.max-n.ensures

pub returns-clause-length : goal.returns-clause-length
returns-clause-length c = most c

pub returns-clause-kind : goal.returns-clause-kind
returns-clause-kind c =
    chosen_is c.args.s.now c.max-n.result _ _ _ _ _ _ _ c.chosen.result c.name_length-name.ensures.value c.system_name_length-system.ensures.value c.number_length-number.ensures.value c.time_length-time.ensures.value
    c.one_step_length-step.ensures.value c.string_length-string.ensures.value (most c) c.if-n-eq0.false (within _ _ (most c)) c.chosen.ensures (omega arith)

pub returns-clause-number : goal.returns-clause-number
returns-clause-number c = number_passes c.args.s.now c.max-n.result c.number_length-number.result c.number_length-number.ensures.value (most c) c.if-n-eq0.false (within _ _ (most c))

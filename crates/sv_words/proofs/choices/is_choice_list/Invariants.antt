use Rattle.std.proofs.Common.{ℕ, ◌≡◌, ◌≤◌, ◌+◌, List, length}
use Rattle.std.specs.Prelude.{option_map}
use Rattle.sv_words.specs.Words.{choices_of, between_commas}
use Rattle.sv_words.specs.Parts.{parts_left, bytes_left}
use Rattle.sv_words.proofs.choices.is_choice_list.Given as goal

abbrev pub invariant-loop-left : goal.invariant-loop-left
invariant-loop-left l = record {
  reads : option_map (λ (ns : List ℕ). l.count + length ns) (choices_of (parts_left l.left)) ≡ option_map (λ (ns : List ℕ). length ns) (choices_of (between_commas l.list));
  few : l.count + bytes_left l.left ≤ length l.list + 1;
}

abbrev pub decreases-loop-left : goal.decreases-loop-left
decreases-loop-left l = bytes_left l.left

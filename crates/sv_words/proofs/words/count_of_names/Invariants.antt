use Rattle.std.proofs.Common.{ℕ, ◌≡◌, ◌+◌, List, drop}
use Rattle.std.specs.Prelude.{String, map, string_bytes}
use Rattle.std.specs.Global.{Global}
use Rattle.std.specs.List.{prefix_len}
use Rattle.sv_words.specs.Words.{is_name}
use Rattle.sv_words.proofs.words.count_of_names.Given as goal

-- how many names words begin with
abbrev names : List (String Global) → ℕ
names words = prefix_len is_name (map string_bytes words)

abbrev pub invariant-loop-word : goal.invariant-loop-word
invariant-loop-word l = record {
  count : l.count ≡ l.word-index;
  names : l.count + names (drop l.word-index l.words) ≡ names l.words;
}

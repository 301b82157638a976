use Rattle.std.proofs.Common.{◌≡◌, ◌<◌, ◌^◌, drop}
use Rattle.sv_words.specs.Digits.{number_behind}
use Rattle.sv_words.proofs.digits.number_of.Given as goal

abbrev pub invariant-loop-d : goal.invariant-loop-d
invariant-loop-d l = record {
  reads : number_behind l.number (drop l.d-index l.digits) ≡ number_behind 0 l.digits;
  small : l.number < 10 ^ l.d-index;
}

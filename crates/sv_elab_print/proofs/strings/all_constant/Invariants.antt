use Rattle.std.proofs.Common.{◌≡◌, drop}
use Rattle.sv_names.specs.Arguments.{all_constant}
use Rattle.sv_elab_print.proofs.strings.all_constant.Given as goal

abbrev pub invariant-loop-a : goal.invariant-loop-a
invariant-loop-a l = all_constant (drop l.a-index l.args) ≡ all_constant l.args

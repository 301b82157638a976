use Rattle.std.proofs.Common.{subst}
use Rattle.sv_names.specs.declared.operator.Operands.{Operands}
use Rattle.sv_names.specs.Operators as operators
use Rattle.sv_names.specs.Given.{Gives}
use Rattle.sv_elab_operator.proofs.operators.binary.Goals as goal

pub returns-in-Comparison : goal.returns-in-Comparison
returns-in-Comparison c ar x y hc hx hy =
    let P : Operands → Type 0 = λ k. Gives c.comparison.result (operators.binary_of ar k c.args.operator c.args.left c.args.right x y) in
    subst P c.in-Comparison.ensures (c.comparison.ensures ar x y hc hx hy)

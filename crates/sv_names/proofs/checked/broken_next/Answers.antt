use Rattle.std.proofs.Common.{ap, ◌∙◌}
use Rattle.sv_names.specs.declared.checked.Fault.{Fault}
use Rattle.sv_names.specs.declared.checked.Checked.TheVariants.{Broken}
use Rattle.sv_names.specs.Joined.{joined}
use Rattle.sv_names.proofs.Joined.{broken_joined}
use Rattle.sv_names.proofs.checked.broken_next.Goals as goal

pub returns : goal.returns
returns g c ys = ap (λ (f : Fault). joined (Broken f) ys) c.earlier_in.ensures ∙ broken_joined c.args.f c.args.next.now ys

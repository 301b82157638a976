use Rattle.std.proofs.Common.{sym, subst}
use Rattle.sv_fork.specs.Living.{HasLiving}
use Rattle.sv_fork.proofs.LivingLaws.{living_left}
use Rattle.sv_fork.proofs.living.Living.lose.Goals as goal

pub returns-then-self-len : goal.returns-then-self-len
returns-then-self-len c = λ h. living_left c.args.members.now _ _ c.drop_over.ensures (subst (HasLiving c.args.members.now) (sym c.self.view_is) h)

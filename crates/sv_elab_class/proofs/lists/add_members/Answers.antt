-- The declarations of one class.
use Rattle.sv_elab_class.specs.Heads.{head_in}
use Rattle.sv_elab_class.proofs.ListLaws.{keep_turn}
use Rattle.sv_elab_class.proofs.lists.add_members.Goals as goal

pub returns : goal.returns
returns c = λ ess hs before.
    keep_turn c.args.lists.now c.push.new.self c.in_ok-members.members ess (head_in c.args.head.now) hs before c.in_ok-push.ensures.ok
    c.in_ok-members.ensures

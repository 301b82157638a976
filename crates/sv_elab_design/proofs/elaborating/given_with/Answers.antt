-- What the items give stands behind nothing.
use Rattle.sv_elab_whole.proofs.GivenLaws.{all_given}
use Rattle.sv_elab_design.proofs.elaborating.given_with.Goals as goal

pub returns-in-Ok : goal.returns-in-Ok
returns-in-Ok c =
    let none = c.in_ok-so_far.ensures in
    let code = c.in-Ok.ensures in (
      code.0,
      code.1,
      all_given c.args.places c.in_ok-so_far.so_far c.add_given.new.so_far code.0 none.so_far none.classes none.subroutines none.clockings code.2,
    )

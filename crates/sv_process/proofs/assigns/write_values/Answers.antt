use Rattle.sv_process.proofs.AssignLemmas.{wrote_all}
use Rattle.sv_process.proofs.assigns.write_values.Goals as goal

pub returns : goal.returns
returns c =
    let d = c.args.design.now in
    wrote_all d c.go_on.new.frames c.go_on.new.out.items _ _ c.args.targets.now _ _ c.args.value _ c.requires c.in_ok-values.ensures (c.in_ok-write_all.ensures d)
    c.in_ok-go_on.ensures

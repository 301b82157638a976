use Rattle.std.proofs.Common.{◌∙◌}
use Rattle.sv_machine.proofs.EndedLaws.{descendants_make, descendants_may}
use Rattle.sv_machine.proofs.forks.end_descendants.Goals as goal

pub end_all-requires : goal.end_all-requires
end_all-requires c = record {
  may = descendants_may c.args.design.now c.args.machine.now c.args.process c.requires.running c.as_slice.result.now (c.as_slice.ensures.value ∙ c.in_ok-over.ensures) c.requires.at;
}

pub returns-clause-ok : goal.returns-clause-ok
returns-clause-ok c =
    descendants_make c.args.design.now c.args.machine.now c.args.process c.requires.running c.as_slice.result.now (c.as_slice.ensures.value ∙ c.in_ok-over.ensures) c.end_all.new.machine c.end_all.ensures.ends

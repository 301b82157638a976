use Rattle.sv_tree.specs.Codes.{toks}
use Rattle.sv_tree.specs.Depth.{most_depth}
use Rattle.sv_tree.specs.UnitView.{description}
use Rattle.sv_parse.specs.Outcome.{seen}
use Rattle.sv_parse_unit.proofs.Exact.{file_found, units_only, fault_only, fault_told}
use Rattle.sv_parse_unit.proofs.whole.parse.Goals as goal

pub returns-in-Ok : goal.returns-in-Ok
returns-in-Ok c = record {
  units = file_found most_depth (seen description c.in-Ok.descriptions) (toks c.args.tokens.now) (toks c.in-Ok.field-0-1.now) c.requires (rw c.whole.ensures at c.in-Ok.ensures);
  only = λ us r. units_only most_depth us (seen description c.in-Ok.descriptions) (toks c.args.tokens.now) (toks c.in-Ok.field-0-1.now) (rw c.whole.ensures at c.in-Ok.ensures) r;
  fault = tt;
}

pub returns-in-Err : goal.returns-in-Err
returns-in-Err c = record {
  units = tt;
  only = λ us r. fault_only most_depth us (toks c.args.tokens.now) c.in-Err.error c.fault_of.result (rw c.whole.ensures at c.in-Err.ensures) c.fault_of.ensures r;
  fault = fault_told most_depth (toks c.args.tokens.now) c.in-Err.error c.fault_of.result (rw c.whole.ensures at c.in-Err.ensures) c.fault_of.ensures;
}

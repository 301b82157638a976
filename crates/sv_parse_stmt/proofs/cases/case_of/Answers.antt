use Rattle.std.proofs.Common.{rules}
use Rattle.sv_tree.specs.declared.statement.Body.{the_lemmas}
use Rattle.sv_tree.specs.StmtView.{case_items_are}
use Rattle.sv_parse_stmt.proofs.cases.case_of.Goals as goal

pub returns : goal.returns
returns c = search (the_lemmas, case_items_are, rules)

use Rattle.std.proofs.Common.{rules}
use Rattle.sv_tree.specs.declared.statement.Body.{the_lemmas}
use Rattle.sv_tree.specs.StmtView.{stmts_are}
use Rattle.sv_parse_stmt.proofs.blocks.block_of.Goals as goal

pub returns : goal.returns
returns c = search (the_lemmas, stmts_are, rules)

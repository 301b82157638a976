use Rattle.std.proofs.Common.{◌≡◌, false, length, map}
use Rattle.sv_tree.specs.Codes.{toks}
use Rattle.sv_tree.specs.StmtGrammar.{Declared, block_items}
use Rattle.sv_tree.specs.StmtView.{decl}
use Rattle.sv_tree.specs.Grammar.{reads}
use Rattle.sv_parse_stmt.specs.Blocks.{items_on}
use Rattle.sv_parse_stmt.proofs.blocks.declarations.Given as goal

-- the declarations so far, and the items after them, give what all items give
abbrev pub invariant-decls : goal.invariant-decls
invariant-decls l = items_on l.budget false (map Declared (map decl l.list.items)) (toks l.rest) ≡ reads l.budget block_items (toks l.tokens)

abbrev pub decreases-decls : goal.decreases-decls
decreases-decls l = length l.rest

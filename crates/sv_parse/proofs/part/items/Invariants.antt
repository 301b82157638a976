use Rattle.std.proofs.Common.{◌≡◌, length, map}
use Rattle.sv_grammar.specs.Code.Code.{Rep}
use Rattle.sv_tree.specs.Codes.{toks}
use Rattle.sv_tree.specs.Grammar.{reads}
use Rattle.sv_parse.specs.Parts.{from}
use Rattle.sv_parse.proofs.part.items.Given as goal

-- the parts so far, read on, give what all give
abbrev pub invariant-items : goal.invariant-items
invariant-items g l = from g.P.Part.production l.budget (map g.P.Part.view l.list.items) (toks l.rest) ≡ reads l.budget (Rep g.P.Part.production) (toks l.tokens)

abbrev pub decreases-items : goal.decreases-items
decreases-items g l = length l.rest

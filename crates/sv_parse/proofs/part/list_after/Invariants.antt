use Rattle.std.proofs.Common.{◌≡◌, [], ◌∷◌, length, map}
use Rattle.sv_tree.specs.Codes.{toks}
use Rattle.sv_tree.specs.Forms as forms
use Rattle.sv_parse.specs.Parts.{from}
use Rattle.sv_parse.proofs.part.list_after.Given as goal

-- the parts so far, read on, give what all give
abbrev pub invariant-commas : goal.invariant-commas
invariant-commas g l = from (forms.comma g.P.Part.production) l.budget (map g.P.Part.view l.list.items) (toks l.rest) ≡ from (forms.comma g.P.Part.production) l.budget (g.P.Part.view l.fn.first ∷ []) (toks l.tokens)

abbrev pub decreases-commas : goal.decreases-commas
decreases-commas g l = length l.rest

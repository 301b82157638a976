use Rattle.sv_tree.specs.Codes.{toks}
use Rattle.sv_parse.proofs.PartLaws.{list_is}
use Rattle.sv_parse.proofs.part.list.Goals as goal

pub returns : goal.returns
returns g c = rw (list_is g.P.Part.production g.P.Part.first g.met.P.Part.is_known c.args.budget (toks c.args.tokens.now), c.in_ok-first.ensures) c.list_after.ensures

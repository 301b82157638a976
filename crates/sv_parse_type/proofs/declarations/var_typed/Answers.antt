use Rattle.std.proofs.Common.{rules}
use Rattle.sv_tree.specs.Codes.{toks}
use Rattle.sv_parse_type.proofs.DeclarationLaws.{with_var}
use Rattle.sv_parse_type.proofs.declarations.var_typed.Goals as goal

pub returns : goal.returns
returns c = rw (with_var c.args.budget c.args.life (toks c.args.tokens.now) (search rules), c.in_ok-rest.ensures) c.typed-2.ensures

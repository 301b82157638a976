use Rattle.std.proofs.Common.{arith}
use Rattle.std.proofs.lemmas.Grind.{common_steps}
use Rattle.sv_parse_unit.proofs.ClassLaws.{decl_automatic, decl_var, decl_typed}
use Rattle.sv_parse_unit.proofs.classes.ClassDeclsPart.read.Goals as goal

pub returns-in-Err : goal.returns-in-Err
returns-in-Err c = grind (arith, common_steps, decl_automatic, decl_var, decl_typed)

pub returns-in-Err-expect : goal.returns-in-Err-expect
returns-in-Err-expect c = grind (arith, common_steps, decl_automatic, decl_var, decl_typed)

pub returns : goal.returns
returns c = grind (arith, common_steps, decl_automatic, decl_var, decl_typed)

pub returns-then-is_next : goal.returns-then-is_next
returns-then-is_next c = grind (arith, common_steps, decl_automatic, decl_var, decl_typed)

pub returns-then-is_next-2 : goal.returns-then-is_next-2
returns-then-is_next-2 c = grind (arith, common_steps, decl_automatic, decl_var, decl_typed)

use Rattle.std.proofs.Common.{arith}
use Rattle.std.proofs.lemmas.Grind.{common_steps}
use Rattle.sv_parse_unit.proofs.ClassLaws.{class_virtual, class_plain}
use Rattle.sv_parse_unit.proofs.classes.class.Goals as goal

pub returns-in-Err : goal.returns-in-Err
returns-in-Err c = grind (arith, common_steps, class_virtual, class_plain)

pub returns-in-Err-expect : goal.returns-in-Err-expect
returns-in-Err-expect c = grind (arith, common_steps, class_virtual, class_plain)

pub returns-in-Err-expect-2 : goal.returns-in-Err-expect-2
returns-in-Err-expect-2 c = grind (arith, common_steps, class_virtual, class_plain)

pub returns : goal.returns
returns c = grind (arith, common_steps, class_virtual, class_plain)

pub returns-then-is_next : goal.returns-then-is_next
returns-then-is_next c = grind (arith, common_steps, class_virtual, class_plain)

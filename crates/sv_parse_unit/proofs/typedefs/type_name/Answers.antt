use Rattle.std.proofs.Common.{arith}
use Rattle.std.proofs.lemmas.Grind.{common_steps}
use Rattle.sv_parse_unit.proofs.TypedLaws.{typedef_class, typedef_type}
use Rattle.sv_parse_unit.proofs.typedefs.type_name.Goals as goal

pub returns-in-Err-clause-item : goal.returns-in-Err-clause-item
returns-in-Err-clause-item c = grind (arith, common_steps, typedef_class, typedef_type)

pub returns-in-Err-clause-class_item : goal.returns-in-Err-clause-class_item
returns-in-Err-clause-class_item c = grind (arith, common_steps, typedef_class, typedef_type)

pub returns-in-Err-name-clause-item : goal.returns-in-Err-name-clause-item
returns-in-Err-name-clause-item c = grind (arith, common_steps, typedef_class, typedef_type)

pub returns-in-Err-name-clause-class_item : goal.returns-in-Err-name-clause-class_item
returns-in-Err-name-clause-class_item c = grind (arith, common_steps, typedef_class, typedef_type)

pub returns-then-is_next-clause-item : goal.returns-then-is_next-clause-item
returns-then-is_next-clause-item c = grind (arith, common_steps, typedef_class, typedef_type)

pub returns-then-is_next-clause-class_item : goal.returns-then-is_next-clause-class_item
returns-then-is_next-clause-class_item c = grind (arith, common_steps, typedef_class, typedef_type)

pub returns-in-Err-written_type-clause-item : goal.returns-in-Err-written_type-clause-item
returns-in-Err-written_type-clause-item c = grind (arith, common_steps, typedef_class, typedef_type)

pub returns-in-Err-written_type-clause-class_item : goal.returns-in-Err-written_type-clause-class_item
returns-in-Err-written_type-clause-class_item c = grind (arith, common_steps, typedef_class, typedef_type)

pub returns-in-Err-name-2-clause-item : goal.returns-in-Err-name-2-clause-item
returns-in-Err-name-2-clause-item c = grind (arith, common_steps, typedef_class, typedef_type)

pub returns-in-Err-name-2-clause-class_item : goal.returns-in-Err-name-2-clause-class_item
returns-in-Err-name-2-clause-class_item c = grind (arith, common_steps, typedef_class, typedef_type)

pub returns-clause-item : goal.returns-clause-item
returns-clause-item c = grind (arith, common_steps, typedef_class, typedef_type)

pub returns-clause-class_item : goal.returns-clause-class_item
returns-clause-class_item c = grind (arith, common_steps, typedef_class, typedef_type)

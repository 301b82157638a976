use Rattle.std.proofs.Common.{◌+◌, ◌*◌}
use Rattle.sv_parse_type.proofs.types.+types.Given as goal

abbrev pub decreases-enum_type : goal.decreases-enum_type
decreases-enum_type l = 4 * l.budget

abbrev pub decreases-mailbox_type : goal.decreases-mailbox_type
decreases-mailbox_type l = 4 * l.budget

abbrev pub decreases-word_type : goal.decreases-word_type
decreases-word_type l = 4 * l.budget + 1

abbrev pub decreases-written_type : goal.decreases-written_type
decreases-written_type l = 4 * l.budget + 2

-- What is met on the walk, in the instance where it stands (IEEE 1800-2017, 23.3).
use Rattle.std.specs.Prelude.{List, Option, Some, None}
use Rattle.sv_tree.specs.Descriptions.{Description}
use Rattle.sv_names.specs.declared.checked.Checked.{Checked}
use Rattle.sv_names.specs.Blocks.{after_scopes}
use Rattle.sv_names.specs.Checked.{broken_at}
use Rattle.sv_names.specs.Instances.{Inst, Walked, Enter, Meet, Connect, Pass}
use Rattle.sv_names.specs.Items.{GivenParts, enter_parts, item_parts}
use Rattle.sv_names.specs.Named.{Around}
use Rattle.sv_elab_plain.specs.Parts.{connected}

-- the instance in which a step stands
abbrev pub inst_of : Walked → Option Inst
inst_of (Enter i) = Some i
inst_of (Meet i b item) = Some i
inst_of (Connect i c cs) = Some i
inst_of (Pass at) = None

-- what a step gives, where this is seen in its instance
abbrev pub step_given : List Description → Around → Walked → Checked GivenParts
step_given us ar (Enter i) = enter_parts ar i
step_given us ar (Meet i b item) = item_parts us (after_scopes b ar) i item
step_given us ar (Connect i c cs) = connected ar c cs
step_given us ar (Pass at) = broken_at 44 at

-- Where the value of an assignment stands: behind the hidden variables of what stands before it (IEEE 1800-2017, 10.4 and 13.4).
use Rattle.std.specs.Prelude.{◌+◌, Bool, List, [], Option}
use Rattle.sv_tree.specs.declared.expr.Root.TheVariants as root
use Rattle.sv_tree.specs.declared.word.Name.{Name}
use Rattle.sv_tree.specs.Expr as tree
use Rattle.sv_names.specs.declared.argument.Arg.{Arg}
use Rattle.sv_names.specs.declared.checked.Checked.{Checked}
use Rattle.sv_names.specs.declared.checked.Checked.TheVariants.{Good, Broken}
use Rattle.sv_names.specs.declared.typed.Typed.{Typed}
use Rattle.sv_names.specs.Assignments.{Amount, hidden_in_amount, hidden_before_value, outputs_of_new}
use Rattle.sv_names.specs.Checked.{both}
use Rattle.sv_names.specs.Expressions.{expr, actual_args}
use Rattle.sv_names.specs.Named.{Around, behind, hidden_in}
use Rattle.sv_names.specs.Targets.{Spot, hidden_of_spots, type_of_target}

-- behind a target and a delay
abbrev pub behind_parts : Around → List Spot → Option Amount → Around
behind_parts ar ss d = behind (hidden_of_spots ss + hidden_in_amount d) ar

-- behind both, where they break no rule
abbrev pub around_both : Around → Checked (List Spot × Option Amount) → Around
around_both ar (Good p) = behind_parts ar p.0 p.1
around_both ar (Broken f) = ar

-- where the value of a blocking assignment stands
abbrev pub value_around : Around → Checked (List Spot) → Checked (Option Amount) → Around
value_around ar t d = around_both ar (both t d)

-- the value of a blocking assignment
abbrev pub value_there : Around → Checked (List Spot) → Checked (Option Amount) → tree.Expr → Checked Typed
value_there ar t d e = expr (value_around ar t d) e

-- the reference of `new h`
abbrev pub named_there : Around → Checked (List Spot) → Checked (Option Amount) → Name → Checked Typed
named_there ar t d n = value_there ar t d (tree.Post (root.Plain n) tree.NoSuffix)

-- which arguments of `new` are taken as targets
abbrev pub outputs_both : Around → Checked (List Spot × Option Amount) → List Bool
outputs_both ar (Good p) = outputs_of_new (behind_parts ar p.0 p.1) (type_of_target p.0)
outputs_both ar (Broken f) = []

-- the arguments of `new`, behind both
abbrev pub args_both : Around → Checked (List Spot × Option Amount) → tree.Actuals → List Arg
args_both ar b a = actual_args (around_both ar b) (outputs_both ar b) a

-- the same of a blocking assignment
abbrev pub args_there : Around → Checked (List Spot) → Checked (Option Amount) → tree.Actuals → List Arg
args_there ar t d a = args_both ar (both t d) a

-- where the array that `new[n](old)` copies stands, behind the number of items
abbrev pub source_around : Around → Checked (List Spot × Option Amount) → Checked Typed → Around
source_around ar (Good p) n = behind (hidden_in n) (behind_parts ar p.0 p.1)
source_around ar (Broken f) n = ar

-- where the value of a nonblocking assignment stands
abbrev pub later_around : Around → Checked (List Spot) → Checked (Option Amount) → Around
later_around ar t d = behind (hidden_before_value t d) ar

-- the value of a nonblocking assignment
abbrev pub later_there : Around → Checked (List Spot) → Checked (Option Amount) → tree.Expr → Checked Typed
later_there ar t d e = expr (later_around ar t d) e

-- where the operand of `a op= e` stands
abbrev pub operand_around : Around → Checked (List Spot) → Around
operand_around ar (Good ss) = behind (hidden_of_spots ss) ar
operand_around ar (Broken f) = ar

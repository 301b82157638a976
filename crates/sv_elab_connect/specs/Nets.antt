-- Net declarations with a value.
use Rattle.sv_flat.specs.declared.process.ProcessKind.TheVariants.{Assign}
use Rattle.sv_tree.specs.declared.word.Name.{Name}
use Rattle.sv_tree.specs.declared.expr.Root.TheVariants as root
use Rattle.sv_tree.specs.Expr as tree
use Rattle.sv_names.specs.declared.checked.Checked.{Checked}
use Rattle.sv_names.specs.declared.typed.How.TheVariants.{Continuous}
use Rattle.sv_names.specs.Connections.{Made, continuous}
use Rattle.sv_names.specs.Expressions.{expr, target}
use Rattle.sv_names.specs.Named.{Around}

-- the process that gives a value to a net
abbrev pub net_process : Around → Name → tree.Expr → Checked Made
net_process ar n e =
    continuous ar n.at Assign (target Continuous ar (tree.Lval.Post (root.Plain n) tree.NoSuffix)) (tree.place_of e) (expr ar e)

-- The name that a root is, if it is a name alone (own).
use Rattle.std.specs.Prelude.{Result, Ok, Err}
use Rattle.sv_tree.specs.declared.word.Name.{Name}
use Rattle.sv_tree.specs.declared.expr.Root.{Root}
use Rattle.sv_tree.specs.declared.expr.Root.TheVariants as root

-- the name, or else the root
abbrev pub alone : Root → Result Name Root
alone (root.This at) = Err (root.This at)
alone (root.Super at name) = Err (root.Super at name)
alone (root.Plain name) = Ok name
alone (root.Scoped scope name) = Err (root.Scoped scope name)

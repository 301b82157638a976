-- What items of units declare.
use Rattle.std.specs.Prelude.{List, map}
use Rattle.sv_tree.specs.Units.{NetDecl, NetItem, Instance}
use Rattle.sv_names.specs.Entries as entries

-- nets of one declaration
abbrev pub net_names : NetDecl → List NetItem → List entries.Entry
net_names n xs = map (λ x. entries.entry x.name (entries.A_net n.sign n.range)) xs

-- instances of one unit
abbrev pub instance_names : List Instance → List entries.Entry
instance_names is = map (λ i. entries.entry i.name entries.Another) is

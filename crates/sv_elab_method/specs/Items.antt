-- The items of an enum, one declaration after another (IEEE 1800-2017, 6.19).
use Rattle.std.specs.Prelude.{List, [], map, if◌then◌else◌}
use Rattle.sv_value.specs.declared.place.Place.{Place}
use Rattle.sv_flat.specs.declared.expr.NamedItem.{NamedItem}
use Rattle.sv_names.specs.declared.checked.Checked.{Checked}
use Rattle.sv_names.specs.declared.checked.Checked.TheVariants.{Good}
use Rattle.sv_names.specs.declared.named.Known.{Known}
use Rattle.sv_names.specs.declared.scope.Scope.{Scope}
use Rattle.sv_names.specs.Calls.{is_item_at, item_named, items_known, items_in_scopes}
use Rattle.sv_names.specs.Checked.{given}
use Rattle.sv_names.specs.Named.{Around}
use Rattle.sv_names.specs.Types.{Path, same_path}

-- the item that a declaration is
abbrev pub item_of : Known → Checked (List NamedItem)
item_of k = given (item_named k.name) k.value

-- the same, where it is one of the enum
abbrev pub one_known : Place → Known → Checked (List NamedItem)
one_known at k = if is_item_at at k.kind then item_of k else Good []

-- the items in a scope, where it is the enum's own
abbrev pub one_scope : Path → Place → Scope → Checked (List NamedItem)
one_scope p at s = if same_path p s.path then items_known at s.known else Good []

-- items, or else others
abbrev pub or_items : Checked (List NamedItem) → Checked (List NamedItem) → Checked (List NamedItem)
or_items (Good []) bs = bs
or_items as' bs = as'

-- the items of an enum: those of the scopes around, or else those of a class
abbrev pub items_of : Around → Path → Place → Checked (List NamedItem)
items_of ar p at = or_items (items_in_scopes p at ar.scopes) (items_in_scopes p at (map (λ k. k.scope) ar.classes))

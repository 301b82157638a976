use Rattle.std.proofs.Common.{◌≡◌, ◌++◌, map}
use Rattle.std.specs.Prelude.{filter}
use Rattle.sv_names.specs.Items.{is_no_item}
use Rattle.sv_elab_scope.specs.Views.{entry_in}
use Rattle.sv_elab_plain.proofs.files.without_items.Given as goal

abbrev pub invariant-loop-entry : goal.invariant-loop-entry
invariant-loop-entry l =
    map entry_in l.kept ++ filter is_no_item (map entry_in l.entry-iterator.rest.items) ≡ filter is_no_item (map entry_in l.fn.entries)

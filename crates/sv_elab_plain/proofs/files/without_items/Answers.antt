use Rattle.std.proofs.Common.{rules, ◌≡◌, List, [], ◌∷◌, ◌++◌, map, sym, ap, ◌∙◌, append-nil, append_assoc}
use Rattle.std.specs.Prelude.{filter}
use Rattle.std.proofs.lemmas.List.{nil_from_length}
use Rattle.sv_names.specs.Entries.{Entry as entry}
use Rattle.sv_names.specs.Items.{is_no_item}
use Rattle.sv_elab_scope.specs.declared.declared.Entry.{Entry}
use Rattle.sv_elab_scope.specs.Views.{entry_in}
use Rattle.sv_elab_plain.specs.Files.{kept_of}
use Rattle.sv_elab_plain.proofs.FileLaws.{kept_turn}
use Rattle.sv_elab_plain.proofs.files.without_items.Goals as goal

pub loop-entry-preserved : goal.loop-entry-preserved
loop-entry-preserved c =
    let all = c.loop-entry.entry-iterator.rest.items in
    let rest = c.next.new.self.rest.items in
    let first : all ≡ c.in-Some.entry ∷ rest = search rules in
    let more = filter is_no_item (map entry_in rest) in
    ap (λ (es : List entry). es ++ more) c.in_ok-keep.ensures
    ∙ append_assoc (map entry_in c.loop-entry.kept) (kept_of (entry_in c.in-Some.entry)) more
    ∙ ap (λ (es : List entry). map entry_in c.loop-entry.kept ++ es) (kept_turn (entry_in c.in-Some.entry) (map entry_in rest))
    ∙ sym (ap (λ (es : List Entry). map entry_in c.loop-entry.kept ++ filter is_no_item (map entry_in es)) first)
    ∙ c.loop-entry.invariant

pub returns : goal.returns
returns c =
    let nothing : c.loop-entry.entry-iterator.rest.items ≡ [] =
    nil_from_length c.loop-entry.entry-iterator.rest.items (sym c.loop-entry.entry-iterator.rest.ok.0 ∙ c.in-None.ensures.steps.0) in
    sym (append-nil (map entry_in c.loop-entry.kept))
    ∙ sym (ap (λ (es : List Entry). map entry_in c.loop-entry.kept ++ filter is_no_item (map entry_in es)) nothing)
    ∙ c.loop-entry.invariant

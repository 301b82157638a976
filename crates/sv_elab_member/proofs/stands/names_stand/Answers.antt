-- The names are those that the class declares.
use Rattle.std.proofs.Common.{◌≡◌, ◌∙◌, List, [], map, ap, subst}
use Rattle.sv_tree.specs.UnitView.{class}
use Rattle.sv_names.specs.declared.checked.Checked.{Checked}
use Rattle.sv_names.specs.declared.named.Known.{Known}
use Rattle.sv_names.specs.Classes.{announcements_stand}
use Rattle.sv_names.specs.Entries.{Entry, class_entries, twice}
use Rattle.sv_names.specs.Given.{Gives}
use Rattle.sv_names.specs.Scopes.{known_stand}
use Rattle.sv_names.specs.Types.{Path}
use Rattle.sv_elab_scope.specs.Views.{entry_in}
use Rattle.sv_elab_member.proofs.stands.names_stand.Goals as goal

pub returns : goal.returns
returns c =
    let k = c.args.class.now in
    let o = class c.args.of.now in
    let es = class_entries k.path o in
    let names : map entry_in c.as_slice-names.result.now ≡ es =
    ap (map entry_in) c.as_slice-names.ensures ∙ c.in_ok-names.ensures ∙ ap (λ (p : Path). class_entries p o) c.as_slice-2.ensures in
    let known = subst (λ (ks : List Known). Gives c.known_stand-known.result (known_stand ks)) c.as_slice.ensures c.known_stand-known.ensures in
    let once =
    subst (λ (x : Checked (Unit {0})). Gives c.answer.result x) (c.in_ok-differ.ensures ∙ ap (λ (l : List Entry). twice (λ e. 5) [] l) names) c.answer.ensures in
    let told =
    subst (λ (x : Checked (Unit {0})). Gives c.answer-2.result x) (c.announcements_stand.ensures ∙ ap announcements_stand names) c.answer-2.ensures in
    c.where_also.ensures _ _ (c.where_also-once.ensures _ _ known once) told

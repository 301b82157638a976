-- A clocking block stands behind the others.
use Rattle.std.proofs.Common.{◌≡◌, ◌∙◌, ◌++◌, ◌∷◌, [], List, sym, ap, subst}
use Rattle.sv_flat.specs.declared.clocking.Clocking.{Clocking}
use Rattle.sv_tree.specs.UnitView.{clocking}
use Rattle.sv_names.specs.declared.checked.Checked.TheVariants.{Good}
use Rattle.sv_names.specs.Checked.{given}
use Rattle.sv_names.specs.Clockings.{MadeClocking, clocking_of}
use Rattle.sv_names.specs.Items.{nothing}
use Rattle.sv_names.specs.Types.{Path}
use Rattle.sv_names.specs.Views.{around_in}
use Rattle.sv_elab_parts.specs.Adding.{Adds}
use Rattle.sv_elab_item.proofs.GivenLaws.{clocking_added, clocking_path}
use Rattle.sv_elab_item.proofs.items.add_clocking.Goals as goal

pub returns-in_ok-push-in-Ok-2 : goal.returns-in_ok-push-in-Ok-2
returns-in_ok-push-in-Ok-2 c =
    let x = c.args.so_far.now in
    let ar = around_in c.args.around.now in
    let b = clocking c.args.of.now in
    let p : Path = c.args.inst.now.path ++ b.name.text ∷ [] in
    let os' = c.clocking_of.new.objects in
    let ds' = c.clocking_of.new.before in
    let code = c.in-Ok.ensures in
    let m = code.0 in
    let path : c.in_ok-path.path ≡ p = c.in_ok-path.ensures ∙ ap (λ (q : Path). q ++ b.name.text ∷ []) c.as_slice.ensures in
    let good : clocking_of ar p b ≡ Good m = sym (ap (λ (q : Path). clocking_of ar q b) (c.as_slice-2.ensures ∙ path)) ∙ code.1 in
    let part = record nothing { clockings = m ∷ [] } in (
      part,
      ap (given (λ (k : MadeClocking). record nothing { clockings = k ∷ [] })) good,
      subst (λ (ks : List Clocking). Adds x (record x { samples = os'; drives = ds'; clockings = ks; clocking_paths = c.push-in-Ok.new.self }) part)
          (sym c.in_ok-push-in-Ok.ensures.ok)
          (subst (λ (ps : List Path). Adds x (record x { samples = os'; drives = ds'; clockings = x.clockings ++ c.in-Ok.block ∷ []; clocking_paths = ps }) part)
          (sym c.in_ok-push-in-Ok-2.ensures.ok)
          (clocking_added x m c.in_ok-path.path c.in-Ok.block ds' os' (path ∙ sym (clocking_path ar p b m good)) code.2)),
    )

-- The rules on the names of files, one after another.
use Rattle.std.proofs.Common.{[], map, refl, subst}
use Rattle.sv_tree.specs.UnitView.{description}
use Rattle.sv_names.specs.declared.checked.Checked.{Checked}
use Rattle.sv_names.specs.declared.checked.Checked.TheVariants.{Good}
use Rattle.sv_names.specs.Checked.{◌where_also◌}
use Rattle.sv_names.specs.Classes.{announcements_stand}
use Rattle.sv_names.specs.Entries.{twice}
use Rattle.sv_names.specs.Given.{Gives}
use Rattle.sv_names.specs.Instances.{file_entries}
use Rattle.sv_names.specs.Items.{GivenParts, nothing}
use Rattle.sv_names.specs.Scopes.{known_stand}
use Rattle.sv_elab_parts.specs.Adding.{Adding}
use Rattle.sv_elab_scope.specs.Rows.{group_in}
use Rattle.sv_elab_plain.specs.Files.{bases_in, files_stand, units_differ}
use Rattle.sv_elab_plain.proofs.CommonLaws.{nothing_added}
use Rattle.sv_elab_plain.proofs.FileLaws.{files_guarded}
use Rattle.sv_elab_plain.proofs.files.add_file_scope.Goals as goal

pub returns : goal.returns
returns c =
    let x = c.args.so_far.now in
    let us = map description c.args.units.now in
    let es = file_entries us in
    let known = known_stand (group_in c.args.group.now).scope.known in
    subst (λ (z : Checked GivenParts). Adding x x c.guarded_adding.result z)
    (files_guarded (Good nothing) known (units_differ us) (twice (λ e. 5) [] es) (announcements_stand es) (bases_in es us))
    (c.guarded_adding.ensures x x (Good nothing where_also known) (files_stand us)
    (c.guarded_adding-guarded.ensures x x (Good nothing) known (nothing, refl, nothing_added x) (subst (λ ks. Gives c.known_stand-known.result (known_stand ks)) c.as_slice.ensures c.known_stand-known.ensures))
    c.files_stand.ensures)

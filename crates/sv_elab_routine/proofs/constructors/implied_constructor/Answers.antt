-- The scope knows the object alone.
use Rattle.std.proofs.Common.{◌∙◌, map, ap, subst}
use Rattle.sv_flat.specs.declared.class.Routine.{Routine}
use Rattle.sv_tree.specs.UnitView.{class_item}
use Rattle.sv_names.specs.declared.checked.Checked.{Checked}
use Rattle.sv_names.specs.declared.scope.Scope.{Scope}
use Rattle.sv_names.specs.Code.{Numbered}
use Rattle.sv_names.specs.Emits.{Emits}
use Rattle.sv_names.specs.Subroutines.{constructor_path, this_scope}
use Rattle.sv_names.specs.Types.{Path}
use Rattle.sv_names.specs.Views.{around_in}
use Rattle.sv_elab_routine.specs.Made.{implied_within}
use Rattle.sv_elab_routine.proofs.MadeLaws.{implied_is}
use Rattle.sv_elab_routine.proofs.constructors.implied_constructor.Goals as goal

pub returns : goal.returns
returns c = λ rs os.
    let ar = around_in c.args.around.now in
    let k = c.args.class.now in
    let items = map class_item c.args.items.now in
    let scope = c.in_ok-scope.ensures ∙ ap (λ (p : Path). this_scope (constructor_path p) p k.name.at) c.as_slice.ensures in
    subst (λ (x : Checked (Numbered Routine)). Emits rs rs os os c.implied_within.result x)
    (ap (λ (s : Scope). implied_within ar k items s) scope ∙ implied_is ar k items) (c.implied_within.ensures rs os)

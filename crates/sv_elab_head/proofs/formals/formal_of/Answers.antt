-- The parts of an argument.
use Rattle.std.proofs.Common.{◌∙◌, ap, option_map}
use Rattle.sv_tree.specs.View.{expr}
use Rattle.sv_names.specs.declared.checked.Checked.{Checked}
use Rattle.sv_names.specs.declared.ty.Ty.{Ty}
use Rattle.sv_names.specs.Scopes.{default_of}
use Rattle.sv_names.specs.Views.{around_in}
use Rattle.sv_elab_head.proofs.formals.formal_of.Goals as goal

pub returns : goal.returns
returns c =
    let default = c.in_ok-default.ensures
    ∙ ap (λ (t : Checked Ty). option_map (default_of (around_in c.args.around.now) t) (option_map expr c.args.one.now.default)) c.in_ok-ty.ensures in
    λ i. record {
      name = c.in_ok-name.ensures i;
      direction = c.args.direction;
      ty = c.in_ok-ty.ensures i;
      default = default i;
    }

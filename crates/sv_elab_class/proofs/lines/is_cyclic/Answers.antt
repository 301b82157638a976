-- There are as many bases at most as there are classes.
use Rattle.std.proofs.Common.{◌+◌, ◌∙◌, map, sym}
use Rattle.sv_names.specs.Groups.{is_met}
use Rattle.sv_elab_class.specs.Heads.{head_in}
use Rattle.sv_elab_class.proofs.LineLaws.{as_many}
use Rattle.sv_elab_class.proofs.lines.is_cyclic.Goals as goal

pub returns : goal.returns
returns c =
    c.is_met.ensures
    ∙ (λ i. is_met (sym (as_many c.args.heads.now) i + 1) (map head_in c.args.heads.now) (c.as_slice.ensures i) (c.path_in.ensures i))

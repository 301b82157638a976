use Rattle.std.proofs.Common.{subst, sym, ◌∙◌}
use Rattle.sv_names.specs.declared.checked.Checked.{Checked}
use Rattle.sv_names.specs.declared.typed.Typed.{Typed}
use Rattle.sv_names.specs.Given.{Gives}
use Rattle.sv_elab_select.proofs.Judged.{vector_part}
use Rattle.sv_elab_select.proofs.selects.part_select_of.Goals as goal

pub returns-else-is_array : goal.returns-else-is_array
returns-else-is_array c x y hx hy =
    subst (λ (z : Checked Typed). Gives c.part_of.result z)
    (vector_part c.args.word c.args.at c.args.whole c.args.left c.args.right c.args.a x y (sym c.is_array.ensures ∙ c.if-is_array.false))
    (c.part_of.ensures x y hx hy)

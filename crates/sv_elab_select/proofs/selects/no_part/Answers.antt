use Rattle.std.proofs.Common.{ap}
use Rattle.sv_names.specs.declared.checked.Checked.{Checked}
use Rattle.sv_names.specs.declared.checked.Checked.TheVariants.{Good}
use Rattle.sv_names.specs.declared.typed.Typed.{Typed}
use Rattle.sv_names.specs.Checked.{◌▷◌, both, broken_at}
use Rattle.sv_elab_select.proofs.Judged.{fails_then}
use Rattle.sv_elab_select.proofs.selects.no_part.Goals as goal

pub returns-in-Ok : goal.returns-in-Ok
returns-in-Ok c x y hx hy =
    ap (λ (z : Checked (Typed × (Typed × Typed))). z ▷ (λ p. Good p.0))
    (c.in-Ok.ensures (broken_at 14 c.args.at) (both x y) c.no_bits.ensures (c.both.ensures x y hx hy))

pub returns : goal.returns
returns c x y hx hy =
    fails_then c.in-Err.e (both (broken_at {A = Typed} 14 c.args.at) (both x y)) (λ p. Good p.0)
    (c.in-Err.ensures (broken_at 14 c.args.at) (both x y) c.no_bits.ensures (c.both.ensures x y hx hy))

use Rattle.std.proofs.Common.{◌-◌, length, get_or, take, drop, subst}
use Rattle.sv_value.specs.declared.place.Place.{Place}
use Rattle.sv_names.specs.declared.checked.Checked.{Checked}
use Rattle.sv_names.specs.Checked.{broken_at, all}
use Rattle.sv_names.specs.Named.{nowhere_yet}
use Rattle.sv_names.specs.Given.{Gives}
use Rattle.sv_elab_select.proofs.Targeted.{all_first}
use Rattle.sv_elab_select.proofs.targets.+none_moves.Goals as goal

pub returns-in-len1-up : goal.returns-in-len1-up
returns-in-len1-up t c =
    let f : Place → Checked (Unit {0}) = λ p. broken_at 11 p in
    let places = c.args.places.now in
    subst (λ (x : Checked (Unit {0})). Gives c.guarded.result x) (all_first f places nowhere_yet c.in-len1-up.len_at_least)
    (c.guarded.ensures (f (get_or places 0 nowhere_yet)) (all f (take (length places - 1) (drop 1 places))) c.moves.ensures c.none_moves.ensures)

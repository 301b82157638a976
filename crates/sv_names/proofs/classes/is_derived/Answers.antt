use Rattle.std.proofs.Common.{◌≡◌, length, map}
use Rattle.std.proofs.lemmas.List.{length-map}
use Rattle.sv_names.proofs.ClassLines.{derived_first}
use Rattle.sv_names.proofs.classes.is_derived.Goals as goal

pub loop-left-init : goal.loop-left-init
loop-left-init c =
    let same : length c.args.classes.now ≡ length (map (λ k. k.now) c.args.classes.now) = simp length-map in
    derived_first _ _ _ _ _ same c.class_in-next.ensures

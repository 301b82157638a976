use Rattle.std.proofs.Common.{List, subst}
use Rattle.std.specs.Prelude.{OnOk}
use Rattle.sv_flat.specs.Expr.{Expr}
use Rattle.sv_elab_watch.specs.Reading.{Added}
use Rattle.sv_elab_watch.proofs.OutsideLaws.{array_inside, all_outside}
use Rattle.sv_elab_watch.proofs.arrays.add_array_outside.Goals as goal

pub returns-in-None : goal.returns-in-None
returns-in-None c =
    array_inside c.args.depth c.args.up c.args.place c.args.bounds c.args.ty c.args.list.now c.in-None.ensures

pub returns-in-Some : goal.returns-in-Some
returns-in-Some c =
    subst (λ (es : List Expr). OnOk c.add_array.result (Added c.args.list.now c.add_array.new.list es))
    (all_outside c.args.depth c.args.up c.args.place c.args.bounds c.args.ty c.in-Some.up c.in-Some.ensures) c.add_array.ensures

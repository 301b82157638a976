use mir.Syntax.{w128}
use mir.Val.{to_z, of_z}
use Rattle.std.proofs.Math.Facts.{to_z-of_z}
use Rattle.sv_elab_select.proofs.Judged.{ends_first, ends_near, ends_whole}
use Rattle.sv_elab_select.proofs.bits.fixed_part.Goals as goal

pub part_between-requires : goal.part_between-requires
part_between-requires c =
    ends_near c.args.at c.args.whole c.args.bounds (to_z w128 (of_z w128 c.args.l)) (to_z w128 (of_z w128 c.args.r)) c.in-Ok.ensures

pub returns-in-Err : goal.returns-in-Err
returns-in-Err c =
    ends_first c.args.at c.args.whole c.args.place c.args.bounds c.args.a c.args.l c.args.r _ _ (to_z-of_z c.ranges.l) (to_z-of_z c.ranges.r)
    c.in-Err.e c.in-Err.ensures

pub returns-in-Ok : goal.returns-in-Ok
returns-in-Ok c =
    ends_whole c.args.at c.args.whole c.args.place c.args.bounds c.args.a c.args.l c.args.r _ _ (to_z-of_z c.ranges.l) (to_z-of_z c.ranges.r)
    c.part_between.result c.in-Ok.ensures c.part_between.ensures

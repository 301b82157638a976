use Rattle.std.proofs.Common.{rules}
use Rattle.std.specs.Prelude.{nat_lt}
use Rattle.std.proofs.lemmas.List.Sorted.{IsPartitionPoint-from_clause}
use Rattle.sv_sense.proofs.WatcherLaws.{parted, place_is}
use Rattle.sv_sense.proofs.watchers.place_of.Goals as goal

pub returns-clause-value : goal.returns-clause-value
returns-clause-value c =
    let p = c.args.process in
    let ps = c.args.numbers.now in
    let point = IsPartitionPoint-from_clause (λ q. nat_lt q.0 p.0) ps _ c.partition_point.ensures.partitioned (parted p ps c.requires) (λ a r q k. search rules) in
    place_is p ps c.partition_point.result c.partition_point.ensures.bound point

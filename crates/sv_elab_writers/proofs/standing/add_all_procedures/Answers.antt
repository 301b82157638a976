use Rattle.std.proofs.Common.{◌∷◌, ◌++◌, ◌∙◌, map, Bor, length, sym, ap}
use Rattle.std.specs.Prelude.{flat_map}
use Rattle.std.specs.List.{between}
use Rattle.std.proofs.lemmas.Slice.{first_rest}
use Rattle.sv_names.specs.declared.around.ClassInfo.{ClassInfo}
use Rattle.sv_elab_writers.specs.Processes.{process_writes}
use Rattle.sv_elab_writers.specs.Views.{source_in, row_in, write_in}
use Rattle.sv_elab_writers.proofs.WrittenLaws.{turn_written}
use Rattle.sv_elab_writers.proofs.standing.add_all_procedures.Goals as goal

pub loop-left-preserved : goal.loop-left-preserved
loop-left-preserved c =
    let rest = between 1 (length c.loop-left.left.now) c.loop-left.left.now in
    let all = first_rest c.loop-left.left.now c.one-item.result c.in-len1-up.len_at_least ∙ ap (λ p. p ∷ rest) (sym c.one-item.is) in
    let writes = process_writes (map (λ (k : Bor ClassInfo). k.now) c.args.classes.now) (map row_in c.args.table.now) in
    turn_written c.loop-left.writes c.add_procedure_writes.new.writes (writes (source_in c.one-item.result)) (flat_map writes (map source_in rest))
    c.in_ok-add_procedure_writes.ensures
    ∙ ap (λ ss. map write_in c.loop-left.writes ++ flat_map writes (map source_in ss)) (sym all)
    ∙ c.loop-left.invariant

use Rattle.std.proofs.Common.{◌∙◌, ◌∷◌, length, sym, ap}
use Rattle.std.specs.List.{between}
use Rattle.std.proofs.lemmas.Slice.{first_rest}
use Rattle.sv_tree.specs.View.{suffix_list}
use Rattle.sv_names.specs.Writers as writers
use Rattle.sv_elab_touch.proofs.QuietLaws.{quiet_first}
use Rattle.sv_elab_touch.proofs.quiet.+are_numbers.Goals as goal

pub returns-then-by_number : goal.returns-then-by_number
returns-then-by_number t c = λ ar pe th are is.
    let ss = c.args.suffixes.now in
    let s = c.suffix-item.result in
    let rest = between 1 (length ss) ss in
    let all = first_rest ss s c.in-len1-up.len_at_least ∙ ap (λ x. x ∷ rest) (sym c.suffix-item.is) in
    ap (λ xs. writers.suffix_touches ar pe th (suffix_list xs)) all
    ∙ quiet_first ar pe th s (suffix_list rest) (c.by_number.ensures.nothing ar th (suffix_list rest) c.if-by_number.true is)
    (c.are_numbers.ensures ar pe _ are (c.by_number.ensures.value ar pe th (suffix_list rest) c.if-by_number.true))

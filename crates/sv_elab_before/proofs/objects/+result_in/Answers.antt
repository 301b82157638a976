-- The result stands behind the first declaration.
use Rattle.std.proofs.Common.{◌∷◌, ◌∙◌, length, option_map, sym, ap}
use Rattle.std.specs.List.{between}
use Rattle.std.proofs.lemmas.Slice.{first_rest}
use Rattle.sv_names.specs.Statements.{result_variable}
use Rattle.sv_elab_before.specs.Objects.{if_static}
use Rattle.sv_elab_before.proofs.ObjectLaws.{result_behind}
use Rattle.sv_elab_before.proofs.objects.+result_in.Goals as goal

pub returns-in-None : goal.returns-in-None
returns-in-None t c =
    let list = c.args.known.now in
    let rest = between 1 (length list) list in
    let all = first_rest list c.first-item.result c.in-len1-up.len_at_least ∙ ap (λ k. k ∷ rest) (sym c.first-item.is) in
    result_behind c.first-item.result rest (option_map (λ v. v.now) c.result_in.result) c.in-None.ensures c.result_in.ensures
    ∙ ap (λ ks. if_static (result_variable 0 0 ks)) (sym all)

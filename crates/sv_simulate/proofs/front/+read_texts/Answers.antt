use Rattle.std.proofs.Common.{◌≡◌, ◌-◌, List, ◌∷◌, ℕ, length, take, drop, sym, ap, ◌∙◌}
use Rattle.sv_simulate.specs.Source.{contents}
use Rattle.sv_simulate.proofs.SourceLemmas.{first_and_others, more_parsed, on_ok}
use Rattle.sv_simulate.proofs.front.+read_texts.Goals as goal

pub returns-in_ok-read_text-in-len1-up-clause-units : goal.returns-in_ok-read_text-in-len1-up-clause-units
returns-in_ok-read_text-in-len1-up-clause-units t c =
    let texts = c.args.texts.now in
    let others = contents (take (length texts - 1) (drop 1 texts)) in
    let parts : contents texts ≡ c.deref.result.now ∷ others =
    first_and_others texts c.text-item.result c.in-len1-up.len_at_least c.text-item.is ∙ ap (λ (text : List ℕ). text ∷ others) (sym c.deref.ensures.value) in
    on_ok c.read_texts.result _ _
    (more_parsed c.args.file (contents texts) others c.deref.result.now _ _ _ parts c.in_ok-read_text-in-len1-up.ensures.units) c.read_texts.ensures.units

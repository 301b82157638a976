use Rattle.std.proofs.Common.{◌∙◌, ◌∷◌, ◌++◌, [], cond, sym, ap}
use Rattle.sv_fork.specs.Living.{Living}
use Rattle.sv_fork.proofs.LivingLaws.{list_more}
use Rattle.sv_fork.proofs.living.Living.add.Goals as goal

pub returns : goal.returns
returns c = λ g.
    (let ps = c.self.inside.listed.items in
    let now : Living = record { listed = ps; complete = c.self.inside.complete } in
    list_more now c.args.process c.is_ok.result _ (c.push.ensures.items ∙ ap (λ b. cond b (ps ++ c.args.process ∷ []) ps) (sym c.is_ok.ensures.value)) g
    ∙ ap (λ (l : Living). record l { listed = l.listed ++ c.args.process ∷ [] }) c.self.view_is)

use Rattle.std.proofs.Common.{◌≡◌, sym, subst, ◌∙◌}
use Rattle.std.specs.Prelude.{IfOk}
use Rattle.sv_flat.specs.Expr as flat
use Rattle.sv_elab_print.proofs.TextLaws.{joined_last}
use Rattle.sv_elab_print.proofs.strings.joined_texts.Goals as goal

pub returns-in-Some-clause-ok : goal.returns-in-Some-clause-ok
returns-in-Some-clause-ok c =
    subst (λ (w : flat.Expr). IfOk c.texts_before.result (λ t. t ≡ w))
    (joined_last c.args.texts c.pop.new.self.items c.in-Some.last (sym c.into_vec-texts.ensures ∙ c.in-Some.ensures.items)) c.texts_before.ensures.ok

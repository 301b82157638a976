use Rattle.std.proofs.Common.{ℕ, ◌*◌, false, ap, sym, ◌∙◌}
use Rattle.sv_flat.specs.declared.context.Context.{Context}
use Rattle.sv_flat.specs.declared.expr.ExprForm.{ExprForm}
use Rattle.sv_flat.specs.Contexts.{kept_width, own_context}
use Rattle.sv_flat.specs.Eval.{width_of}
use Rattle.sv_flat.specs.ExprView.{of_form}
use Rattle.sv_flat.proofs.Widths.{repeat_kept}
use Rattle.sv_flat.proofs.context.Context.of_form.Goals as goal

pub returns-in-Repeat : goal.returns-in-Repeat
returns-in-Repeat c =
    let n = c.in-Repeat.count in
    c.replicated.ensures
    ∙ ap (λ (w : ℕ). record { width = w; signed = false })
    (ap (λ (k : Context). kept_width (n * k.width)) c.own-in-Repeat.ensures ∙ repeat_kept n (width_of c.in-Repeat.part))
    ∙ sym (ap (λ (f : ExprForm). own_context (of_form f)) c.in-Repeat.is)

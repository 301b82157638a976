-- What an expression has by itself, where its width is kept whole.
use Rattle.std.proofs.Common.{ℕ, ◌≡◌, ◌<◌, ap, subst, sym, arith}
use Rattle.std.specs.Prelude.{◌-◌, ◌^◌}
use Rattle.sv_flat.specs.Contexts.{kept_width, own_context}
use Rattle.sv_flat.specs.Eval.{width_of, is_signed}
use Rattle.sv_flat.specs.Expr.{Expr}
use Rattle.sv_flat.specs.declared.context.Context.{Context}

-- a width below the greatest one is kept whole
kept_whole : (w : ℕ) → kept_width w < 2 ^ 32 - 1 → kept_width w ≡ w
kept_whole w h = omega (arith, h)

-- the context that is kept is the one that the expression has
pub own_kept : (e : Expr) (c : Context) → c ≡ own_context e → c.width < 2 ^ 32 - 1 → c ≡ record { width = width_of e; signed = is_signed e }
own_kept e c h w = subst (λ (k : Context). k.width < 2 ^ 32 - 1 → k ≡ record { width = width_of e; signed = is_signed e }) (sym h)
    (λ (n : kept_width (width_of e) < 2 ^ 32 - 1). ap (λ (m : ℕ). record { width = m; signed = is_signed e }) (kept_whole (width_of e) n)) w

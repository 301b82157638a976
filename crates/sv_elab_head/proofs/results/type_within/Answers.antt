-- The scope is the nearest one.
use Rattle.std.proofs.Common.{rules, ◌≡◌, List, ◌∷◌, map, subst}
use Rattle.sv_tree.specs.StmtView.{implied as implied_in}
use Rattle.sv_names.specs.declared.scope.Scope.{Scope}
use Rattle.sv_names.specs.Declarations.{implied}
use Rattle.sv_names.specs.Given.{Gives}
use Rattle.sv_names.specs.Scopes.{within}
use Rattle.sv_names.specs.Types.{Path}
use Rattle.sv_names.specs.Views.{around_in}
use Rattle.sv_elab_head.proofs.results.type_within.Goals as goal

pub returns : goal.returns
returns c =
    let ar = around_in c.args.around.now in
    let s = c.args.scope.now in
    let i = implied_in c.args.ty.now in
    let seen : map (λ x. x.now) c.as_slice.result.now ≡ s ∷ ar.scopes = search rules in
    c.known.ensures (implied (within s ar) s.path i)
    (subst (λ (p : Path). Gives c.implied.result (implied (within s ar) p i)) c.as_slice-2.ensures
    (subst (λ (ss : List Scope). Gives c.implied.result (implied (record ar { scopes = ss }) c.as_slice-2.result.now i)) seen c.implied.ensures))

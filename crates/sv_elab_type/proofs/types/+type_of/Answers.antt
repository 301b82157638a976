use Rattle.std.proofs.Common.{rules, ◌≡◌, List, ◌∷◌, map, sym, subst}
use Rattle.sv_value.specs.declared.place.Place.{Place}
use Rattle.sv_tree.specs.StmtView.{type, enum_item}
use Rattle.sv_tree.specs.Types as tree_type
use Rattle.sv_names.specs.declared.scope.Scope.{Scope}
use Rattle.sv_names.specs.Checked.{◌▷◌}
use Rattle.sv_names.specs.Declarations.{type_of, enum_on}
use Rattle.sv_names.specs.Entries.{place_of_type}
use Rattle.sv_names.specs.Views.{around_in}
use Rattle.sv_names.specs.Given.{Gives}
use Rattle.sv_elab_type.specs.Waiting.{waiting_scope}
use Rattle.sv_elab_type.proofs.types.+type_of.Goals as goal

pub returns-in_ok-scopes-in-EnumOf : goal.returns-in_ok-scopes-in-EnumOf
returns-in_ok-scopes-in-EnumOf t c =
    let ar = around_in c.args.around.now in
    let p = c.args.path.now in
    let at = c.in-EnumOf.at in
    let base = type c.deref-in-EnumOf-2.result.now in
    let is = map enum_item c.deref-in-EnumOf.result.now in
    let seen : map (λ s. s.now) c.as_slice.result.now ≡ waiting_scope p is ∷ ar.scopes = search rules in
    let inner = subst (λ (ss : List Scope). Gives c.type_of-t-in-EnumOf.result (type_of (record ar { scopes = ss }) p base)) seen c.type_of-t-in-EnumOf.ensures in
    let place : c.place_of_type-in-EnumOf.result ≡ place_of_type base = search rules in
    let whole : type c.args.written.now ≡ tree_type.EnumOf at base is = search rules in
    subst (λ (w : tree_type.WrittenType). Gives c.enum_over.result (type_of ar p w)) (sym whole)
    (subst (λ (at_base : Place). Gives c.enum_over.result (type_of (record ar { scopes = waiting_scope p is ∷ ar.scopes }) p base ▷ enum_on p at at_base))
    place
    (c.enum_over.ensures (type_of (record ar { scopes = waiting_scope p is ∷ ar.scopes }) p base) inner))

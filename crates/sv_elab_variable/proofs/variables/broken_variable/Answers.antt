use Rattle.std.proofs.Common.{◌≡◌, ◌∙◌, Option, None, option_map, sym, ap, subst}
use Rattle.sv_tree.specs.Stmt.{Init}
use Rattle.sv_tree.specs.StmtView as view
use Rattle.sv_names.specs.declared.checked.Checked.{Checked}
use Rattle.sv_names.specs.declared.checked.Checked.TheVariants.{Broken}
use Rattle.sv_names.specs.declared.refusal.Refusal.{Refusal}
use Rattle.sv_names.specs.Assignments.{not_at_opening}
use Rattle.sv_names.specs.Blocks.{assigned_first, static_variable}
use Rattle.sv_names.specs.Checked.{◌where_also◌}
use Rattle.sv_names.specs.Code.{Code}
use Rattle.sv_names.specs.Emits.{Emits}
use Rattle.sv_names.specs.Given.{Fails}
use Rattle.sv_names.specs.Named.{Around}
use Rattle.sv_names.specs.Views.{around_in}
use Rattle.sv_elab_variable.proofs.VariableLaws.{broken_alone, broken_beside}
use Rattle.sv_elab_variable.proofs.variables.broken_variable.Goals as goal

pub returns-in-None : goal.returns-in-None
returns-in-None c = λ bad rs os.
    let ar = around_in c.args.around.now in
    let at_init : Option Init → Type 0 = λ i. Fails c.refusal.result (static_variable ar c.args.name.now (Broken c.args.fault) i) in
    let told : Refusal → Type 0 = λ e. Fails e (static_variable ar c.args.name.now (Broken c.args.fault) None) in
    subst at_init (sym (ap (option_map view.init) c.in-None.is))
    (subst told (sym c.refusal.ensures) (broken_alone ar c.args.name.now c.args.fault))

pub returns-in-Some : goal.returns-in-Some
returns-in-Some c = λ bad rs os.
    let ar = around_in c.args.around.now in
    let n = c.args.name.now in
    let i = view.init c.in-Some.value in
    let path : (assigned_first (around_in c.at_opening.result) n i where_also not_at_opening i)
    ≡ static_variable ar n (Broken c.args.fault) (option_map view.init c.args.init.now) =
    ap (λ (a : Around). assigned_first a n i where_also not_at_opening i) c.at_opening.ensures
    ∙ broken_beside ar n i c.args.fault bad
    ∙ ap (λ (x : Option Init). static_variable ar n (Broken c.args.fault) x) (sym (ap (option_map view.init) c.in-Some.is)) in
    subst (λ (x : Checked Code). Emits rs rs os os c.guarded_code.result x) path
    (c.guarded_code.ensures rs rs os os (assigned_first (around_in c.at_opening.result) n i) (not_at_opening i) (c.assigned_first-told.ensures rs os)
    c.opening_stands.ensures)

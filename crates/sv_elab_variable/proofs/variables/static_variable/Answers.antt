use Rattle.std.proofs.Common.{◌∙◌, ℕ, List, option_map, sym, ap, subst}
use Rattle.sv_tree.specs.StmtView as view
use Rattle.sv_names.specs.declared.checked.Checked.{Checked}
use Rattle.sv_names.specs.declared.named.Named.{Named}
use Rattle.sv_names.specs.Blocks.{static_variable}
use Rattle.sv_names.specs.Code.{Code}
use Rattle.sv_names.specs.Emits.{Emits}
use Rattle.sv_names.specs.Named.{declared_from}
use Rattle.sv_names.specs.Views.{around_in}
use Rattle.sv_elab_variable.proofs.VariableLaws.{none_declared, broken_declared, good_declared}
use Rattle.sv_elab_variable.proofs.variables.static_variable.Goals as goal

pub returns-in-None : goal.returns-in-None
returns-in-None c = λ rs.
    let ar = around_in c.args.around.now in
    let n = c.args.name.now in
    let i = option_map view.init c.args.init.now in
    let os = c.args.objects.now in
    let found = c.find.ensures ∙ ap (λ (x : List ℕ). declared_from 0 x ar.scopes) c.bytes.ensures in
    let bad = none_declared ar n c.find.result found c.in-None.is in
    subst (λ (v : Checked Named). Emits rs rs os os c.broken_variable.result (static_variable ar n v i)) (sym bad)
    (c.broken_variable.ensures bad rs os)

pub returns-in-Good : goal.returns-in-Good
returns-in-Good c = λ rs.
    let ar = around_in c.args.around.now in
    let n = c.args.name.now in
    let i = option_map view.init c.args.init.now in
    let found = c.find.ensures ∙ ap (λ (x : List ℕ). declared_from 0 x ar.scopes) c.bytes.ensures in
    subst (λ (w : Checked Code). Emits rs rs c.args.objects.now c.good_variable.new.objects c.good_variable.result w)
    (good_declared ar n i c.find.result c.in-Some.found c.in-Good.named found c.in-Some.is c.in-Good.is) (c.good_variable.ensures rs)

pub returns-in-Broken : goal.returns-in-Broken
returns-in-Broken c = λ rs.
    let ar = around_in c.args.around.now in
    let n = c.args.name.now in
    let i = option_map view.init c.args.init.now in
    let os = c.args.objects.now in
    let found = c.find.ensures ∙ ap (λ (x : List ℕ). declared_from 0 x ar.scopes) c.bytes.ensures in
    let bad = broken_declared ar n c.find.result c.in-Some.found c.in-Broken.f found c.in-Some.is c.in-Broken.is in
    subst (λ (v : Checked Named). Emits rs rs os os c.broken_variable-in-Broken.result (static_variable ar n v i)) (sym bad)
    (c.broken_variable-in-Broken.ensures bad rs os)

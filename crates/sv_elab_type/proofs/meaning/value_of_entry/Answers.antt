use Rattle.std.proofs.Common.{rules, ◌≡◌, option_map, sym, subst}
use Rattle.sv_tree.specs.StmtView.{type, dimension}
use Rattle.sv_names.specs.declared.checked.Checked.{Checked}
use Rattle.sv_names.specs.declared.named.Named.{Named}
use Rattle.sv_names.specs.Declarations.{declared_type, value_of_entry}
use Rattle.sv_names.specs.Entries.{Declared}
use Rattle.sv_names.specs.Views.{around_in}
use Rattle.sv_names.specs.Given.{Gives}
use Rattle.sv_elab_scope.specs.Views.{entry_in, declared_in, variable_in}
use Rattle.sv_elab_type.proofs.MeaningLaws.{held_is}
use Rattle.sv_elab_type.proofs.meaning.value_of_entry.Goals as goal

pub returns-in-Variable : goal.returns-in-Variable
returns-in-Variable c =
    let ar = around_in c.args.around.now in
    let p = c.args.path.now in
    let e = entry_in c.args.entry.now in
    let w = type c.in-Variable.ty.now in
    let d = option_map dimension c.in-Variable.dimension.now in
    let what : declared_in c.args.entry.now.what ≡ variable_in c.in-Variable.held w d = search rules in
    subst (λ (x : Declared). Gives c.held_by.result (value_of_entry ar p e x)) (sym what)
    (subst (λ (x : Checked Named). Gives c.held_by.result x) (held_is ar p e c.in-Variable.held w d)
    (c.held_by.ensures (declared_type ar p w d) c.declared_type-t.ensures))

use Rattle.std.proofs.Common.{rules, ◌≡◌, true, sym, subst, ap}
use Rattle.sv_tree.specs.declared.expr.Expr.{the_lemmas}
use Rattle.sv_tree.specs.Expr as tree
use Rattle.sv_tree.specs.View.{expr, suffix_list, suffixes_are}
use Rattle.sv_names.specs.Emits.{Emits}
use Rattle.sv_names.specs.Named.{raised}
use Rattle.sv_names.specs.Statements as statements
use Rattle.sv_names.specs.Views.{around_in}
use Rattle.sv_elab_flow.specs.Parts.{place_of}
use Rattle.sv_elab_task.specs.Calling.{call_once}
use Rattle.sv_elab_task.proofs.calls.ignored_call.Goals as goal

pub returns-in-Post : goal.returns-in-Post
returns-in-Post c rs os =
    let ar = around_in c.args.around.now in
    let ss = suffix_list c.deref.result.now in
    let whole : expr c.args.e.now ≡ tree.Post c.in-Post.root ss = search (rules, the_lemmas, suffixes_are) in
    subst (λ (e : tree.Expr). Emits rs rs os os c.single.result (statements.ignored ar (place_of c.args.s.now) e)) (sym whole)
    (c.single.ensures rs os (raised ar (call_once true c.in-Post.root ss)) c.name_called.ensures)

pub returns-in-System : goal.returns-in-System
returns-in-System c rs os =
    let ar = around_in c.args.around.now in
    subst (λ (e : tree.Expr). Emits rs rs os os c.single-in-System.result (statements.ignored ar (place_of c.args.s.now) e)) (sym (ap expr c.in-System.is))
    (c.single-in-System.ensures rs os _ c.ignored_task.ensures)

-- A method that is no constructor.
use Rattle.std.proofs.Common.{◌∙◌, List, sym, ap, subst}
use Rattle.sv_tree.specs.declared.class.ClassItem.{ClassItem}
use Rattle.sv_tree.specs.declared.class.Method.{Method}
use Rattle.sv_tree.specs.UnitView.{class_item, method, head}
use Rattle.sv_names.specs.declared.checked.Checked.{Checked}
use Rattle.sv_names.specs.Classes.{method_of}
use Rattle.sv_names.specs.Entries.{is_constructor}
use Rattle.sv_names.specs.Subroutines.{MadeSubroutine}
use Rattle.sv_names.specs.Views.{around_in}
use Rattle.sv_elab_member.specs.Methods.{method_made}
use Rattle.sv_elab_member.specs.Putting.{Putting}
use Rattle.sv_elab_member.proofs.MethodLaws.{method_is}
use Rattle.sv_elab_member.proofs.methods.method_of.Goals as goal

pub returns-else-is_constructor : goal.returns-else-is_constructor
returns-else-is_constructor c =
    let ar = around_in c.args.around.now in
    let k = c.args.class.now in
    let m = c.in-Method.of.value in
    let test = c.is_constructor.ensures ∙ ap (λ (n : Method). is_constructor (head n.routine.head)) c.deref.ensures in
    subst (λ (x : Checked (List MadeSubroutine)). Putting c.args.so_far.now c.method_made.new.so_far c.method_made.result x)
    (ap (λ (n : Method). method_made ar k (method n)) c.deref-in-Method.ensures
    ∙ method_is ar k (method m) c.is_constructor.result test c.if-is_constructor.false
    ∙ ap (λ (i : ClassItem). method_of ar k (class_item i)) (sym c.in-Method.is)) c.method_made.ensures

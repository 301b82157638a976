-- The forms of assignments, piece by piece (IEEE 1800-2017, 7.5.1, 8.12, 10.4, 11.4.1 and 14.16).
use Rattle.std.specs.Prelude.{Bool, false, List, [], ◌∷◌, Option, Some, None, if◌then◌else◌}
use Rattle.sv_value.specs.declared.place.Place.{Place}
use Rattle.sv_flat.specs.declared.stmt.Form.{Form}
use Rattle.sv_flat.specs.declared.stmt.Form.TheVariants as form
use Rattle.sv_flat.specs.declared.call.CallForm.{CallForm}
use Rattle.sv_flat.specs.declared.call.CallForm.TheVariants as call
use Rattle.sv_flat.specs.declared.target.Lvalue.{Lvalue}
use Rattle.sv_flat.specs.declared.target.Container.{Container}
use Rattle.sv_flat.specs.Expr as flat
use Rattle.sv_names.specs.declared.checked.Checked.{Checked}
use Rattle.sv_names.specs.declared.checked.Checked.TheVariants.{Good}
use Rattle.sv_names.specs.declared.hoisted.Hoisted.{Hoisted}
use Rattle.sv_names.specs.declared.ty.Ty.{Ty}
use Rattle.sv_names.specs.declared.typed.Begin.{Begin}
use Rattle.sv_names.specs.declared.typed.Begin.TheVariants.{Signal}
use Rattle.sv_names.specs.declared.typed.Typed.{Typed}
use Rattle.sv_names.specs.Assignments.{Amount, assign_form, nonblocking_form, no_object, copied}
use Rattle.sv_names.specs.Checked.{given, broken_at}
use Rattle.sv_names.specs.Hoisted.{mapped, three, if_any, result_of}
use Rattle.sv_names.specs.Named.{Around}
use Rattle.sv_names.specs.Selects.{container_of}
use Rattle.sv_names.specs.Targets.{Spot, lvalues, type_of_target}
use Rattle.sv_names.specs.Types.{is_container, is_dynamic, is_fixed, item_of, data_of, plain_of}
use Rattle.sv_names.specs.Values.{assigned, exactly}
use Rattle.sv_elab_assign.specs.declared.later.Driven as later

-- ---- targets

-- whether a target is a whole container
abbrev pub is_whole_container : List Spot → Bool
is_whole_container (s ∷ []) = is_container s.1.ty
is_whole_container ss = false

-- whether a target is a whole dynamic array
abbrev pub is_dynamic_array : List Spot → Bool
is_dynamic_array (s ∷ []) = is_dynamic s.1.ty
is_dynamic_array ss = false

-- ---- drives

-- the signal of a clocking block that a target begins with
abbrev pub signal_of : Around → Begin → Option later.Driven
signal_of ar (Signal b i o) = Some (record { clock = ar.numbers.clocking b; signal = i })
signal_of ar b = None

-- E16, E17: a value that is driven
abbrev pub drive_given : Around → later.Driven → Place → Ty → Typed → Checked (Hoisted Form)
drive_given ar s pv to t = given (mapped (form.Drive s.clock s.signal)) (exactly ar to pv t)

-- E16, E17: a value for a nonblocking target of a type
abbrev pub update_given : Around → Option Amount → Place → Ty → List Spot → Typed → Checked (Hoisted Form)
update_given ar d pv to ss t = given (nonblocking_form d (lvalues ar ss)) (assigned ar to pv t)

-- the same, by what is driven
abbrev pub later_by : Around → Option Amount → Place → List Spot → Typed → Option later.Driven → Checked (Hoisted Form)
later_by ar d pv ss t None = update_given ar d pv (type_of_target ss) ss t
later_by ar d pv ss t (Some s) = drive_given ar s pv (type_of_target ss) t

-- ---- `a op= e`

-- a value for targets whose calls stand with it
abbrev pub assign_beside : List Lvalue → Hoisted flat.Expr → Hoisted Form
assign_beside ls e = record { hidden = e.hidden; calls = e.calls; value = form.Assign ls e.value }

-- E16, E17: the same, where it fits them
abbrev pub written_back : Around → Ty → Place → List Lvalue → Typed → Checked (Hoisted Form)
written_back ar to pv ls t = given (assign_beside ls) (assigned ar to pv t)

-- ---- `new`

-- E16, E42: what `new` gives does not fit a target of one part
abbrev pub unfit : Place → Typed → Checked (Hoisted flat.Expr)
unfit at t = if is_fixed t.ty then broken_at 42 t.at else broken_at 16 at

-- what a call gives, in a hidden variable of a type
abbrev pub made_by : Around → Ty → Hoisted CallForm → Hoisted flat.Expr
made_by ar t f = result_of ar.first (data_of ar.numbers t) f

-- a copy of an object
abbrev pub copy_of : Around → Typed → Hoisted flat.Expr
copy_of ar t = made_by ar t.ty (mapped call.Copy t.code)

-- E16: a copy for a target
abbrev pub copy_for : Around → Option Amount → Place → List Spot → Typed → Checked (Hoisted Form)
copy_for ar d at ss t =
    if copied ar (type_of_target ss) t.ty then Good (assign_form d (lvalues ar ss) (copy_of ar t))
    else given (assign_form d (lvalues ar ss)) (no_object at ss)

-- ---- `new[n]`

-- a dynamic array that gets so many items, and perhaps those of another one
abbrev pub resize_form : Around → Typed → Hoisted flat.Expr → Option (Hoisted Container) → Hoisted Form
resize_form ar t n old =
    three (λ q x y. form.Resize (container_of q) x y (plain_of ar.numbers (item_of t.ty))) t.code n (if_any old)

-- E42: the same, at once
abbrev pub resize_given : Around → Option Amount → Typed → Hoisted flat.Expr → Option (Hoisted Container) → Checked (Hoisted Form)
resize_given ar None t n old = Good (resize_form ar t n old)
resize_given ar (Some d) t n old = broken_at 42 t.at

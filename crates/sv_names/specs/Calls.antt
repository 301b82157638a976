-- Calls of subroutines, of methods and of `$cast` (IEEE 1800-2017, 8, 13 and 15).
use Rattle.std.specs.Prelude.{ℕ, suc, Bool, true, false, not, ◌&&◌, ◌||◌, List, [], ◌∷◌, length, Option, Some, None, if◌then◌else◌, nat_lt, map, ◌++◌}
use Rattle.sv_value.specs.declared.place.Place.{Place}
use Rattle.sv_value.specs.declared.val.Wanted.{Wanted}
use Rattle.sv_value.specs.declared.val.Wanted.TheVariants as wanted
use Rattle.sv_value.specs.Vector.{vector, symbols_of}
use Rattle.sv_flat.specs.declared.expr.NamedItem.{NamedItem}
use Rattle.sv_flat.specs.declared.call.Argument.{Argument}
use Rattle.sv_flat.specs.declared.call.CallForm.{CallForm}
use Rattle.sv_flat.specs.declared.call.CallForm.TheVariants as call
use Rattle.sv_flat.specs.declared.target.Lvalue.{Lvalue}
use Rattle.sv_flat.specs.Expr as flat
use Rattle.sv_tree.specs.declared.word.Name.{Name}
use Rattle.sv_tree.specs.declared.word.Direction.{Direction}
use Rattle.sv_tree.specs.declared.word.Direction.TheVariants as direction
use Rattle.sv_names.specs.declared.argument.Arg.{Arg}
use Rattle.sv_names.specs.declared.argument.Taken.{Taken}
use Rattle.sv_names.specs.declared.argument.Taken.TheVariants.{Value, Target}
use Rattle.sv_names.specs.declared.around.ClassInfo.{ClassInfo}
use Rattle.sv_names.specs.declared.checked.Checked.{Checked}
use Rattle.sv_names.specs.declared.checked.Checked.TheVariants.{Good}
use Rattle.sv_names.specs.declared.ty.Ty.{Ty}
use Rattle.sv_names.specs.declared.ty.Ty.TheVariants.{Text, Class, Nothing, MailboxOf, Assoc, Enum}
use Rattle.sv_names.specs.declared.hoisted.Hoisted.{Hoisted}
use Rattle.sv_names.specs.declared.typed.Typed.{Typed}
use Rattle.sv_names.specs.declared.named.Formal.{Formal}
use Rattle.sv_names.specs.declared.named.Callee.{Callee}
use Rattle.sv_names.specs.declared.scope.Scope.{Scope}
use Rattle.sv_names.specs.declared.named.Known.{Known}
use Rattle.sv_names.specs.declared.named.Kind.{Kind}
use Rattle.sv_names.specs.declared.named.Kind.TheVariants.{Item as Of_item}
use Rattle.sv_names.specs.declared.named.Named.{Named}
use Rattle.sv_names.specs.declared.named.Named.TheVariants.{Constant}
use Rattle.sv_names.specs.declared.named.Protection.{Protection}
use Rattle.sv_names.specs.declared.named.Protection.TheVariants.{Open, Local as Local_to_class, Protected}
use Rattle.sv_names.specs.Checked.{same_place, both, ◌▷◌, given, put_before, broken_at, rule, fine, ◌where_also◌}
use Rattle.sv_names.specs.Types.{Path, int_type, is_array, is_integral, is_text, is_class, is_null, is_enum, same_type, item_of, key_of, plain_of, data_of, message_type, integral_or, same_path, same_bytes, as_type}
use Rattle.sv_names.specs.Hoisted.{pure, mapped, paired, three, in_row, result_of}
use Rattle.sv_names.specs.Named.{Around, class_in, can_be_derived}
use Rattle.sv_names.specs.Values.{value_typed, constant_vector, assigned, exactly, alone, number_index, one_item}
use Rattle.sv_names.specs.Selects.{container_of, key_for}
use Rattle.sv_names.specs.Targets.{Spot, lvalues, takes, read_of, beside}
use Rattle.sv_names.specs.declared.method.Action.{Action}
use Rattle.sv_names.specs.declared.method.Action.TheVariants as action
use Rattle.sv_names.specs.declared.method.Outcome.{Outcome}
use Rattle.sv_names.specs.declared.method.Method.{Method}
use Rattle.sv_names.specs.declared.method.Called.{Called}
use Rattle.sv_names.specs.declared.method.Called.TheVariants as called
use Rattle.sv_names.specs.Methods.{type_given, gives_value, may_wait}
use Rattle.sv_names.specs.Arguments.{value_of_arg, values_stand}

-- ---- where a call may stand

-- E24, E25: a call stands where none may be evaluated
abbrev pub call_stands : Around → Place → Checked (Unit {0})
call_stands ar at = told ar.call_rule
  where
    told : Option ℕ → Checked (Unit {0})
    told None = fine
    told (Some n) = broken_at n at

-- E27: what may wait stands where nothing may
abbrev pub wait_stands : Around → Place → Checked (Unit {0})
wait_stands ar at = rule 27 at ar.may_not_wait

-- E37: whether a member with this protection can be named here (8.18)
abbrev pub is_within : Around → Protection → Path → Bool
is_within ar Open p = true
is_within ar Local_to_class p = same_class ar.class
  where
    same_class : Option Path → Bool
    same_class None = false
    same_class (Some q) = same_path p q
is_within ar Protected p = derived_class ar.class
  where
    derived_class : Option Path → Bool
    derived_class None = false
    derived_class (Some q) = can_be_derived ar.classes q p

-- E37: a member is named where it may not be
abbrev pub may_be_named : Around → Protection → Path → Place → Checked (Unit {0})
may_be_named ar g p at = rule 37 at (not (is_within ar g p))

-- ---- arguments

-- the value of an input
abbrev pub as_input : Hoisted flat.Expr → Hoisted Argument
as_input e = mapped (λ x. record { value = Some x; targets = None }) e

-- E16: an input argument takes a value of its type (13.5.1)
abbrev pub input_argument : Around → Place → Checked Ty → Checked Typed → Checked (Hoisted Argument)
input_argument ar at t e = both t e ▷ (λ p. given as_input (assigned (record ar { takes_events = true }) p.0 at p.1))

-- the targets of an output
abbrev pub as_output : Hoisted (List Lvalue) → Hoisted Argument
as_output ls = mapped (λ x. record { value = None; targets = Some x }) ls

-- the targets and the value of an inout
abbrev pub as_inout : Hoisted (List Lvalue) → Hoisted flat.Expr → Hoisted Argument
as_inout ls e = beside (λ x y. record { value = Some y; targets = Some x }) ls e

-- E16: an output or inout argument gives its value to a target
abbrev pub written_argument : Around → Bool → Place → Ty → List Spot → Checked (Hoisted Argument)
written_argument ar false at t ss = takes ar at t ss ▷ (λ _. Good (as_output (lvalues ar ss)))
written_argument ar true at t ss =
    (assigned ar t at (read_of at ss) where_also takes ar at t ss) ▷ (λ e. Good (as_inout (lvalues ar ss) e))

-- E31: a value where a target stands; what it breaks by itself may stand before
abbrev pub no_target_of : Place → Checked Typed → Checked (List Spot)
no_target_of at c = both (broken_at 31 at) c ▷ (λ p. Good p.0)

-- what is taken as a target
abbrev pub target_of_taken : Place → Taken → Checked (List Spot)
target_of_taken at (Target c) = c
target_of_taken at (Value c) = no_target_of at c

-- E31: an output argument is a target
abbrev pub target_argument : Arg → Checked (List Spot)
target_argument a = target_of_taken a.at a.taken

-- an argument by its direction
abbrev pub argument : Around → Direction → Checked Ty → Arg → Checked (Hoisted Argument)
argument ar direction.Input t a = input_argument ar a.at t (value_of_arg a)
argument ar direction.Output t a = both t (target_argument a) ▷ (λ p. written_argument ar false a.at p.0 p.1)
argument ar direction.Inout t a = both t (target_argument a) ▷ (λ p. written_argument ar true a.at p.0 p.1)

-- whether an argument is written
abbrev pub is_output : Direction → Bool
is_output direction.Input = false
is_output d = true

-- which arguments are taken as targets, from the first on
abbrev pub outputs_of : List Formal → List Bool
outputs_of fs = map (λ f. is_output f.direction) fs

-- what an argument is where it is left out; a default is constant, so it is no target of an output
abbrev pub usual_value : Formal → Option (Checked Typed)
usual_value f = if is_output f.direction then None else f.default

-- E31: too few arguments
abbrev pub left_out : Around → Place → Formal → Checked (Hoisted Argument)
left_out ar at f = found (usual_value f)
  where
    found : Option (Checked Typed) → Checked (Hoisted Argument)
    found None = broken_at 31 at
    found (Some e) = input_argument ar at f.ty e

-- E31: too many
abbrev pub arguments : Around → Place → List Formal → List Arg → Checked (List (Hoisted Argument))
arguments ar at [] [] = Good []
arguments ar at [] (a ∷ as') = broken_at 31 at where_also values_stand (a ∷ as')
arguments ar at (f ∷ fs) [] = put_before (left_out ar at f) (arguments ar at fs [])
arguments ar at (f ∷ fs) (a ∷ as') = put_before (argument ar f.direction f.ty a) (arguments ar at fs as')

-- ---- calls of subroutines

-- where a name stands among the virtual methods
abbrev pub slot_from : ℕ → List ℕ → List (List ℕ) → ℕ
slot_from k x [] = k
slot_from k x (y ∷ ys) = if same_bytes x y then k else slot_from (suc k) x ys

-- the slot of a virtual method in a class
abbrev pub slot_of : Around → Path → List ℕ → ℕ
slot_of ar p x = found (class_in ar.classes p)
  where
    found : Option ClassInfo → ℕ
    found None = 0
    found (Some k) = slot_from 0 x k.slots

-- the object of a method as its first argument
abbrev pub object_argument : flat.Expr → Argument
object_argument o = record { value = Some o; targets = None }

-- a method by the class of the object, or the one that is named
abbrev pub method_form : Around → Callee → (is_direct : Bool) → Ty → flat.Expr → List Argument → CallForm
method_form ar c direct (Class p) o as' =
    if c.is_virtual && not direct
    then call.Method (ar.numbers.class p) (slot_of ar p c.name.text) (object_argument o ∷ as')
    else call.Routine (ar.numbers.subroutine c.path) (Some o) (object_argument o ∷ as')
method_form ar c direct t o as' = call.Routine (ar.numbers.subroutine c.path) (Some o) (object_argument o ∷ as')

-- what is called, with its object as the first argument
abbrev pub call_form : Around → Callee → Option Typed → Bool → List (Hoisted Argument) → Hoisted CallForm
call_form ar c None direct as' = mapped (call.Routine (ar.numbers.subroutine c.path) None) (in_row as')
call_form ar c (Some o) direct as' =
    if c.is_static then paired (λ x xs. call.Routine (ar.numbers.subroutine c.path) (Some x) xs) o.code (in_row as')
    else paired (method_form ar c direct o.ty) o.code (in_row as')

-- whether it is a task or a void function
abbrev pub gives_nothing : Checked Ty → Bool
gives_nothing (Good Nothing) = true
gives_nothing c = false

-- E24, E25, E27, E32: a call of a task, a function or a method (13.3 and 13.4)
abbrev pub subroutine_called : Around → Place → (is_value : Bool) → Callee → Option Typed → Bool → List Arg → Checked Called
subroutine_called ar at is_value c o direct as' =
    given (λ p. called.Call (call_form ar c o direct p.0) p.1) (both (arguments ar at c.formals as') c.result)
    where_also call_stands ar at
    where_also rule 32 at (is_value && gives_nothing c.result)
    where_also rule 27 at (ar.may_not_wait && c.is_task)

-- ---- calls of methods of the language

-- the number of items of a container
abbrev pub size_expr : flat.Expr → flat.Expr
size_expr (flat.Field p t e) = flat.Size (Some p) e
size_expr e = flat.Size None e

-- whether a container has a key
abbrev pub exists_expr : flat.Expr → flat.Expr → flat.Expr
exists_expr (flat.Field p t e) i = flat.Exists (Some p) e i
exists_expr e i = flat.Exists None e i

-- whether it is an item of the enum with this first token
abbrev pub is_item_at : Place → Kind → Bool
is_item_at at (Of_item p) = same_place at p
is_item_at at k = false

-- the value of an item
abbrev pub item_named : Name → Named → List NamedItem
item_named n (Constant c p) = record { value = constant_vector c; name = n.text } ∷ []
item_named n x = []

-- the items of an enum among declarations, with their values
abbrev pub items_known : Place → List Known → Checked (List NamedItem)
items_known at [] = Good []
items_known at (k ∷ ks) =
    if is_item_at at k.kind then given (λ p. item_named k.name p.0 ++ p.1) (both k.value (items_known at ks))
    else items_known at ks

-- those in its own scope
abbrev pub items_in_scopes : Path → Place → List Scope → Checked (List NamedItem)
items_in_scopes p at [] = Good []
items_in_scopes p at (s ∷ ss) =
    if same_path p s.path then given (λ q. q.0 ++ q.1) (both (items_known at s.known) (items_in_scopes p at ss))
    else items_in_scopes p at ss

-- the items of an enum, with their values
abbrev pub enum_items : Around → Ty → Checked (List NamedItem)
enum_items ar (Enum p at i b w) =
    first_of (items_in_scopes p at ar.scopes) (items_in_scopes p at (map (λ k. k.scope) ar.classes))
  where
    first_of : Checked (List NamedItem) → Checked (List NamedItem) → Checked (List NamedItem)
    first_of (Good []) bs = bs
    first_of as' bs = as'
enum_items ar t = Good []

-- a method with one argument
abbrev pub one_arg : List Arg → (Arg → Checked Called) → Checked Called
one_arg [] go = Good (called.Call (pure (call.Routine (record { 0 = 0 }) None [])) Nothing)
one_arg (a ∷ as') go = go a

-- a method that takes a value
abbrev pub with_value : Arg → (Typed → Checked (Hoisted CallForm)) → Ty → Checked Called
with_value a go t = given (λ f. called.Call f t) (value_of_arg a ▷ go)

-- E16, E42: what a message can be
abbrev pub is_message : Ty → Bool
is_message t = is_integral t || is_text t || is_class t

-- E16: a message, with the type that it is written with
abbrev pub message_of : Around → Ty → Place → Typed → Checked (Ty × Hoisted flat.Expr)
message_of ar (MailboxOf t) at x = given (λ e. (as_type t, e)) (exactly ar (as_type t) at x)
message_of ar m at x =
    one_item x ▷ (λ y. if is_message y.ty then given (λ e. (y.ty, e)) (exactly ar y.ty at y) else broken_at 16 at)

-- the messages that a variable takes
abbrev pub wanted_of : Around → Ty → Wanted
wanted_of ar Text = wanted.Text
wanted_of ar (Class p) = wanted.Classes (ar.numbers.derived p)
wanted_of ar t = wanted.Integral (integral_or t)

-- E16, E17: the variable of a `get` has the type of the messages
abbrev pub may_receive : Ty → Place → Typed → Checked (Unit {0})
may_receive (MailboxOf t) at v =
    if same_type (as_type t) v.ty then fine else broken_at (if is_enum v.ty && is_integral (as_type t) then 17 else 16) at
may_receive m at v = fine

-- E16, E42: the variable of a `get`
abbrev pub receiver : Ty → Place → List Spot → Checked Typed
receiver m at (s ∷ []) =
    one_item s.1 ▷ (λ v. if is_message v.ty then may_receive m at v ▷ (λ _. Good v) else broken_at 16 at)
receiver m at ss = broken_at 16 at

-- `get` and its kin
abbrev pub get_form : Around → Bool → Bool → Typed → List Spot → Typed → Hoisted CallForm
get_form ar peeks waits m ss v =
    paired (λ x ls. call.Get x ls (wanted_of ar v.ty) peeks waits) m.code (lvalues ar ss)

-- the number of keys, 1 where none is given
abbrev pub keys_given : Around → List Arg → Checked (Hoisted flat.Expr)
keys_given ar [] = Good (pure (flat.Literal (vector true (symbols_of 32 1 0)) None))
keys_given ar (a ∷ as') = value_of_arg a ▷ exactly ar int_type a.at

-- E16: the variable of `first` and its kin has the type of the keys
abbrev pub walked : Around → Action → Typed → Place → List Spot → Checked (Hoisted CallForm)
walked ar (action.Walk w) c at (s ∷ []) =
    if same_type s.1.ty (key_of c.ty)
    then Good (paired {B = flat.Expr × List Lvalue} (λ q p. call.Walk w (container_of q) p.0 p.1) c.code
    (beside (λ e ls. (e, ls)) s.1.code (lvalues ar (s ∷ []))))
    else broken_at 16 at
walked ar action c at ss = broken_at 16 at

-- the index that `delete` takes: a number, or a key
abbrev pub delete_index : Around → Typed → Place → Typed → Checked (Hoisted flat.Expr)
delete_index ar c at i = by_key (is_queue_index c.ty)
  where
    is_queue_index : Ty → Bool
    is_queue_index (Assoc k t) = false
    is_queue_index t = true

    by_key : Bool → Checked (Hoisted flat.Expr)
    by_key true = given alone (number_index at i)
    by_key false = key_for ar (key_of c.ty) at i

-- which arguments a method takes as targets
abbrev pub outputs_of_action : Action → List Bool
outputs_of_action (action.Walk w) = true ∷ []
outputs_of_action (action.Get peeks waits) = true ∷ []
outputs_of_action a = []

-- what each method does with its arguments
abbrev pub acted : Around → Place → Action → Outcome → Typed → List Arg → Checked Called
acted ar pe (action.Push e) g c as' =
    one_arg as' (λ a. with_value a (λ x.
    given (paired (λ q v. call.Push e (container_of q) v) c.code) (exactly ar (item_of c.ty) a.at x)) Nothing)
acted ar pe (action.Pop e) g c as' =
    Good (called.Call (mapped (λ q. call.Pop e (container_of q) (plain_of ar.numbers (item_of c.ty))) c.code) (type_given g))
acted ar pe action.Insert g c (i ∷ a ∷ as') =
    given (λ p. called.Call (three (λ q x v. call.Insert (container_of q) x v) c.code p.0 p.1) Nothing)
    (both (value_of_arg i ▷ (λ x. given alone (number_index i.at x))) (value_of_arg a ▷ exactly ar (item_of c.ty) a.at))
acted ar pe action.Insert g c as' = broken_at 31 pe
acted ar pe action.Delete g c [] = Good (called.Call (mapped (λ q. call.Delete (container_of q) None) c.code) Nothing)
acted ar pe action.Delete g c (a ∷ as') =
    with_value a (λ x. given (paired (λ q i. call.Delete (container_of q) (Some i)) c.code) (delete_index ar c a.at x)) Nothing
acted ar pe action.Size g c as' = Good (called.Operator (value_typed int_type pe false (mapped size_expr c.code)))
acted ar pe action.Exists g c as' =
    one_arg as' (λ a. given (λ e. called.Operator (value_typed int_type pe false (paired exists_expr c.code e)))
    (value_of_arg a ▷ key_for ar (key_of c.ty) a.at))
acted ar pe (action.Walk w) g c as' =
    one_arg as' (λ a. given (λ f. called.Call f int_type) (target_argument a ▷ walked ar (action.Walk w) c a.at))
acted ar pe (action.Put waits) g m as' =
    one_arg as' (λ a. with_value a (λ x.
    given (λ p. paired (λ b v. call.Put b v (message_type ar.numbers p.0) waits) m.code p.1) (message_of ar m.ty a.at x))
    (type_given g))
acted ar pe (action.Get peeks waits) g m as' =
    one_arg as' (λ a. given (λ f. called.Call f (type_given g))
    (target_argument a ▷ (λ ss. given (get_form ar peeks waits m ss) (receiver m.ty a.at ss))))
acted ar pe action.Messages g m as' = Good (called.Operator (value_typed int_type pe false (mapped flat.Messages m.code)))
acted ar pe action.PutKeys g s as' = given (λ n. called.Call (paired call.PutKeys s.code n) Nothing) (keys_given ar as')
acted ar pe (action.GetKeys waits) g s as' =
    given (λ n. called.Call (paired (λ x y. call.GetKeys x y waits) s.code n) (type_given g)) (keys_given ar as')
acted ar pe action.Name g e as' =
    given (λ is. called.Operator (value_typed Text pe e.is_constant (mapped (flat.Name is) (alone e)))) (enum_items ar e.ty)
acted ar pe action.Length g t as' = Good (called.Operator (value_typed int_type pe t.is_constant (mapped flat.Length t.code)))
acted ar pe action.Triggered g e as' = Good (called.Operator (value_typed (type_given g) pe false (mapped flat.Triggered e.code)))

-- E24, E25, E27, E31, E32: a call of a method of the language
abbrev pub method_called : Around → Place → (is_value : Bool) → Method → Typed → List Arg → Checked Called
method_called ar at is_value m o as' =
    (rule 31 at (nat_lt (length as') m.least || nat_lt m.most (length as'))
    where_also (if m.is_call then call_stands ar at else fine)
    where_also rule 32 at (is_value && not (gives_value m.gives))
    where_also rule 27 at (ar.may_not_wait && may_wait m.gives))
    ▷ (λ _. acted ar at m.action m.gives o as')

-- ---- `$cast`

-- E16, E42: what `$cast` takes
abbrev pub castable : Around → Bool → Arg → Place → List Spot → Typed → Checked (Hoisted CallForm)
castable ar answers a pb (s ∷ []) x = into s.1.ty
  where
    into : Ty → Checked (Hoisted CallForm)
    into (Class p) =
        one_item x ▷ (λ y. if is_class y.ty || is_null y.ty
        then Good (paired (λ ls v. call.Cast ls v (ar.numbers.class p) answers) (lvalues ar (s ∷ [])) y.code)
        else broken_at 16 pb)
    into t = if is_array t then broken_at 42 s.1.at else broken_at 16 a.at
castable ar answers a pb ss x = broken_at 16 a.at

-- E24, E25, E31: `$cast` is a call (8.16)
abbrev pub cast_called : Around → (answers : Bool) → Place → List Arg → Checked Called
cast_called ar answers at (a ∷ b ∷ []) =
    given (λ f. called.Call f int_type)
    (both (target_argument a) (value_of_arg b) ▷ (λ p. castable ar answers a b.at p.0 p.1))
    where_also call_stands ar at
cast_called ar answers at as' = broken_at 31 at where_also values_stand as' where_also call_stands ar at

-- ---- a call as a value

-- what a call gives, in a hidden variable
abbrev pub as_value : Around → Place → Called → Typed
as_value ar at (called.Call f t) = value_typed t at false (result_of ar.first (data_of ar.numbers t) f)
as_value ar at (called.Operator t) = t

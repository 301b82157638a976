-- What each method of the language does, in steps (IEEE 1800-2017, 6.16, 6.19, 7.5 to 7.10 and 15).
use Rattle.std.specs.Prelude.{ℕ, Bool, true, false, not, ◌&&◌, ◌||◌, List, [], ◌∷◌, Option, Some, None, if◌then◌else◌, nat_lt}
use Rattle.sv_value.specs.declared.place.Place.{Place}
use Rattle.sv_value.specs.declared.val.Plain.{Plain}
use Rattle.sv_value.specs.declared.val.Wanted.{Wanted}
use Rattle.sv_value.specs.Vector.{vector, symbols_of}
use Rattle.sv_flat.specs.declared.call.CallForm.{CallForm}
use Rattle.sv_flat.specs.declared.call.CallForm.TheVariants as call
use Rattle.sv_flat.specs.declared.call.End.{End}
use Rattle.sv_flat.specs.declared.call.WalkStep.{WalkStep}
use Rattle.sv_flat.specs.declared.target.Lvalue.{Lvalue}
use Rattle.sv_flat.specs.Expr as flat
use Rattle.sv_names.specs.declared.argument.Arg.{Arg}
use Rattle.sv_names.specs.declared.checked.Checked.{Checked}
use Rattle.sv_names.specs.declared.checked.Checked.TheVariants.{Good}
use Rattle.sv_names.specs.declared.hoisted.Hoisted.{Hoisted}
use Rattle.sv_names.specs.declared.method.Called.{Called}
use Rattle.sv_names.specs.declared.method.Called.TheVariants as called
use Rattle.sv_names.specs.declared.method.Method.{Method}
use Rattle.sv_names.specs.declared.method.Outcome.{Outcome}
use Rattle.sv_names.specs.declared.ty.Ty.{Ty}
use Rattle.sv_names.specs.declared.ty.Ty.TheVariants.{Nothing, Text}
use Rattle.sv_names.specs.declared.typed.Typed.{Typed}
use Rattle.sv_names.specs.Arguments.{value_of_arg}
use Rattle.sv_names.specs.Calls.{call_stands, target_argument, size_expr, is_message, message_of, may_receive, wanted_of, keys_given, enum_items}
use Rattle.sv_names.specs.Checked.{both, ◌▷◌, given, broken_at, rule, fine, ◌where_also◌}
use Rattle.sv_names.specs.Hoisted.{pure, mapped, paired, three}
use Rattle.sv_names.specs.Methods.{type_given, gives_value, may_wait}
use Rattle.sv_names.specs.Named.{Around}
use Rattle.sv_names.specs.Selects.{container_of, index_for}
use Rattle.sv_names.specs.Targets.{Spot, lvalues, read_of, beside}
use Rattle.sv_names.specs.Types.{int_type, is_array, is_integral, is_enum, same_type, item_of, key_of, message_type}
use Rattle.sv_names.specs.Values.{value_typed, exactly, alone, one_item}
use Rattle.sv_elab_select.specs.Parts.{counted_index}

-- ---- arguments

-- the first argument, where there is one
abbrev pub first_argument : List Arg → Option Arg
first_argument [] = None
first_argument (a ∷ as') = Some a

-- what a method without its argument stands for
abbrev pub without_argument : Called
without_argument = called.Call (pure (call.Routine (record { 0 = 0 }) None [])) Nothing

-- ---- containers

-- a queue to which a value is added at an end
abbrev pub push_form : End → Hoisted flat.Expr → Hoisted flat.Expr → Hoisted CallForm
push_form e q v = paired (λ x y. call.Push e (container_of x) y) q v

-- E16, E17, E42: a value is added to a queue at an end
abbrev pub push : Around → End → Typed → Arg → Checked Called
push ar e c a = given (λ v. called.Call (push_form e c.code v) Nothing) (value_of_arg a ▷ exactly ar (item_of c.ty) a.at)

-- a queue from which the item at an end is taken
abbrev pub pop_form : End → Plain → Hoisted flat.Expr → Hoisted CallForm
pop_form e t q = mapped (λ x. call.Pop e (container_of x) t) q

-- a queue in which a value comes before a place
abbrev pub insert_form : Hoisted flat.Expr → Hoisted flat.Expr → Hoisted flat.Expr → Hoisted CallForm
insert_form q i v = three (λ x y z. call.Insert (container_of x) y z) q i v

-- E16, E17, E42: a value comes before a place in a queue
abbrev pub inserted : Around → Typed → Arg → Arg → Checked Called
inserted ar c i a =
    given (λ p. called.Call (insert_form c.code p.0 p.1) Nothing)
    (both (value_of_arg i ▷ counted_index i.at) (value_of_arg a ▷ exactly ar (item_of c.ty) a.at))

-- E31: the same, where there are two arguments
abbrev pub insert : Around → Place → Typed → Option (Arg × Arg) → Checked Called
insert ar pe c None = broken_at 31 pe
insert ar pe c (Some p) = inserted ar c p.0 p.1

-- all items of a container are deleted
abbrev pub delete_all : Typed → Called
delete_all c = called.Call (mapped (λ q. call.Delete (container_of q) None) c.code) Nothing

-- a container of which an item is deleted
abbrev pub delete_form : Hoisted flat.Expr → Hoisted flat.Expr → Hoisted CallForm
delete_form q i = paired (λ x y. call.Delete (container_of x) (Some y)) q i

-- E17, E42: an item of a container is deleted
abbrev pub delete_item : Around → Typed → Arg → Checked Called
delete_item ar c a = given (λ i. called.Call (delete_form c.code i) Nothing) (value_of_arg a ▷ index_for ar c.ty a.at)

-- the number of items of a container
abbrev pub size : Place → Typed → Called
size pe c = called.Operator (value_typed int_type pe false (mapped size_expr c.code))

-- ---- from key to key

-- E16: the variable that gets a key has the type of the keys
abbrev pub walk_stands : Place → Ty → List Spot → Checked (Unit {0})
walk_stands at k (s ∷ []) = rule 16 at (not (same_type s.1.ty k))
walk_stands at k ss = broken_at 16 at

-- a step from the key in a variable to another one
abbrev pub walk_form : Around → WalkStep → Place → Hoisted flat.Expr → List Spot → Hoisted CallForm
walk_form ar w at q ss =
    paired {B = flat.Expr × List Lvalue} (λ x p. call.Walk w (container_of x) p.0 p.1) q
    (beside (λ e ls. (e, ls)) (read_of at ss).code (lvalues ar ss))

-- E16: the same, where the target is one
abbrev pub walked : Around → WalkStep → Typed → Place → List Spot → Checked (Hoisted CallForm)
walked ar w c at ss = walk_stands at (key_of c.ty) ss ▷ (λ _. Good (walk_form ar w at c.code ss))

-- E31: the same, where the argument is a target
abbrev pub walk_argument : Around → WalkStep → Typed → Arg → Checked (Hoisted CallForm)
walk_argument ar w c a = target_argument a ▷ walked ar w c a.at

-- `first`, `last`, `next` and `prev`
abbrev pub walk : Around → WalkStep → Typed → Arg → Checked Called
walk ar w c a = given (λ f. called.Call f int_type) (walk_argument ar w c a)

-- ---- mailboxes

-- E16, E17, E42: a message of a type
abbrev pub message_as : Around → Ty → Place → Typed → Checked (Ty × Hoisted flat.Expr)
message_as ar t at x = given (λ e. (t, e)) (exactly ar t at x)

-- E16: a single item as a message of its own type
abbrev pub item_message : Around → Place → Typed → Checked (Ty × Hoisted flat.Expr)
item_message ar at y = if is_message y.ty then message_as ar y.ty at y else broken_at 16 at

-- E16, E42: a message of any type
abbrev pub any_message : Around → Place → Typed → Checked (Ty × Hoisted flat.Expr)
any_message ar at x = one_item x ▷ item_message ar at

-- a mailbox into which a message is put
abbrev pub put_form : Around → Bool → Hoisted flat.Expr → Ty × Hoisted flat.Expr → Hoisted CallForm
put_form ar waits m p = paired (λ b v. call.Put b v (message_type ar.numbers p.0) waits) m p.1

-- E16, E17, E42: a message is put into a mailbox
abbrev pub put : Around → Bool → Outcome → Typed → Arg → Checked Called
put ar waits g m a = given (λ p. called.Call (put_form ar waits m.code p) (type_given g)) (value_of_arg a ▷ message_of ar m.ty a.at)

-- E16, E17: a variable has the type of a message
abbrev pub takes_message : Ty → Place → Ty → Checked (Unit {0})
takes_message t at v = if same_type t v then fine else broken_at (if is_enum v && is_integral t then 17 else 16) at

-- E16, E17, E42: a variable can get a message
abbrev pub receives : Ty → Place → Typed → Checked (Unit {0})
receives m at v =
    if is_array v.ty then broken_at 42 v.at else (if is_message v.ty then may_receive m at v else broken_at 16 at)

-- the messages that a variable takes, where it can get one
abbrev pub wanted_by : Around → Ty → Place → Typed → Checked Wanted
wanted_by ar m at v = receives m at v ▷ (λ _. Good (wanted_of ar v.ty))

-- E16, E17, E42: the messages that a target takes, which is one variable
abbrev pub wanted_in : Around → Ty → Place → List Spot → Checked Wanted
wanted_in ar m at (s ∷ []) = wanted_by ar m at s.1
wanted_in ar m at ss = broken_at 16 at

-- a mailbox from which a message is got
abbrev pub get_form : Around → Bool → Bool → Hoisted flat.Expr → List Spot → Wanted → Hoisted CallForm
get_form ar peeks waits m ss w = paired (λ x ls. call.Get x ls w peeks waits) m (lvalues ar ss)

-- E16, E17, E42: a target gets a message
abbrev pub got : Around → Bool → Bool → Typed → Place → List Spot → Checked (Hoisted CallForm)
got ar peeks waits m at ss = given (get_form ar peeks waits m.code ss) (wanted_in ar m.ty at ss)

-- E31: the same, where the argument is a target
abbrev pub get_argument : Around → Bool → Bool → Typed → Arg → Checked (Hoisted CallForm)
get_argument ar peeks waits m a = target_argument a ▷ got ar peeks waits m a.at

-- `get` and its kin
abbrev pub get : Around → Bool → Bool → Outcome → Typed → Arg → Checked Called
get ar peeks waits g m a = given (λ f. called.Call f (type_given g)) (get_argument ar peeks waits m a)

-- the number of messages of a mailbox
abbrev pub messages : Place → Typed → Checked Called
messages pe m = Good (called.Operator (value_typed int_type pe false (mapped flat.Messages m.code)))

-- ---- semaphores, strings, events and enums

-- one key
abbrev pub one_key : Hoisted flat.Expr
one_key = pure (flat.Literal (vector true (symbols_of 32 1 0)) None)

-- keys that are put into a semaphore
abbrev pub put_keys_form : Hoisted flat.Expr → Hoisted flat.Expr → Hoisted CallForm
put_keys_form s n = paired call.PutKeys s n

-- `put` of a semaphore
abbrev pub put_keys : Around → Typed → List Arg → Checked Called
put_keys ar s as' = given (λ n. called.Call (put_keys_form s.code n) Nothing) (keys_given ar as')

-- keys that are got from a semaphore
abbrev pub get_keys_form : Bool → Hoisted flat.Expr → Hoisted flat.Expr → Hoisted CallForm
get_keys_form waits s n = paired (λ x y. call.GetKeys x y waits) s n

-- `get` and `try_get` of a semaphore
abbrev pub get_keys : Around → Bool → Outcome → Typed → List Arg → Checked Called
get_keys ar waits g s as' = given (λ n. called.Call (get_keys_form waits s.code n) (type_given g)) (keys_given ar as')

-- the length of a string
abbrev pub text_length : Place → Typed → Checked Called
text_length pe t = Good (called.Operator (value_typed int_type pe t.is_constant (mapped flat.Length t.code)))

-- whether an event was triggered
abbrev pub triggered : Place → Outcome → Typed → Checked Called
triggered pe g e = Good (called.Operator (value_typed (type_given g) pe false (mapped flat.Triggered e.code)))

-- `name` of a value of an enum
abbrev pub name : Around → Place → Typed → Checked Called
name ar pe e =
    given (λ is. called.Operator (value_typed Text pe e.is_constant (mapped (flat.Name is) (alone e)))) (enum_items ar e.ty)

-- ---- where a method stands

-- E24, E25: a method that changes something is a call
abbrev pub method_stands : Around → Place → Method → Checked (Unit {0})
method_stands ar at m = if m.is_call then call_stands ar at else fine

-- E31: so many arguments are too few or too many
abbrev pub count_stands : Place → Method → ℕ → Checked (Unit {0})
count_stands at m n = rule 31 at (nat_lt n m.least || nat_lt m.most n)

-- E24, E25, E27, E31, E32: a method may be called, with so many arguments
abbrev pub may_be_called : Around → Place → Bool → Method → ℕ → Checked (Unit {0})
may_be_called ar at is_value m n =
    count_stands at m n where_also method_stands ar at m where_also rule 32 at (is_value && not (gives_value m.gives))
    where_also rule 27 at (ar.may_not_wait && may_wait m.gives)

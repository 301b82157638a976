-- What a name with its members and calls stands for (IEEE 1800-2017, 6, 8, 13.5 and 14).
use Rattle.std.specs.Prelude.{ℕ, suc, Bool, true, false, ◌&&◌, ◌||◌, ◌==◌, List, [], ◌∷◌, Option, Some, None, if◌then◌else◌, codes, length}
use Rattle.sv_value.specs.declared.place.Place.{Place}
use Rattle.sv_value.specs.declared.operator.BinOp.TheVariants as bin
use Rattle.sv_value.specs.Vector.{vector, symbols_of}
use Rattle.sv_flat.specs.declared.target.Base.{Base}
use Rattle.sv_flat.specs.declared.target.Base.TheVariants as base
use Rattle.sv_flat.specs.Expr as flat
use Rattle.sv_tree.specs.declared.word.Name.{Name}
use Rattle.sv_tree.specs.declared.word.PartWord.{PartWord}
use Rattle.sv_tree.specs.declared.expr.Root.{Root}
use Rattle.sv_tree.specs.declared.expr.Root.TheVariants as root
use Rattle.sv_names.specs.declared.typed.How.{How}
use Rattle.sv_names.specs.declared.around.ClassInfo.{ClassInfo}
use Rattle.sv_names.specs.declared.around.Dollar.{Dollar}
use Rattle.sv_names.specs.declared.around.Dollar.TheVariants.{NoDollar, UnknownDollar, LastIndex}
use Rattle.sv_names.specs.declared.checked.Fault.{Fault}
use Rattle.sv_names.specs.declared.checked.Checked.{Checked}
use Rattle.sv_names.specs.declared.checked.Checked.TheVariants.{Good, Broken}
use Rattle.sv_names.specs.declared.argument.Arg.{Arg}
use Rattle.sv_names.specs.declared.ty.Ty.{Ty}
use Rattle.sv_names.specs.declared.ty.Ty.TheVariants.{Class}
use Rattle.sv_names.specs.declared.typed.Typed.{Typed}
use Rattle.sv_names.specs.declared.typed.Target.{Target}
use Rattle.sv_names.specs.declared.typed.Begin.{Begin}
use Rattle.sv_names.specs.declared.typed.Begin.TheVariants.{Variable as A_variable, Net as A_net, Input as An_input, Parameter as A_parameter, Item as An_item, InActivation, StaticProperty as A_static_property, Result as A_result, Signal as A_signal, Object as The_object}
use Rattle.sv_names.specs.declared.named.Named.{Named}
use Rattle.sv_names.specs.declared.named.Named.TheVariants.{Variable, Net, Input, Local, Property, StaticProperty, Constant, TypeName, ClassName, Subroutine, Itself, ClockingBlock, Other}
use Rattle.sv_names.specs.declared.named.Callee.{Callee}
use Rattle.sv_names.specs.declared.named.SignalInfo.{SignalInfo}
use Rattle.sv_names.specs.Checked.{both, ◌▷◌, given, broken_at, rule, ◌where_also◌, unless, also_broken, only}
use Rattle.sv_names.specs.Types.{Path, is_queue, data_of, same_bytes}
use Rattle.sv_names.specs.Hoisted.{pure, mapped, paired}
use Rattle.sv_names.specs.Named.{Around, class_in, is_derived, line_of, broken_end, member_of, property_place, found, told, meaning, kind_stands, is_type_kind, is_value_kind, result_named, further}
use Rattle.sv_names.specs.Values.{no_target}
use Rattle.sv_names.specs.Selects.{select_of, part_select_of}
use Rattle.sv_names.specs.Targets.{Spot, may_be_written}
use Rattle.sv_names.specs.declared.method.Method.{Method}
use Rattle.sv_names.specs.declared.method.Called.{Called}
use Rattle.sv_names.specs.Methods.{method_of}
use Rattle.sv_names.specs.Arguments.{values_stand}
use Rattle.sv_names.specs.Calls.{as_value, subroutine_called, method_called, may_be_named, gives_nothing, size_expr, outputs_of, outputs_of_action}

-- what a name with its members and calls can stand for
pub data Thing : Type 0 where
  A_value : Typed → Thing
  -- a subroutine, with the object that it is called for
  A_subroutine : Callee → Option Typed → (is_direct : Bool) → (at : Place) → Thing
  -- a method of the language
  A_method : Method → Typed → (at : Place) → Thing
  -- a function inside itself, with its result variable
  Its_result : Callee → Option Typed → Typed → (at : Place) → Thing
  A_block : Path → List (Checked SignalInfo) → (at : Place) → Thing
  The_signal : Path → ℕ → SignalInfo → (at : Place) → Thing
  A_type : Ty → (at : Place) → Thing

-- ---- objects and variables

-- a target that begins so
abbrev pub begun : Begin → Ty → Base → Target
begun b t h = record { begins = b; through = None; base = h; part = None; whole = t; is_item = false; moving = [] }

-- an object
abbrev pub object_typed : Around → Place → Path → Ty → Begin → Typed
object_typed ar at p t b =
    record {
      ty = t;
      at = at;
      is_constant = false;
      code = pure (flat.Object at (ar.numbers.object p) (data_of ar.numbers t));
      target = begun b t (base.Object (ar.numbers.object p));
    }

-- a variable of an activation
abbrev pub local_typed : Around → Place → ℕ → ℕ → Ty → Begin → Typed
local_typed ar at up place t b =
    record {
      ty = t;
      at = at;
      is_constant = false;
      code = pure (flat.Local (further up ar.up) place (data_of ar.numbers t));
      target = begun b t (base.Local (further up ar.up) place);
    }

-- a property of an object
abbrev pub field_typed : Around → Place → Path → Name → Ty → Typed → Typed
field_typed ar at k n t o =
    record {
      ty = t;
      at = at;
      is_constant = false;
      code = mapped (flat.Field (property_place ar k n.text) (data_of ar.numbers t)) o.code;
      target = begun InActivation t (base.Field o.code.value (property_place ar k n.text));
    }

-- a static member that is named through a reference
abbrev pub through_reference : Option Typed → Typed → Typed
through_reference None t = t
through_reference (Some o) t =
    record t { code = paired flat.Static o.code t.code; target = record t.target { through = Some o.code.value } }

-- E51: what is printed later names no such thing
abbrev pub lasts : Around → Place → Checked (Unit {0})
lasts ar at = rule 51 at ar.is_printed_later

-- ---- `this` and `super`

-- E39: the variable that holds the object at hand
abbrev pub this_variable : Around → Place → Option (Checked Named) → Checked Typed
this_variable ar at (Some (Good (Local u p t))) = Good (local_typed ar at u p t The_object)
this_variable ar at n = broken_at 39 at

-- E38, E39: the object at hand (8.11)
abbrev pub this_typed : Around → Place → Checked Typed
this_typed ar at = in_class ar.class (found ar (codes "this"))
  where
    in_class : Option Path → Option (Checked Named) → Checked Typed
    in_class None n = broken_at 38 at
    in_class (Some k) n = if ar.has_object then this_variable ar at n else broken_at 39 at

-- the object at hand, if there is one
abbrev pub at_hand : Around → Place → Option Typed
at_hand ar at = there (this_typed ar at)
  where
    there : Checked Typed → Option Typed
    there (Good t) = Some t
    there (Broken f) = None

-- ---- names

-- E39: without an object
abbrev pub with_object : Place → Option Typed → (Typed → Checked Thing) → Checked Thing
with_object at None go = broken_at 39 at
with_object at (Some o) go = go o

-- a constant where it is named
abbrev pub constant_named : Place → Bool → Typed → Typed
constant_named at true t = record t { at = at; target = record no_target { begins = A_parameter } }
constant_named at false t = record t { at = at; target = record no_target { begins = An_item } }

-- a reference other than the object at hand
abbrev pub not_at_hand : Option Typed → Option Typed
not_at_hand None = None
not_at_hand (Some o) = begins_with o.target.begins
  where
    begins_with : Begin → Option Typed
    begins_with The_object = None
    begins_with b = Some o

-- E37, E39: a subroutine, with the object that it needs
abbrev pub subroutine_thing : Around → Place → Callee → Option Typed → Bool → Checked Thing
subroutine_thing ar at c o direct = in_class c.class
  where
    in_class : Option Path → Checked Thing
    in_class None = Good (A_subroutine c None direct at)
    in_class (Some k) =
        may_be_named ar c.protection k at ▷ (λ _.
        if c.is_static then Good (A_subroutine c (not_at_hand o) direct at)
        else with_object at o (λ x. Good (A_subroutine c (Some x) direct at)))

-- a variable as a value and as a target
abbrev pub variable_typed : Around → Place → Named → Option Typed
variable_typed ar at (Variable p t) = Some (object_typed ar at p t (A_variable p))
variable_typed ar at (Local u p t) = Some (local_typed ar at u p t InActivation)
variable_typed ar at n = None

-- the result of a static function
abbrev pub as_result : Typed → Begin → Typed
as_result v (A_variable p) = record v { target = record v.target { begins = A_result } }
as_result v b = v

-- what a name alone stands for
abbrev pub named_thing : Around → Place → Named → Checked Thing
named_thing ar at (Variable p t) = Good (A_value (object_typed ar at p t (A_variable p)))
named_thing ar at (Net p t) = Good (A_value (object_typed ar at p t (A_net p)))
named_thing ar at (Input p n t) = Good (A_value (object_typed ar at p t An_input))
named_thing ar at (Local u p t) =
    if ar.is_initial then broken_at 7 at else lasts ar at ▷ (λ _. Good (A_value (local_typed ar at u p t InActivation)))
named_thing ar at (Property k g n t) =
    may_be_named ar g k at
    ▷ (λ _. with_object at (at_hand ar at) (λ o. lasts ar at ▷ (λ _. Good (A_value (field_typed ar at k n t o)))))
named_thing ar at (StaticProperty k g p t) =
    may_be_named ar g k at ▷ (λ _. lasts ar at ▷ (λ _. Good (A_value (object_typed ar at p t (A_static_property p)))))
named_thing ar at (Constant t p) = Good (A_value (constant_named at p t))
named_thing ar at (TypeName t) = Good (A_type t at)
named_thing ar at (ClassName p) = Good (A_type (Class p) at)
named_thing ar at (Subroutine c) = subroutine_thing ar at c (at_hand ar at) false
named_thing ar at (Itself c n) = of_result (variable_typed ar at (result_named n))
  where
    of_result : Option Typed → Checked Thing
    of_result None = subroutine_thing ar at c (at_hand ar at) false
    of_result (Some v) = Good (Its_result c (at_hand ar at) (as_result v v.target.begins) at)
named_thing ar at (ClockingBlock p ss) = Good (A_block p ss at)
named_thing ar at Other = broken_at 7 at

-- ---- members of objects and classes

-- a constant behind an object, which is not looked at; its calls run
abbrev pub after_object : Option Typed → Typed → Typed
after_object None t = t
after_object (Some o) t =
    record t { is_constant = t.is_constant && (length o.code.hidden == 0); code = mapped (λ e. t.code.value) o.code }

-- E36, E37, E39: a member, with its object where there is one; `super` and `::` name the method itself
abbrev pub member_thing : Around → Place → Option Typed → Bool → Named → Checked Thing
member_thing ar at o direct (Property k g n t) =
    may_be_named ar g k at ▷ (λ _. with_object at o (λ x. lasts ar at ▷ (λ _. Good (A_value (field_typed ar at k n t x)))))
member_thing ar at o direct (StaticProperty k g p t) =
    may_be_named ar g k at ▷ (λ _. lasts ar at ▷ (λ _.
    Good (A_value (through_reference (not_at_hand o) (object_typed ar at p t (A_static_property p))))))
member_thing ar at o direct (Subroutine c) = subroutine_thing ar at c o direct
member_thing ar at o direct (Constant t p) = Good (A_value (after_object o (constant_named at p t)))
member_thing ar at o direct n = broken_at 7 at

-- E36: a member that is not found can stand behind a base that breaks a rule
abbrev pub member_found : Place → Option Fault → Option (Checked Named) → Checked (Checked Named)
member_found at b (Some c) = Good c
member_found at (Some f) None = Broken f
member_found at None None = broken_at 36 at

-- a member by its name
abbrev pub member_named : Around → Path → Option Typed → Bool → Name → Checked Thing
member_named ar k o direct n =
    member_found n.at (broken_end (line_of ar.classes k)) (member_of ar k n.text)
    ▷ (λ c. told n c ▷ member_thing ar n.at o direct)

-- the object, where it is one of the class
abbrev pub object_of : Around → Place → Path → Option Typed
object_of ar at k = derived_class ar.class
  where
    derived_class : Option Path → Option Typed
    derived_class None = None
    derived_class (Some q) = if is_derived ar.classes q k then at_hand ar at else None

-- E7: the class before `::`
abbrev pub class_named : Place → Named → Checked Path
class_named at (ClassName p) = Good p
class_named at (TypeName (Class p)) = Good p
class_named at n = broken_at 7 at

-- E38: the base of the class around
abbrev pub base_of : Around → Place → Checked Path
base_of ar at = in_class ar.class
  where
    of_base : Option Path → Checked Path
    of_base None = broken_at 38 at
    of_base (Some p) = Good p

    of_info : Option ClassInfo → Checked Path
    of_info None = broken_at 38 at
    of_info (Some k) = of_base k.base

    in_class : Option Path → Checked Path
    in_class None = broken_at 38 at
    in_class (Some k) = of_info (class_in ar.classes k)

-- what a name begins with
abbrev pub root_thing : Around → Root → Checked Thing
root_thing ar (root.Plain n) = meaning ar n where_also kind_stands ar 7 n.at is_value_kind n.text ▷ named_thing ar n.at
root_thing ar (root.This at) = given A_value (this_typed ar at)
root_thing ar (root.Super at n) = base_of ar at ▷ (λ k. member_named ar k (at_hand ar at) true n)
root_thing ar (root.Scoped s n) =
    meaning ar s where_also kind_stands ar 7 s.at is_type_kind s.text ▷ class_named s.at
    ▷ (λ k. member_named ar k (object_of ar s.at k) true n)

-- ---- values

-- E47: a clocking signal that is read is its sample
abbrev pub signal_read : Around → Path → ℕ → SignalInfo → Place → Checked Typed
signal_read ar b i s at =
    if s.is_input then Good (object_typed ar at s.sample s.ty (A_signal b i s.is_output)) else broken_at 47 at

-- a call without brackets
abbrev pub bare_call : Around → Place → Checked Called → Checked Typed
bare_call ar pe c = given (as_value ar pe) c

-- E7: a function that is no method needs brackets
abbrev pub bare_subroutine : Around → Place → Callee → Option Typed → Bool → Place → Option Path → Checked Typed
bare_subroutine ar pe c o direct at None =
    if c.is_task || gives_nothing c.result then bare_call ar pe (subroutine_called ar pe true c o direct []) else broken_at 7 at
bare_subroutine ar pe c o direct at (Some k) = bare_call ar pe (subroutine_called ar pe true c o direct [])

-- E7, E51: the result variable of an automatic function is one of the activation
abbrev pub result_value : Around → Place → Typed → Begin → Checked Typed
result_value ar at v InActivation = if ar.is_initial then broken_at 7 at else lasts ar at ▷ (λ _. Good v)
result_value ar at v b = Good v

-- a thing as a value; the place is that of the expression
abbrev pub thing_value : Around → Place → Thing → Checked Typed
thing_value ar pe (A_value t) = Good t
thing_value ar pe (A_subroutine c o direct at) = bare_subroutine ar pe c o direct at c.class
thing_value ar pe (A_method m o at) = bare_call ar pe (method_called ar pe true m o [])
thing_value ar pe (Its_result c o v at) = result_value ar at v v.target.begins
thing_value ar pe (A_block p ss at) = broken_at 7 at
thing_value ar pe (The_signal b i s at) = signal_read ar b i s at
thing_value ar pe (A_type t at) = broken_at 7 at

-- ---- `.x`, `(..)`

-- E36: a member of an object, or a method of the language
abbrev pub value_member : Around → Name → Typed → Ty → Checked Thing
value_member ar n o (Class k) = member_named ar k (Some o) false n
value_member ar n o t = given (λ m. A_method m o n.at) (unless 36 n.at (method_of t n.text))

-- E36: a signal of a clocking block
abbrev pub signal_named : Path → Name → ℕ → List (Checked SignalInfo) → Checked Thing
signal_named p n i [] = broken_at 36 n.at
signal_named p n i (Broken f ∷ ss) = given_or_broken (signal_named p n (suc i) ss)
  where
    given_or_broken : Checked Thing → Checked Thing
    given_or_broken (Good t) = Good t
    given_or_broken (Broken g) = Broken f
signal_named p n i (Good s ∷ ss) =
    if same_bytes s.name.text n.text then Good (The_signal p i s n.at) else signal_named p n (suc i) ss

-- what follows a dot
abbrev pub after_dot : Around → Place → Name → Thing → Checked Thing
after_dot ar pe n (A_block p ss at) = signal_named p n 0 ss
after_dot ar pe n (A_type t at) = broken_at 7 at
after_dot ar pe n th = thing_value ar pe th ▷ (λ o. value_member ar n o o.ty)

-- the name that stands for it in a rule
abbrev pub thing_place : Thing → Place
thing_place (A_value t) = t.at
thing_place (A_subroutine c o d at) = at
thing_place (A_method m o at) = at
thing_place (Its_result c o v at) = at
thing_place (A_block p ss at) = at
thing_place (The_signal b i s at) = at
thing_place (A_type t at) = at

-- E7: no subroutine and no method
abbrev pub not_called : Place → List Arg → Checked Called
not_called at as' = broken_at 7 at where_also values_stand as'

-- what is called is a subroutine or a method
abbrev pub called_thing : Around → Place → (is_value : Bool) → Thing → List Arg → Checked Called
called_thing ar pe v (A_subroutine c o direct at) as' = subroutine_called ar pe v c o direct as'
called_thing ar pe v (A_method m o at) as' = method_called ar pe v m o as'
called_thing ar pe v (Its_result c o x at) as' = subroutine_called ar pe v c o false as'
called_thing ar pe v th as' = not_called (thing_place th) as'

-- what follows brackets
abbrev pub after_actuals : Around → Place → List Arg → Thing → Checked Thing
after_actuals ar pe as' th = given (λ c. A_value (as_value ar pe c)) (called_thing ar pe true th as')

-- what stands behind a name that breaks a rule can break a rule too
abbrev pub and_behind : {A : Type 0} → Checked A → Checked Thing → (Unit {0} → Checked (Unit {0})) → Checked A
and_behind r (Good t) behind = r
and_behind r (Broken f) behind = also_broken f (behind tt)

-- how many hidden variables an object takes
abbrev pub hidden_in_object : Option Typed → ℕ
hidden_in_object None = 0
hidden_in_object (Some o) = length o.code.hidden

-- how many hidden variables stand before the arguments of what is called
abbrev pub hidden_before : Checked Thing → ℕ
hidden_before (Good (A_value t)) = length t.code.hidden
hidden_before (Good (A_subroutine c o d at)) = hidden_in_object o
hidden_before (Good (A_method m o at)) = length o.code.hidden
hidden_before (Good (Its_result c o v at)) = hidden_in_object o
hidden_before th = 0

-- which arguments are taken as targets, from the first on
abbrev pub outputs_of_thing : Checked Thing → List Bool
outputs_of_thing (Good (A_subroutine c o d at)) = outputs_of c.formals
outputs_of_thing (Good (A_method m o at)) = outputs_of_action m.action
outputs_of_thing (Good (Its_result c o v at)) = outputs_of c.formals
outputs_of_thing th = []

-- ---- one more suffix, over its parts

-- a call of what stands before it
abbrev pub called_step : Around → Place → Checked Thing → List Arg → Checked Thing
called_step ar pe th as' = and_behind (th ▷ after_actuals ar pe as') th (λ _. values_stand as')

-- `[i]` of a value
abbrev pub value_selected : Around → (at : Place) → (pi : Place) → Checked Typed → Checked Typed → Checked Thing
value_selected ar at pi v i = given A_value (v ▷ (λ t. select_of ar at pi t i))

-- `[i]` behind what it selects from, as a thing and as a value
abbrev pub select_step : Around → (at : Place) → (pi : Place) → Checked Thing → Checked Typed → Checked Typed → Checked Thing
select_step ar at pi th v i = and_behind (value_selected ar at pi v i) th (λ _. only i)

-- whether two values break a rule, alone
abbrev pub both_stand : Checked Typed → Checked Typed → Checked (Unit {0})
both_stand a b = only (both a b)

-- `[l:r]`, `[b +: w]` or `[b -: w]` of a value
abbrev pub value_parted :
    PartWord → (at : Place) → Place → (pl : Place) → (pr : Place) → Checked Typed → Checked Typed → Checked Typed → Checked Thing
value_parted w at pe pl pr v l r = given A_value (v ▷ (λ t. part_select_of w at pe pl pr t l r))

-- the same behind what it selects from
abbrev pub part_step :
    PartWord → (at : Place) → Place → (pl : Place) → (pr : Place) → Checked Thing → Checked Typed → Checked Typed → Checked Typed
    → Checked Thing
part_step w at pe pl pr th v l r = and_behind (value_parted w at pe pl pr v l r) th (λ _. both_stand l r)

-- ---- `$`

-- the index of the last item
abbrev pub last_index : flat.Expr → flat.Expr
last_index q = flat.Binary bin.Sub (size_expr q) (flat.Literal (vector true (symbols_of 32 1 0)) None)

-- what `$` stands for in an index
abbrev pub dollar_in : Checked Thing → Dollar
dollar_in (Good (A_value t)) =
    if is_queue t.ty then LastIndex (last_index t.code.value) else NoDollar
dollar_in (Good th) = NoDollar
dollar_in (Broken f) = UnknownDollar f

-- ---- a thing as a target

-- a signal as a target
abbrev pub signal_target : Around → Path → ℕ → SignalInfo → Place → Typed
signal_target ar b i s at = object_typed ar at s.sample s.ty (A_signal b i s.is_output)

-- a target of one part
abbrev pub one_spot : Checked Spot → Checked (List Spot)
one_spot c = given (λ s. s ∷ []) c

-- E7, E18: a thing as a target
abbrev pub thing_target : Around → How → Place → Thing → Checked (List Spot)
thing_target ar h pe (A_value t) = one_spot (may_be_written h pe t)
thing_target ar h pe (Its_result c o v at) = one_spot (may_be_written h pe v)
thing_target ar h pe (The_signal b i s at) = one_spot (may_be_written h pe (signal_target ar b i s at))
thing_target ar h pe (A_method m o at) = broken_at 18 pe
thing_target ar h pe th = broken_at 7 (thing_place th)

-- Assignments, `new`, and the initializers of variables (IEEE 1800-2017, 6.21, 7.5, 8.7, 8.12, 10.4 and 10.5).
use Rattle.std.specs.Prelude.{Bool, true, false, List, [], ◌∷◌, Option, Some, None, if◌then◌else◌, codes, length, ◌+◌, ℕ}
use Rattle.sv_value.specs.declared.place.Place.{Place}
use Rattle.sv_value.specs.Vector.{vector, symbols_of}
use Rattle.sv_flat.specs.declared.stmt.Form.{Form}
use Rattle.sv_flat.specs.declared.stmt.Form.TheVariants as form
use Rattle.sv_flat.specs.declared.call.CallForm.{CallForm}
use Rattle.sv_flat.specs.declared.call.CallForm.TheVariants as call
use Rattle.sv_flat.specs.declared.call.Argument.{Argument}
use Rattle.sv_flat.specs.declared.target.Lvalue.{Lvalue}
use Rattle.sv_flat.specs.declared.target.Container.{Container}
use Rattle.sv_flat.specs.declared.object.Initial.{Initial}
use Rattle.sv_flat.specs.declared.object.Initial.TheVariants as initial
use Rattle.sv_flat.specs.Expr as flat
use Rattle.sv_tree.specs.declared.word.StepWord.{StepWord}
use Rattle.sv_tree.specs.declared.word.StepWord.TheVariants.{Increment, Decrement}
use Rattle.sv_tree.specs.declared.word.BinaryWord.{BinaryWord}
use Rattle.sv_tree.specs.declared.word.BinaryWord.TheVariants as binary
use Rattle.sv_tree.specs.declared.expr.Root.TheVariants as root
use Rattle.sv_tree.specs.Expr as tree
use Rattle.sv_tree.specs.Expr.{place_of, place_of_root}
use Rattle.sv_tree.specs.Stmt as tree_stmt
use Rattle.sv_tree.specs.Stmt.{Init, Delay, BlockingAssignment, NonblockingAssignment, OperatorAssignment}
use Rattle.sv_names.specs.declared.typed.How.{How}
use Rattle.sv_names.specs.declared.typed.How.TheVariants.{Statement as By_statement, Nonblocking, Drive}
use Rattle.sv_names.specs.declared.around.ClassInfo.{ClassInfo}
use Rattle.sv_names.specs.declared.checked.Checked.{Checked}
use Rattle.sv_names.specs.declared.checked.Checked.TheVariants.{Good, Broken}
use Rattle.sv_names.specs.declared.ty.Ty.{Ty}
use Rattle.sv_names.specs.declared.ty.Ty.TheVariants.{Class, Mailbox, MailboxOf, Semaphore}
use Rattle.sv_names.specs.declared.hoisted.Hoisted.{Hoisted}
use Rattle.sv_names.specs.declared.typed.Typed.{Typed}
use Rattle.sv_names.specs.declared.named.Named.{Named}
use Rattle.sv_names.specs.declared.named.Named.TheVariants.{Subroutine}
use Rattle.sv_names.specs.declared.typed.Begin.TheVariants.{Signal as A_signal, Value as A_value}
use Rattle.sv_names.specs.declared.typed.Begin.{Begin}
use Rattle.sv_names.specs.Checked.{both, ◌▷◌, given, broken_at, rule, fine, ◌where_also◌, only, also_broken}
use Rattle.sv_names.specs.Types.{Path, int_type, longint_type, is_container, is_fixed, is_sync, is_dynamic, same_type, item_of, data_of, plain_of}
use Rattle.sv_names.specs.Hoisted.{pure, mapped, paired, three, in_row, if_any, result_of}
use Rattle.sv_names.specs.Named.{Around, class_in, in_known, can_be_derived, in_turn, behind}
use Rattle.sv_names.specs.Values.{value_typed, assigned, exactly, alone}
use Rattle.sv_names.specs.Operators.{kind_of, binary_of, ticks_in, literal_typed}
use Rattle.sv_names.specs.Selects.{container_of}
use Rattle.sv_names.specs.Targets.{Spot, lvalues, type_of_target, read_of, beside, hidden_of_spots, hidden_in_target}
use Rattle.sv_names.specs.declared.argument.Arg.{Arg}
use Rattle.sv_names.specs.Arguments.{value_of_arg, values_stand}
use Rattle.sv_names.specs.Calls.{arguments, outputs_of, call_stands, wait_stands, may_be_named}
use Rattle.sv_names.specs.Expressions.{expr, actual_args, target, number_in}

-- ---- delays

-- E28: a timing control in an `always_ff` beside its first one
abbrev pub timing_stands : Around → Checked (Unit {0})
timing_stands ar = told ar.clocked
  where
    told : Option Place → Checked (Unit {0})
    told None = fine
    told (Some at) = broken_at 28 at

-- a delay, and whether it counts ticks, as a time literal that stands alone does
pub record Amount : Type 0 where
  pub amount : Hoisted flat.Expr
  pub in_ticks : Bool

-- the expression of an amount: brackets right behind the `#` are no part of it
abbrev pub amount_expr : tree.Expr → tree.Expr
amount_expr (tree.Group at e) = e
amount_expr e = e

-- a time literal alone counts ticks (3.14.1)
abbrev pub amount_of : Around → tree.Expr → Checked Amount
amount_of ar (tree.Time at text) =
    given (λ n. record { amount = pure (flat.Literal (vector false (symbols_of 64 n 0)) None); in_ticks = true })
    (ticks_in ar.scale at text)
amount_of ar e = given (λ t. record { amount = alone t; in_ticks = false }) (number_in ar (amount_expr e))

-- E27: a delay after the `=` stands where nothing may wait
abbrev pub delay_of : Around → Option Delay → Checked (Option Amount)
delay_of ar None = Good None
delay_of ar (Some d) = given Some (amount_of ar d.amount) where_also wait_stands ar d.at

-- E28: a delay after the `=` is a timing control
abbrev pub timed : Around → Option Delay → Checked (Unit {0})
timed ar None = fine
timed ar (Some d) = timing_stands ar

-- ---- an assignment of a value

-- an assignment, at once or after a delay (9.4.5)
abbrev pub assign_form : Option Amount → Hoisted (List Lvalue) → Hoisted flat.Expr → Hoisted Form
assign_form None ls e = paired form.Assign ls e
assign_form (Some d) ls e = three (λ x a v. form.AssignAfter x v a d.in_ticks) ls d.amount e

-- a container becomes a copy of another
abbrev pub copied_into : Typed → Hoisted flat.Expr → Hoisted Form
copied_into t e = paired (λ x y. form.CopyContainer (container_of x) (container_of y)) t.code e

-- E42: a container is not assigned after a delay
abbrev pub copy_form : Option Amount → Typed → Hoisted flat.Expr → Checked (Hoisted Form)
copy_form None t e = Good (copied_into t e)
copy_form (Some d) t e = broken_at 42 t.at

-- a value for a target: a container is copied, all else is written
abbrev pub given_to : Around → Option Amount → List Spot → Hoisted flat.Expr → Checked (Hoisted Form)
given_to ar d (s ∷ []) e =
    if is_container s.1.ty then copy_form d s.1 e else Good (assign_form d (lvalues ar (s ∷ [])) e)
given_to ar d ss e = Good (assign_form d (lvalues ar ss) e)

-- E16, E17: a value that is given to a target
abbrev pub value_given : Around → Option Amount → Place → List Spot → Typed → Checked (Hoisted Form)
value_given ar d pv ss t = assigned ar (type_of_target ss) pv t ▷ given_to ar d ss

-- ---- `new`

-- E42, E16: what `new` gives fits no such target
abbrev pub no_object : Place → List Spot → Checked (Hoisted flat.Expr)
no_object at (s ∷ []) = if is_fixed s.1.ty then broken_at 42 s.1.at else broken_at 16 at
no_object at ss = broken_at 16 at

-- the constructor that a class declares
abbrev pub constructor_in : ClassInfo → Option (Checked Named)
constructor_in k = in_known 0 0 (codes "new") k.scope.known

-- E31, E37: the arguments of a constructor
abbrev pub with_constructor : Around → Place → Path → List Arg → Option (Checked Named) → Checked (List (Hoisted Argument))
with_constructor ar at k as' (Some (Good (Subroutine c))) =
    arguments ar at c.formals as' where_also may_be_named ar c.protection k at
with_constructor ar at k as' (Some (Broken f)) = Broken f
with_constructor ar at k as' c = arguments ar at [] as'

-- which arguments of a constructor are taken as targets
abbrev pub outputs_of_constructor : Option (Checked Named) → List Bool
outputs_of_constructor (Some (Good (Subroutine c))) = outputs_of c.formals
outputs_of_constructor c = []

-- the same of the constructor of a class
abbrev pub outputs_of_class : Option ClassInfo → List Bool
outputs_of_class None = []
outputs_of_class (Some k) = outputs_of_constructor (constructor_in k)

-- the same of `new` for a target of a type
abbrev pub outputs_of_new : Around → Ty → List Bool
outputs_of_new ar (Class p) = outputs_of_class (class_in ar.classes p)
outputs_of_new ar t = []

-- E35: `new` of a virtual class (8.21)
abbrev pub constructed : Around → Place → Path → List Arg → Option ClassInfo → Checked (Hoisted CallForm)
constructed ar at p as' None = broken_at 7 at
constructed ar at p as' (Some k) =
    given (λ xs. mapped (call.New (ar.numbers.class p)) (in_row xs)) (with_constructor ar at p as' (constructor_in k))
    where_also rule 35 at k.is_virtual

-- E31: a mailbox takes at most a bound, a semaphore a number of keys; 0 where nothing is given
abbrev pub bound_given : Around → Place → List Arg → Checked (Hoisted flat.Expr)
bound_given ar at [] = Good (pure (flat.Literal (vector true (symbols_of 32 0 0)) None))
bound_given ar at (a ∷ []) = value_of_arg a ▷ exactly ar int_type a.at
bound_given ar at as' = broken_at 31 at where_also values_stand as'

-- what `new` makes for a target of a type, in a hidden variable
abbrev pub made : Around → Place → List Spot → List Arg → Ty → Checked (Hoisted flat.Expr)
made ar at ss as' (Class p) =
    given (result_of ar.first (data_of ar.numbers (Class p))) (constructed ar at p as' (class_in ar.classes p))
made ar at ss as' Mailbox =
    given (λ n. result_of ar.first (data_of ar.numbers Mailbox) (mapped call.NewMailbox n)) (bound_given ar at as')
made ar at ss as' (MailboxOf t) =
    given (λ n. result_of ar.first (data_of ar.numbers Mailbox) (mapped call.NewMailbox n)) (bound_given ar at as')
made ar at ss as' Semaphore =
    given (λ n. result_of ar.first (data_of ar.numbers Semaphore) (mapped call.NewSemaphore n)) (bound_given ar at as')
made ar at ss as' t = no_object at ss where_also values_stand as'

-- E24, E25: `new` is a call
abbrev pub new_given : Around → Option Amount → Place → List Spot → List Arg → Checked (Hoisted Form)
new_given ar d at ss as' =
    given (assign_form d (lvalues ar ss)) (made ar at ss as' (type_of_target ss)) where_also call_stands ar at

-- whether `new h` of the second class fits a variable of the first
abbrev pub copied : Around → Ty → Ty → Bool
copied ar (Class p) (Class q) = can_be_derived ar.classes q p
copied ar t u = false

-- E16: `new h` of a reference (8.12)
abbrev pub copy_given : Around → Option Amount → Place → List Spot → Typed → Checked (Hoisted Form)
copy_given ar d at ss t =
    (if copied ar (type_of_target ss) t.ty
    then Good (assign_form d (lvalues ar ss) (result_of ar.first (data_of ar.numbers t.ty) (mapped call.Copy t.code)))
    else given (assign_form d (lvalues ar ss)) (no_object at ss))
    where_also call_stands ar at

-- E16: the array that is copied has the type of the target
abbrev pub old_container : Ty → Place → Typed → Checked (Hoisted Container)
old_container t at old = if same_type t old.ty then Good (mapped container_of old.code) else broken_at 16 at

-- `new[n]` and `new[n](old)` (7.5.1): the target itself is changed
abbrev pub resized :
    Around → Option Amount → Place → Hoisted flat.Expr → Option (Hoisted Container) → List Spot → Checked (Hoisted Form)
resized ar None at n old (s ∷ []) =
    if is_dynamic s.1.ty
    then Good (three (λ q x y. form.Resize (container_of q) x y (plain_of ar.numbers (item_of s.1.ty)))
    s.1.code n (if_any old))
    else given (λ e. mapped (λ x. form.Null) e) (no_object at (s ∷ []))
resized ar (Some d) at n old (s ∷ []) =
    if is_dynamic s.1.ty then broken_at 42 s.1.at else given (λ e. mapped (λ x. form.Null) e) (no_object at (s ∷ []))
resized ar d at n old ss = broken_at 16 at

-- the array that is copied, if there is one
abbrev pub old_given : Around → Ty → Option tree.Expr → Checked (Option (Hoisted Container))
old_given ar t None = Good None
old_given ar t (Some e) = given Some (expr ar e ▷ old_container t (place_of e))

-- E24, E25: `new[n]` is a call
abbrev pub array_given : Around → Option Amount → Place → tree.Expr → Option tree.Expr → List Spot → Checked (Hoisted Form)
array_given ar d at n old ss =
    in_turn (expr ar n) (λ x k.
    both (x ▷ exactly ar longint_type (place_of n))
    (if is_dynamic (type_of_target ss) then old_given (behind k ar) (type_of_target ss) old else Good None)
    ▷ (λ p. resized ar d at p.0 p.1 ss))
    where_also call_stands ar at

-- ---- what is given to a target

-- what it breaks by itself
abbrev pub init_alone : Around → Init → Checked (Unit {0})
init_alone ar (tree_stmt.Value e) = only (expr ar e)
init_alone ar (tree_stmt.New at a) = values_stand (actual_args ar [] a)
init_alone ar (tree_stmt.Copy at n) = only (expr ar (tree.Post (root.Plain n) tree.NoSuffix))
init_alone ar (tree_stmt.Array at n None) = only (expr ar n)
init_alone ar (tree_stmt.Array at n (Some e)) = only (both (expr ar n) (expr ar e))

-- what is written behind the `=` of an assignment
abbrev pub init_given : Around → Option Amount → List Spot → Init → Checked (Hoisted Form)
init_given ar d ss (tree_stmt.Value e) = expr ar e ▷ value_given ar d (place_of e) ss
init_given ar d ss (tree_stmt.New at a) =
    new_given ar d at ss (actual_args ar (outputs_of_new ar (type_of_target ss)) a)
init_given ar d ss (tree_stmt.Copy at n) = expr ar (tree.Post (root.Plain n) tree.NoSuffix) ▷ copy_given ar d at ss
init_given ar d ss (tree_stmt.Array at n old) = array_given ar d at n old ss

-- E42: no whole container is written later
abbrev pub not_late : Option Amount → List Spot → Checked (Unit {0})
not_late (Some d) (s ∷ []) = rule 42 s.1.at (is_container s.1.ty)
not_late d ss = fine

-- how many hidden variables a delay takes
abbrev pub hidden_in_amount : Option Amount → ℕ
hidden_in_amount None = 0
hidden_in_amount (Some d) = length d.amount.hidden

-- a value behind a target and perhaps a delay
abbrev pub given_behind : Around → Checked (List Spot) → Checked (Option Amount) → Init → Checked (Hoisted Form)
given_behind ar (Good ss) (Good d) i =
    init_given (behind (hidden_of_spots ss + hidden_in_amount d) ar) d ss i where_also not_late d ss
given_behind ar t d i = given (λ p. pure form.Null) (both (both t d) (init_alone ar i))

-- a target, perhaps a delay, and a value
abbrev pub assignment : Around → Checked (List Spot) → Option Delay → Init → Checked (Hoisted Form)
assignment ar t d i = given_behind ar t (delay_of (behind (hidden_in_target t) ar) d) i

-- a blocking assignment (10.4.1)
abbrev pub blocking : Around → BlockingAssignment → Checked (Hoisted Form)
blocking ar a = assignment ar (target By_statement ar a.target) a.delay a.value

-- ---- nonblocking assignments and drives

-- a nonblocking assignment, with or without a delay
abbrev pub nonblocking_form : Option Amount → Hoisted (List Lvalue) → Hoisted flat.Expr → Hoisted Form
nonblocking_form None ls e = paired (λ x v. form.Nonblocking x v None false) ls e
nonblocking_form (Some d) ls e = three (λ x a v. form.Nonblocking x v (Some a) d.in_ticks) ls d.amount e

-- E16, E17: a value for a nonblocking target, or a drive
abbrev pub later_given : Around → Option Amount → Place → List Spot → Typed → Begin → Checked (Hoisted Form)
later_given ar d pv ss t (A_signal b i o) =
    given (mapped (form.Drive (ar.numbers.clocking b) i)) (exactly ar (type_of_target ss) pv t)
later_given ar d pv ss t b =
    given (nonblocking_form d (lvalues ar ss)) (assigned ar (type_of_target ss) pv t)

-- E42: no whole container is written later
abbrev pub no_container : Checked (List Spot) → Checked (Unit {0})
no_container (Good (s ∷ [])) = rule 42 s.1.at (is_container s.1.ty)
no_container c = fine

-- what a target of one part begins with
abbrev pub begin_of : List Spot → Begin
begin_of (s ∷ []) = s.1.target.begins
begin_of ss = A_value

-- whether a target is no concatenation
abbrev pub is_whole : tree.Lval → Bool
is_whole (tree.Lval.Post r s) = true
is_whole (tree.Lval.Join at ls) = false

-- a drive has no delay and no concatenation
abbrev pub no_parts : tree.Lval → Option Delay → How
no_parts l None = if is_whole l then Drive else Nonblocking
no_parts l (Some d) = Nonblocking

-- how many hidden variables a target and a delay take
abbrev pub hidden_before_value : Checked (List Spot) → Checked (Option Amount) → ℕ
hidden_before_value t (Good d) = hidden_in_target t + hidden_in_amount d
hidden_before_value t (Broken f) = hidden_in_target t

-- a value behind a nonblocking target and its delay
abbrev pub later_behind : Around → Checked (List Spot) → Checked (Option Amount) → tree.Expr → Checked (Hoisted Form)
later_behind ar t d e =
    (both (both t d) (expr (behind (hidden_before_value t d) ar) e)
    ▷ (λ p. later_given ar p.0.1 (place_of e) p.0.0 p.1 (begin_of p.0.0)))
    where_also no_container t

-- a delay and a value behind a nonblocking target
abbrev pub later_to : Around → Checked (List Spot) → Option Delay → tree.Expr → Checked (Hoisted Form)
later_to ar t d e = later_behind ar t (delay_of (behind (hidden_in_target t) ar) d) e

-- a nonblocking assignment (10.4.2), or a drive (14.16)
abbrev pub later : Around → NonblockingAssignment → Checked (Hoisted Form)
later ar a = later_to ar (target (no_parts a.target a.delay) ar a.target) a.delay a.value

-- ---- `a op= e`, `a++`

-- what stands in the target is read once with it
abbrev pub read_and_written : Around → Place → Place → BinaryWord → List Spot → Checked Typed → Checked (Hoisted Form)
read_and_written ar pl pv w ss v =
    binary_of ar (kind_of w) pl pl pv (Good (read_of pl ss)) v
    ▷ (λ t. given (λ e. beside (λ x ls. form.Assign ls x) e (lvalues ar ss)) (assigned ar (type_of_target ss) pv t))

-- the first token of a target
abbrev pub place_of_lval : tree.Lval → Place
place_of_lval (tree.Lval.Post r s) = place_of_root r
place_of_lval (tree.Lval.Join at ls) = at

-- an assignment with an operator; its value breaks rules beside its target
abbrev pub updated : Around → tree.Lval → BinaryWord → Place → (Around → Checked Typed) → Checked (Hoisted Form)
updated ar l w pv v = after (target By_statement ar l)
  where
    after : Checked (List Spot) → Checked (Hoisted Form)
    after (Good ss) = read_and_written ar (place_of_lval l) pv w ss (v (behind (hidden_of_spots ss) ar))
    after (Broken f) = also_broken f (only (v ar))

-- `a op= e` (11.4.1)
abbrev pub operated : Around → OperatorAssignment → Checked (Hoisted Form)
operated ar a = updated ar a.target a.word (place_of a.value) (λ i. expr i a.value)

-- the operator of `++` and `--`
abbrev pub step_word : StepWord → BinaryWord
step_word Increment = binary.Plus
step_word Decrement = binary.Minus

-- `a++` adds 1 of type int (11.4.2)
abbrev pub stepped : Around → tree.Lval → StepWord → Checked (Hoisted Form)
stepped ar l w =
    updated ar l (step_word w) (place_of_lval l) (λ i. Good (literal_typed (place_of_lval l) (codes "1")))

-- ---- static initializers

-- no object is at hand, and no call stands in it (E25)
abbrev pub at_opening : Around → Around
at_opening ar = record ar { is_initial = true; call_rule = Some 25; has_object = false }

-- the first token of what initializes
abbrev pub place_of_init : Init → Place
place_of_init (tree_stmt.Value e) = place_of e
place_of_init (tree_stmt.New at a) = at
place_of_init (tree_stmt.Copy at n) = at
place_of_init (tree_stmt.Array at e o) = at

-- a container is copied at the opening
abbrev pub initial_value : Ty → Hoisted flat.Expr → Initial
initial_value t e = if is_container t then initial.Copy (container_of e.value) else initial.Value e.value

-- a semaphore or a mailbox of its own
abbrev pub sync_initial : Ty → flat.Expr → Initial
sync_initial Semaphore e = initial.Semaphore e
sync_initial t e = initial.Mailbox e

-- what is given an initial value, as a target
abbrev pub at_name : Place → Ty → List Spot
at_name at t = (at, value_typed t at false (pure (flat.Handle None))) ∷ []

-- E25: only a mailbox or a semaphore is made at the opening
abbrev pub new_at_opening : Around → Place → Ty → Place → List Arg → Checked Initial
new_at_opening ar pn t at as' =
    if is_sync t then given (λ e. sync_initial t e.value) (bound_given ar at as')
    else broken_at 25 at where_also only (made ar at (at_name pn t) as' t)

-- E42: no fixed array has an initializer
abbrev pub initial_given : Around → Place → Ty → Init → Checked Initial
initial_given ar at t (tree_stmt.Value e) =
    if is_fixed t then broken_at 42 at where_also only (expr ar e)
    else given (initial_value t) (expr ar e ▷ assigned ar t (place_of e))
initial_given ar at t (tree_stmt.New p a) = new_at_opening ar at t p (actual_args ar (outputs_of_new ar t) a)
initial_given ar at t i = broken_at 25 (place_of_init i) where_also only (init_given ar None (at_name at t) i)

-- E25: `new[n]` and `new h` are made at no opening, whatever the type
abbrev pub not_at_opening : Init → Checked (Unit {0})
not_at_opening (tree_stmt.Copy at n) = broken_at 25 at
not_at_opening (tree_stmt.Array at n old) = broken_at 25 at
not_at_opening i = fine

-- the initializer of a static variable; it breaks rules beside its type
abbrev pub initial_of : Around → Place → Checked Ty → Option Init → Checked (Option Initial)
initial_of ar at t None = given (λ x. None) t
initial_of ar at (Good t) (Some i) = given Some (initial_given (at_opening ar) at t i)
initial_of ar at (Broken f) (Some i) = also_broken f (init_alone (at_opening ar) i where_also not_at_opening i)

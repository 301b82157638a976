-- Expressions and targets over what their names stand for (IEEE 1800-2017, 11): the table of all forms.
use Rattle.std.specs.Prelude.{ℕ, Bool, true, false, not, ◌||◌, List, [], ◌∷◌, ◌++◌, Option, Some, None, if◌then◌else◌, codes, pos, option_map}
use Rattle.sv_value.specs.declared.place.Place.{Place}
use Rattle.sv_value.specs.Vector.{vector, symbols_of}
use Rattle.sv_flat.specs.declared.target.Part.{Part}
use Rattle.sv_flat.specs.Expr as flat
use Rattle.sv_tree.specs.declared.word.Name.{Name}
use Rattle.sv_tree.specs.declared.word.PartWord.{PartWord}
use Rattle.sv_tree.specs.declared.expr.Root.TheVariants as root
use Rattle.sv_tree.specs.declared.expr.CastType.{CastType}
use Rattle.sv_tree.specs.declared.expr.CastType.TheVariants as cast
use Rattle.sv_tree.specs.Expr as tree
use Rattle.sv_tree.specs.Expr.{place_of, place_of_root, place_of_cast}
use Rattle.sv_names.specs.declared.argument.Arg.{Arg}
use Rattle.sv_names.specs.declared.argument.Taken.{Taken}
use Rattle.sv_names.specs.declared.argument.Taken.TheVariants.{Value, Target}
use Rattle.sv_names.specs.declared.typed.How.{How}
use Rattle.sv_names.specs.declared.typed.How.TheVariants.{Statement as By_statement}
use Rattle.sv_names.specs.declared.around.Dollar.{Dollar}
use Rattle.sv_names.specs.declared.around.Dollar.TheVariants.{NoDollar, UnknownDollar, LastIndex}
use Rattle.sv_names.specs.declared.checked.Fault.{Fault}
use Rattle.sv_names.specs.declared.checked.Checked.{Checked}
use Rattle.sv_names.specs.declared.checked.Checked.TheVariants.{Good, Broken}
use Rattle.sv_names.specs.declared.system.System.{System}
use Rattle.sv_names.specs.declared.system.System.TheVariants as system
use Rattle.sv_names.specs.declared.ty.Ty.{Ty}
use Rattle.sv_names.specs.declared.ty.Ty.TheVariants.{Vector as Bit_vector, Text, Event, Class, Semaphore, Mailbox, Null, Nothing}
use Rattle.sv_names.specs.declared.typed.Typed.{Typed}
use Rattle.sv_names.specs.declared.named.Named.{Named}
use Rattle.sv_names.specs.declared.named.Named.TheVariants.{TypeName, ClassName}
use Rattle.sv_names.specs.Literals.{text_of}
use Rattle.sv_names.specs.Checked.{both, ◌▷◌, given, broken_at, fine, ◌where_also◌, only, also_broken}
use Rattle.sv_names.specs.Types.{is_integral, is_container, selectable, plain_vector, int_type, width_of_type, is_four_state, integral, same_bytes, whole}
use Rattle.sv_names.specs.Hoisted.{pure, mapped}
use Rattle.sv_names.specs.Named.{Around, meaning, found, names_type, told_at, in_turn, behind, hidden_in}
use Rattle.sv_names.specs.Values.{value_typed, number_operand, constant_count}
use Rattle.sv_names.specs.Operators.{Placed, literal_typed, ticks_in, time_typed, unary_typed, kind_of, decides_early, binary_of, choose_of, join_of, repeat_of, cast_to, sized, vector_word_four_state, atom_type}
use Rattle.sv_names.specs.Targets.{Spot, concatenated, may_begin, selects_stand, hidden_in_target}
use Rattle.sv_names.specs.Arguments.{value_of_arg, values_stand, parts_of}
use Rattle.sv_names.specs.Formats.{sformatf}
use Rattle.sv_names.specs.declared.method.Called.{Called}
use Rattle.sv_names.specs.Calls.{as_value, cast_called}
use Rattle.sv_names.specs.Things.{Thing, A_value, A_subroutine, A_method, Its_result, The_signal, signal_target, root_thing, named_thing, thing_value, after_dot, and_behind, dollar_in, thing_target, called_thing, hidden_before, outputs_of_thing, called_step, select_step, part_step}

-- ---- system names

-- each with what it is: functions
abbrev pub system_functions : List (List ℕ × System)
system_functions =
    (codes "$time", system.Time) ∷ (codes "$cast", system.Cast) ∷ (codes "$bits", system.Bits) ∷ (codes "$clog2", system.Clog2)
    ∷ (codes "$signed", system.Signed) ∷ (codes "$unsigned", system.Unsigned) ∷ (codes "$sformatf", system.Sformatf) ∷ []

-- tasks, and the functions behind them
abbrev pub system_names : List (List ℕ × System)
system_names =
    (codes "$display", system.Display) ∷ (codes "$write", system.Write) ∷ (codes "$strobe", system.Strobe)
    ∷ (codes "$monitor", system.Monitor) ∷ (codes "$finish", system.Finish) ∷ (codes "$exit", system.Exit)
    ∷ (codes "$dumpfile", system.Dump) ∷ (codes "$dumpvars", system.Dump) ∷ system_functions

-- what a name is in a table
abbrev pub system_in : List ℕ → List (List ℕ × System) → System
system_in x [] = system.Unknown
system_in x (e ∷ es) = if same_bytes x e.0 then e.1 else system_in x es

-- what a system name is
abbrev pub system_of : Name → System
system_of n = system_in n.text system_names

-- E31: exactly one argument
abbrev pub one_of : Place → List Arg → Checked Arg
one_of at (a ∷ []) = Good a
one_of at as' = broken_at 31 at where_also values_stand as'

-- E15, E42: the number that an argument is
abbrev pub number_of_arg : Arg → Checked Typed
number_of_arg a = value_of_arg a ▷ number_operand a.at

-- the number that the only argument is
abbrev pub number_of_one : Place → List Arg → Checked Typed
number_of_one at as' = one_of at as' ▷ number_of_arg

-- a number of bits, of type int
abbrev pub bits_literal : ℕ → flat.Expr
bits_literal w = flat.Literal (vector true (symbols_of 32 w 0)) None

-- whether calls stand in an expression
abbrev pub has_calls : Typed → Bool
has_calls t = some t.code.hidden
  where
    some : {A : Type 0} → List A → Bool
    some [] = false
    some (x ∷ xs) = true

-- `$bits` of an expression is constant where no call stands in it
abbrev pub bits_of_value : Place → Typed → Typed
bits_of_value at t = value_typed int_type at (not (has_calls t)) (mapped (λ e. bits_literal (width_of_type t.ty)) t.code)

-- E15: `$bits` of a type, which is integral
abbrev pub bits_of_type : Place → Place → Ty → Checked Typed
bits_of_type at pa t =
    if is_integral t then Good (value_typed int_type at true (pure (bits_literal (width_of_type t)))) else broken_at 15 pa

-- the type that an expression names
abbrev pub type_in : Around → tree.Expr → Option (Checked Ty)
type_in ar (tree.Post (root.Plain n) tree.NoSuffix) = of_name (found ar n.text)
  where
    of_name : Option (Checked Named) → Option (Checked Ty)
    of_name (Some (Good (TypeName t))) = Some (Good t)
    of_name (Some (Good (ClassName p))) = Some (broken_at 15 n.at)
    of_name (Some (Broken f)) = if names_type ar n.text then Some (told_at n f ▷ (λ x. broken_at 7 n.at)) else None
    of_name m = None
type_in ar e = None

-- `$bits` of a type or of an expression (20.6.2)
abbrev pub bits_of : Place → Option (Checked Ty) → List Arg → Checked Typed
bits_of at None as' = given (bits_of_value at) (number_of_one at as')
bits_of at (Some c) as' = one_of at as' ▷ (λ a. c ▷ bits_of_type at a.at)

-- `$signed` and `$unsigned` change no bit (11.7)
abbrev pub signed_as : Place → Bool → Typed → Typed
signed_as at s t =
    value_typed (plain_vector (width_of_type t.ty) s (is_four_state t.ty)) at t.is_constant
    (mapped (flat.Convert (integral (width_of_type t.ty) s true)) t.code)

-- `$clog2` (20.8.1)
abbrev pub logarithm : Place → Typed → Typed
logarithm at t = value_typed (selectable 32 true true) at t.is_constant (mapped flat.Log2 t.code)

-- E31: nothing between the brackets
abbrev pub none_of : Place → List Arg → Checked (Unit {0})
none_of at [] = fine
none_of at (a ∷ as') = broken_at 31 at where_also values_stand (a ∷ as')

-- `$time` (20.3.1)
abbrev pub time_now : Place → Typed
time_now at = value_typed (selectable 64 false true) at false (pure (flat.Time at))

-- E55: there is no such function
abbrev pub unknown_system : Place → List Arg → Checked Typed
unknown_system at as' = broken_at 55 at where_also values_stand as'

-- E32: a system task is no value
abbrev pub system_value : Around → Place → Option (Checked Ty) → List Arg → System → Checked Typed
system_value ar at t as' system.Time = none_of at as' ▷ (λ _. Good (time_now at))
system_value ar at t as' system.Bits = bits_of at t as'
system_value ar at t as' system.Clog2 = given (logarithm at) (number_of_one at as')
system_value ar at t as' system.Signed = given (signed_as at true) (number_of_one at as')
system_value ar at t as' system.Unsigned = given (signed_as at false) (number_of_one at as')
system_value ar at t as' system.Sformatf = sformatf at as'
system_value ar at t as' system.Cast = given (as_value ar at) (cast_called ar true at as')
system_value ar at t as' system.Unknown = unknown_system at as'
system_value ar at t as' task = broken_at 32 at

-- `$cast` of two arguments takes the first one as a target
abbrev pub outputs_of_system : System → tree.Actuals → List Bool
outputs_of_system system.Cast (tree.Written (tree.AndExpr a (tree.AndExpr b tree.NoExpr))) = true ∷ []
outputs_of_system s a = []

-- the type that the first argument names
abbrev pub first_type : Around → tree.Actuals → Option (Checked Ty)
first_type ar (tree.Written (tree.AndExpr e es)) = type_in ar e
first_type ar a = None

-- ---- casts

-- a cast to a named type, or to a constant width
abbrev pub cast_by_name : Around → Place → Place → Place → Named → Checked Typed → Checked Typed
cast_by_name ar pe pn at (TypeName t) e = e ▷ cast_to ar t pe at
cast_by_name ar pe pn at (ClassName k) e = e ▷ cast_to ar (Class k) pe at
cast_by_name ar pe pn at n e =
    both (named_thing ar pn n ▷ thing_value ar pn ▷ constant_count pn) e ▷ (λ p. sized pe at p.0 p.1)

-- a name that breaks a rule hides nothing of what stands behind it
abbrev pub named_cast : Around → Place → Place → Place → Checked Named → Checked Typed → Checked Typed
named_cast ar pe pn at (Good m) e = cast_by_name ar pe pn at m e
named_cast ar pe pn at (Broken f) e = also_broken f (only e)

-- a cast by what it is to
abbrev pub cast_of : Around → CastType → Place → Place → Checked Typed → Checked Typed
cast_of ar (cast.Vector p w) pe at e = e ▷ cast_to ar (plain_vector 1 false (vector_word_four_state w)) pe at
cast_of ar (cast.Atom p w) pe at e = e ▷ cast_to ar (Bit_vector (atom_type w) (whole (atom_type w).width) false) pe at
cast_of ar (cast.Text p) pe at e = e ▷ cast_to ar Text pe at
cast_of ar (cast.Event p) pe at e = e ▷ cast_to ar Event pe at
cast_of ar (cast.Semaphore p) pe at e = e ▷ cast_to ar Semaphore pe at
cast_of ar (cast.Mailbox p) pe at e = e ▷ cast_to ar Mailbox pe at
cast_of ar (cast.Named n) pe at e = named_cast ar pe n.at at (meaning ar n) e
cast_of ar (cast.Width p text) pe at e = both (constant_count p (literal_typed p text)) e ▷ (λ q. sized pe at q.0 q.1)

-- what a thing is as a target
abbrev pub as_target : Around → Checked Thing → Option Typed
as_target ar (Good (A_value t)) = Some t
as_target ar (Good (Its_result c o v at)) = Some v
as_target ar (Good (The_signal b i s at)) = Some (signal_target ar b i s at)
as_target ar th = None

-- an item or a part of it, whichever
abbrev pub as_selected : Typed → Typed
as_selected t = record t { target = record t.target { is_item = t.target.is_item || is_container t.ty; part = Some some_bit } }
  where
    some_bit : Part
    some_bit = record { width = 1; offset = pos 0; is_falling = false; index = flat.Handle None }

-- whether it can be called
abbrev pub is_callable : Checked Thing → Bool
is_callable (Good (A_subroutine c o direct at)) = true
is_callable (Good (A_method m o at)) = true
is_callable (Good (Its_result c o v at)) = true
is_callable th = false

-- what a call gives, which is no target
abbrev pub as_called : Place → Checked Thing → tree.Suffixes → Option Typed
as_called pe th tree.NoSuffix =
    if is_callable th then Some (value_typed Nothing pe false (pure (flat.Handle None))) else None
as_called pe th s = None

-- E11, E18, E19, E21, E26, E47: the rules on a broken target that need its name alone
abbrev pub also_before : How → Place → Fault → Option Typed → Checked (List Spot)
also_before h at f None = Broken f
also_before h at f (Some t) =
    also_broken f (may_begin h at t t.target.begins where_also selects_stand h t.target.moving)

-- a target, or the rules that it breaks
abbrev pub or_before : How → Place → Checked (List Spot) → (Unit {0} → Option Typed) → Checked (List Spot)
or_before h at (Good ss) before = Good ss
or_before h at (Broken f) before = also_before h at f (before tt)

-- what stands before a part that breaks a rule
abbrev pub if_broken : Option Typed → Checked Thing → (Checked Thing → Option Typed) → Option Typed
if_broken (Some t) (Broken f) go = Some t
if_broken before next go = go next

-- ---- the table

-- E24: no call stands where it may not be evaluated
abbrev pub without_calls : Around → Around
without_calls ar = record ar { call_rule = Some 24 }

-- where `$` stands for this
abbrev pub with_dollar : Dollar → Around → Around
with_dollar d ar = record ar { dollar = d }

-- in an index, behind what is indexed
abbrev pub in_index : Checked Thing → Checked Typed → Around → Around
in_index th v ar = behind (hidden_in v) (with_dollar (dollar_in th) ar)

-- E7: `$` stands in the index of a queue
abbrev pub dollar_typed : Place → Dollar → Checked Typed
dollar_typed at NoDollar = broken_at 7 at
dollar_typed at (UnknownDollar f) = Broken f
dollar_typed at (LastIndex e) = Good (value_typed int_type at false (pure e))

-- E38: `super.new` stands only as the first statement of a constructor
abbrev pub no_constructor : Place → Checked (List Placed) → Checked Typed
no_constructor at parts = both (broken_at 38 at) parts ▷ (λ p. p.0)

-- a string literal
abbrev pub literal_text : tree.Expr → Option (List ℕ)
literal_text (tree.Text at text) = Some (text_of text)
literal_text e = None

-- the parts of a concatenation, if all can be targets
abbrev pub more_spots : Option (Checked (List Spot)) → Option (Checked (List Spot)) → Option (Checked (List Spot))
more_spots (Some a) (Some b) = Some (given (λ p. p.0 ++ p.1) (both a b))
more_spots a b = None

-- how many hidden variables a target takes
abbrev pub hidden_in_spots : Option (Checked (List Spot)) → ℕ
hidden_in_spots None = 0
hidden_in_spots (Some c) = hidden_in_target c

-- all parts, if all can be targets
abbrev pub all_spots : List (Option (Checked (List Spot))) → Option (Checked (List Spot))
all_spots [] = Some (Good [])
all_spots (a ∷ as') = more_spots a (all_spots as')

-- a part, and those that stand behind it
abbrev pub spots_in_turn :
    Option (Checked (List Spot)) → (ℕ → List (Option (Checked (List Spot)))) → List (Option (Checked (List Spot)))
spots_in_turn a go = a ∷ go (hidden_in_spots a)

-- how many hidden variables an argument takes
abbrev pub hidden_in_arg : Taken → ℕ
hidden_in_arg (Value c) = hidden_in c
hidden_in_arg (Target c) = hidden_in_target c

-- an argument, and those that stand behind it
abbrev pub args_in_turn : Place → Option (List ℕ) → Taken → (ℕ → List Arg) → List Arg
args_in_turn at text a go = record { at = at; text = text; taken = a } ∷ go (hidden_in_arg a)

-- an argument that is taken as a target, where it can be one
abbrev pub as_output : Option (Checked (List Spot)) → (Unit {0} → Checked Typed) → Taken
as_output None value = Value (value tt)
as_output (Some c) value = Target c

-- an argument as a target, or as a value
abbrev pub taken : (is_output : Bool) → (Unit {0} → Option (Checked (List Spot))) → (Unit {0} → Checked Typed) → Taken
taken true target value = as_output (target tt) value
taken false target value = Value (value tt)

-- whether the first argument is taken as a target; those behind the list are not
abbrev pub first_output : List Bool → Bool
first_output [] = false
first_output (o ∷ os) = o

-- the same of the arguments behind it
abbrev pub more_outputs : List Bool → List Bool
more_outputs [] = []
more_outputs (o ∷ os) = os

-- a concatenation as a target
abbrev pub as_concatenation : Place → Option (Checked (List Spot)) → Option (Checked (List Spot))
as_concatenation at None = None
as_concatenation at (Some c) = Some (c ▷ concatenated at)

abbrev mutual
  -- an expression, with its type
  pub expr : Around → tree.Expr → Checked Typed
  expr ar (tree.Number at text) = Good (literal_typed at text)
  expr ar (tree.Time at text) = given (time_typed ar.scale at) (ticks_in ar.scale at text)
  expr ar (tree.Text at text) = Good (value_typed Text at true (pure (flat.Text (text_of text))))
  expr ar (tree.Null at) = Good (value_typed Null at true (pure (flat.Handle None)))
  expr ar (tree.Dollar at) = dollar_typed at ar.dollar
  expr ar (tree.Group at e) = expr ar e
  expr ar (tree.Post r s) = things ar (place_of_root r) (root_thing ar r) s ▷ thing_value ar (place_of_root r)
  expr ar (tree.System n a) =
      system_value ar n.at (first_type ar a) (actual_args ar (outputs_of_system (system_of n) a) a) (system_of n)
  expr ar (tree.SuperNew at new a) = no_constructor at (parts_of (actual_args ar [] a))
  expr ar (tree.Join at es) = parts_of (args ar [] es) ▷ join_of at
  expr ar (tree.Repeat at n inner es) =
      repeat_of at (expr ar n ▷ constant_count (place_of n)) (parts_of (args ar [] es) ▷ join_of inner)
  expr ar (tree.Cast c e) = cast_of ar c (place_of_cast c) (place_of e) (expr ar e)
  expr ar (tree.Unary at op e) = given (unary_typed at op) (expr ar e ▷ number_operand (place_of e))
  expr ar (tree.Binary op at a b) =
      in_turn (expr ar a) (λ x n.
      binary_of ar (kind_of op) at (place_of a) (place_of b) x
      (expr (behind n (if decides_early op then without_calls ar else ar)) b))
  expr ar (tree.Choose c a b) =
      in_turn (expr ar c) (λ x n. in_turn (expr (behind n (without_calls ar)) a) (λ y m.
      choose_of ar (place_of c) (place_of a) (place_of b) x y (expr (behind m (behind n (without_calls ar))) b)))

  -- the arguments of a call, each behind those before it; `os` tells from the first on which are taken as targets
  pub args : Around → (os : List Bool) → tree.Exprs → List Arg
  args ar os tree.NoExpr = []
  args ar os (tree.AndExpr e es) =
      args_in_turn (place_of e) (literal_text e) (taken (first_output os) (λ _. target_in By_statement ar e) (λ _. expr ar e))
      (λ n. args (behind n ar) (more_outputs os) es)

  -- the same, where brackets are written
  pub actual_args : Around → (os : List Bool) → tree.Actuals → List Arg
  actual_args ar os tree.Unwritten = []
  actual_args ar os (tree.Written es) = args ar os es

  -- what follows a name, from the left; the place is that of the expression
  pub things : Around → Place → Checked Thing → tree.Suffixes → Checked Thing
  things ar pe th tree.NoSuffix = th
  things ar pe th (tree.Member n rest) = things ar pe (th ▷ after_dot ar pe n) rest
  things ar pe th (tree.Call at es rest) =
      things ar pe (called_step ar pe th (args (behind (hidden_before th) ar) (outputs_of_thing th) es)) rest
  things ar pe th (tree.Select at i rest) =
      things ar pe
      (select_step ar at (place_of i) th (th ▷ thing_value ar pe) (expr (in_index th (th ▷ thing_value ar pe) ar) i))
      rest
  things ar pe th (tree.Part at w l r rest) =
      things ar pe
      (part_step w at pe (place_of l) (place_of r) th (th ▷ thing_value ar pe)
      (expr (in_index th (th ▷ thing_value ar pe) ar) l) (expr (in_index th (th ▷ thing_value ar pe) ar) r))
      rest

  -- a target as far as it breaks no rule: before its first broken select, or whole
  pub before_select : Around → Place → Checked Thing → tree.Suffixes → Option Typed
  before_select ar pe th tree.NoSuffix = as_target ar th
  before_select ar pe th (tree.Member n rest) = before_select ar pe (th ▷ after_dot ar pe n) rest
  before_select ar pe th (tree.Call at es rest) =
      if_broken (as_called pe th rest)
      (called_step ar pe th (args (behind (hidden_before th) ar) (outputs_of_thing th) es))
      (λ next. before_select ar pe next rest)
  before_select ar pe th (tree.Select at i rest) =
      if_broken (option_map as_selected (as_target ar th))
      (select_step ar at (place_of i) th (th ▷ thing_value ar pe) (expr (in_index th (th ▷ thing_value ar pe) ar) i))
      (λ next. before_select ar pe next rest)
  before_select ar pe th (tree.Part at w l r rest) =
      if_broken (option_map as_selected (as_target ar th))
      (part_step w at pe (place_of l) (place_of r) th (th ▷ thing_value ar pe)
      (expr (in_index th (th ▷ thing_value ar pe) ar) l) (expr (in_index th (th ▷ thing_value ar pe) ar) r))
      (λ next. before_select ar pe next rest)

  -- an expression as a target; None where it can be none
  pub target_in : How → Around → tree.Expr → Option (Checked (List Spot))
  target_in h ar (tree.Post r s) =
      Some (or_before h (place_of_root r)
      (things ar (place_of_root r) (root_thing ar r) s ▷ thing_target ar h (place_of_root r))
      (λ _. before_select ar (place_of_root r) (root_thing ar r) s))
  target_in h ar (tree.Join at es) = as_concatenation at (all_spots (targets_in h ar es))
  target_in h ar e = None

  -- the parts of a concatenation as targets, each behind those before it
  pub targets_in : How → Around → tree.Exprs → List (Option (Checked (List Spot)))
  targets_in h ar tree.NoExpr = []
  targets_in h ar (tree.AndExpr e es) = spots_in_turn (target_in h ar e) (λ n. targets_in h (behind n ar) es)

-- ---- one more suffix behind a thing

-- `(..)`
abbrev pub called_with : Around → Place → Checked Thing → tree.Exprs → Checked Thing
called_with ar pe th es = called_step ar pe th (args (behind (hidden_before th) ar) (outputs_of_thing th) es)

-- `[i]`
abbrev pub selected_by : Around → Place → Checked Thing → Place → tree.Expr → Checked Thing
selected_by ar pe th at i =
    select_step ar at (place_of i) th (th ▷ thing_value ar pe) (expr (in_index th (th ▷ thing_value ar pe) ar) i)

-- `[l:r]`, `[b +: w]`, `[b -: w]`
abbrev pub part_by : Around → Place → Checked Thing → Place → PartWord → tree.Expr → tree.Expr → Checked Thing
part_by ar pe th at w l r =
    part_step w at pe (place_of l) (place_of r) th (th ▷ thing_value ar pe)
    (expr (in_index th (th ▷ thing_value ar pe) ar) l) (expr (in_index th (th ▷ thing_value ar pe) ar) r)

-- ---- targets as they are written

abbrev mutual
  -- a target as an expression
  pub as_expr : tree.Lval → tree.Expr
  as_expr (tree.Lval.Post r s) = tree.Post r s
  as_expr (tree.Lval.Join at ls) = tree.Join at (as_exprs ls)

  -- the parts of a concatenation as expressions
  pub as_exprs : tree.Lvals → tree.Exprs
  as_exprs tree.NoLval = tree.NoExpr
  as_exprs (tree.AndLval l ls) = tree.AndExpr (as_expr l) (as_exprs ls)

-- E18: a target as it is written
abbrev pub target : How → Around → tree.Lval → Checked (List Spot)
target h ar l = there (target_in h ar (as_expr l))
  where
    there : Option (Checked (List Spot)) → Checked (List Spot)
    there None = broken_at 18 (place_of (as_expr l))
    there (Some c) = c

-- ---- conditions, counts and delays

-- E15, E42: one number
abbrev pub number_in : Around → tree.Expr → Checked Typed
number_in ar e = expr ar e ▷ number_operand (place_of e)

-- ---- a call that stands as a statement

-- E7: what is called is a subroutine or a method
abbrev pub called_bare : Around → Place → (is_value : Bool) → Thing → Checked Called
called_bare ar pe v (Its_result c o x at) = broken_at 7 at
called_bare ar pe v th = called_thing ar pe v th []

-- a call behind what is called
abbrev pub last_call : Around → Place → (is_value : Bool) → Checked Thing → List Arg → Checked Called
last_call ar pe v th as' = and_behind (th ▷ (λ t. called_thing ar pe v t as')) th (λ _. values_stand as')

-- what a call that stands as a statement calls
abbrev pub called_in : Around → Place → (is_value : Bool) → Checked Thing → tree.Suffixes → Checked Called
called_in ar pe v th tree.NoSuffix = th ▷ called_bare ar pe v
called_in ar pe v th (tree.Call at es tree.NoSuffix) =
    last_call ar pe v th (args (behind (hidden_before th) ar) (outputs_of_thing th) es)
called_in ar pe v th (tree.Call at es rest) = called_in ar pe v (called_with ar pe th es) rest
called_in ar pe v th (tree.Member n rest) = called_in ar pe v (th ▷ after_dot ar pe n) rest
called_in ar pe v th (tree.Select at i rest) = called_in ar pe v (selected_by ar pe th at i) rest
called_in ar pe v th (tree.Part at w l r rest) = called_in ar pe v (part_by ar pe th at w l r) rest

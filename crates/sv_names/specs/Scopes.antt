-- Scopes that are settled, the heads of subroutines, and the signals of clocking blocks (IEEE 1800-2017, 13, 14.3 and 23.9).
use Rattle.std.specs.Prelude.{ℕ, Bool, true, false, ◌&&◌, ◌||◌, List, [], ◌∷◌, ◌++◌, Option, Some, None, if◌then◌else◌, ◌==◌, map, flat_map, option_map}
use Rattle.sv_tree.specs.declared.word.Name.{Name}
use Rattle.sv_tree.specs.declared.word.Direction.{Direction}
use Rattle.sv_tree.specs.declared.word.Direction.TheVariants as direction
use Rattle.sv_tree.specs.Expr as tree
use Rattle.sv_tree.specs.Expr.{place_of}
use Rattle.sv_tree.specs.Units as tree_unit
use Rattle.sv_tree.specs.Units.{Head, Method, Sided}
use Rattle.sv_names.specs.declared.around.ClassInfo.{ClassInfo}
use Rattle.sv_names.specs.declared.checked.Checked.{Checked}
use Rattle.sv_names.specs.declared.checked.Checked.TheVariants.{Good, Broken}
use Rattle.sv_names.specs.declared.ty.Ty.{Ty}
use Rattle.sv_names.specs.declared.ty.Ty.TheVariants.{Nothing}
use Rattle.sv_names.specs.declared.typed.Typed.{Typed}
use Rattle.sv_names.specs.declared.scope.Scope.{Scope}
use Rattle.sv_names.specs.declared.named.Known.{Known}
use Rattle.sv_names.specs.declared.named.Named.{Named}
use Rattle.sv_names.specs.declared.named.Named.TheVariants.{Variable, Net, Input, Constant, Subroutine, ClockingBlock}
use Rattle.sv_names.specs.declared.named.Callee.{Callee}
use Rattle.sv_names.specs.declared.named.Formal.{Formal}
use Rattle.sv_names.specs.declared.named.SignalInfo.{SignalInfo}
use Rattle.sv_names.specs.Checked.{same_place, both, ◌▷◌, broken_at, rule, fine, ◌where_also◌, only, all}
use Rattle.sv_names.specs.Types.{Path, same_bytes, among, is_integral, same_enum}
use Rattle.sv_names.specs.Named.{Around, class_in, meaning, kind_stands, is_object_kind}
use Rattle.sv_value.specs.Operators.{all_same}
use Rattle.sv_names.specs.Values.{constant, constant_vector, assigned}
use Rattle.sv_names.specs.Expressions.{expr}
use Rattle.sv_names.specs.Entries.{Declared, Entry, A_local, An_argument, A_given, A_subroutine, A_clocking, The_object_of, Taken, taken, subroutine_entries, subroutine_is_automatic, is_static_method, is_task, has_result, result_type, protection_of}
use Rattle.sv_names.specs.Rounds.{Row, rows_of, known_in, settled, known_rows}
use Rattle.sv_names.specs.Declarations.{value_of_entry, implied}

-- ---- scopes by themselves

-- whether it is a variable of an activation
abbrev pub is_in_activation : Declared → Bool
is_in_activation (A_local w d) = true
is_in_activation (An_argument i auto) = auto
is_in_activation (A_given t) = true
is_in_activation (The_object_of k) = true
is_in_activation d = false

-- whether a scope makes an activation
abbrev pub makes_activation : List Entry → Bool
makes_activation [] = false
makes_activation (e ∷ es) = is_in_activation e.what || makes_activation es

-- within a further scope
abbrev pub within : Scope → Around → Around
within s ar = record ar { scopes = s ∷ ar.scopes }

-- a scope over what it knows
abbrev pub scope_of : Path → Option Path → Bool → List Known → Scope
scope_of p k enters ks = record { path = p; class = k; enters = enters; known = ks }

-- what is seen within a scope that is not settled
abbrev pub prepared : Around → Path → Option Path → Bool → List Row → Around
prepared ar p k enters rs = within (scope_of p k enters (known_in 0 rs)) ar

-- a declaration over what is seen
abbrev pub of_row : Path → Around → Row → Checked Named
of_row p ar r = value_of_entry ar p r.entry r.entry.what

-- a scope with all that it declares
abbrev pub settled_scope : Around → Path → Option Path → Bool → List Entry → Scope
settled_scope ar p k enters es =
    scope_of p k enters (known_in 0 (settled (prepared ar p k enters) (of_row p) (of_row p) (rows_of 0 es)))

-- the same, where what is around it may still wait
abbrev pub first_scope : Around → Path → Option Path → Bool → List Entry → Scope
first_scope ar p k enters es = scope_of p k enters (known_in 0 (known_rows (prepared ar p k enters) (of_row p) (rows_of 0 es)))

-- E56: an enum has two equal values
abbrev pub item_in : Known → Option Typed
item_in k = of_value k.value
  where
    of_value : Checked Named → Option Typed
    of_value (Good (Constant t false)) = Some t
    of_value c = None

-- two items of one enum with one value
abbrev pub equal_items : Typed → Typed → Bool
equal_items t u = same_enum t.ty u.ty && all_same (constant_vector t).symbols (constant_vector u).symbols

-- whether an item before has the same value
abbrev pub has_equal : Typed → List Typed → Bool
has_equal t [] = false
has_equal t (u ∷ us) = equal_items t u || has_equal t us

-- the items of a scope
abbrev pub items_differ : List Typed → List Known → Checked (Unit {0})
items_differ seen [] = fine
items_differ seen (k ∷ ks) = of_item (item_in k) (λ s. items_differ s ks)
  where
    of_item : Option Typed → (List Typed → Checked (Unit {0})) → Checked (Unit {0})
    of_item None go = go seen
    of_item (Some t) go = rule 56 k.name.at (has_equal t seen) where_also go (t ∷ seen)

-- what the head of a subroutine breaks
abbrev pub callee_stands : Callee → Checked (Unit {0})
callee_stands c = only c.result where_also all (λ f. only f.ty where_also default_stands f.default) c.formals
  where
    default_stands : Option (Checked Typed) → Checked (Unit {0})
    default_stands None = fine
    default_stands (Some d) = only d

-- what a name breaks
abbrev pub name_stands : Checked Named → Checked (Unit {0})
name_stands (Good (Subroutine c)) = callee_stands c
name_stands c = only c

-- what each declaration breaks
abbrev pub known_stand : List Known → Checked (Unit {0})
known_stand ks = all (λ k. name_stands k.value) ks where_also items_differ [] ks

-- ---- the heads of subroutines

-- E11, E16: a default is constant, and fits its argument
abbrev pub default_of : Around → Checked Ty → tree.Expr → Checked Typed
default_of ar t e =
    both t (expr ar e ▷ constant (place_of e))
    ▷ (λ p. assigned (record ar { takes_events = true }) p.0 (place_of e) p.1 ▷ (λ x. Good p.1))

-- an argument in the scope of its subroutine
abbrev pub formal_of : Around → Around → Path → Taken → Formal
formal_of ar inner p a =
    record {
      name = a.argument.name;
      direction = a.direction;
      ty = implied inner p a.type;
      default = option_map (default_of ar (implied inner p a.type)) a.argument.default;
    }

-- the type of what it gives
abbrev pub result_of_head : Around → Path → Head → Checked Ty
result_of_head inner p h = of_result (has_result h)
  where
    of_result : Bool → Checked Ty
    of_result true = implied inner p (result_type h)
    of_result false = Good Nothing

-- whether a method is virtual
abbrev pub has_slot : Around → Option Path → List ℕ → Bool
has_slot ar None x = false
has_slot ar (Some k) x = in_class (class_in ar.classes k)
  where
    in_class : Option ClassInfo → Bool
    in_class None = false
    in_class (Some c) = among x c.slots

-- the head of a subroutine over its scope
abbrev pub callee_within : Around → Scope → (is_pure : Bool) → Option Path → Method → Callee
callee_within ar s is_pure k m =
    record {
      name = m.routine.head.name;
      path = s.path;
      is_task = is_task m.routine.head;
      result = result_of_head (within s ar) s.path m.routine.head;
      formals = map (formal_of ar (within s ar) s.path) (taken m.routine.head);
      class = k;
      is_static = is_static_method m;
      is_virtual = has_slot ar k m.routine.head.name.text;
      is_pure = is_pure;
      protection = protection_of m.qualifiers;
    }

-- what the scope of a subroutine declares
abbrev pub all_entries : Around → Option Path → Method → List Entry
all_entries ar k m = subroutine_entries ar.is_automatic k m

-- whether a call makes an activation
abbrev pub subroutine_enters : Around → Option Path → Method → Bool
subroutine_enters ar k m =
    subroutine_is_automatic ar.is_automatic k m.routine.head || makes_activation (all_entries ar k m)

-- the path of a subroutine in a scope
abbrev pub subroutine_path : Path → Method → Path
subroutine_path s m = s ++ m.routine.head.name.text ∷ []

-- the head of a subroutine, where what is around it may still wait
abbrev pub callee_of : Around → Path → (is_pure : Bool) → Option Path → Method → Callee
callee_of ar s is_pure k m =
    callee_within ar (first_scope ar (subroutine_path s m) k (subroutine_enters ar k m) (all_entries ar k m)) is_pure k m

-- ---- the signals of clocking blocks

-- whether a signal is sampled
abbrev pub is_input_side : Direction → Bool
is_input_side direction.Output = false
is_input_side d = true

-- whether a signal is driven
abbrev pub is_output_side : Direction → Bool
is_output_side direction.Input = false
is_output_side d = true

-- whether one of the sides is such
abbrev pub any_side : (Direction → Bool) → List Sided → Bool
any_side f [] = false
any_side f (s ∷ ss) = f s.direction || any_side f ss

-- whether a path is that of an object of a unit
abbrev pub is_directly_in : Path → Path → Bool
is_directly_in [] (x ∷ []) = true
is_directly_in (y ∷ p) (x ∷ q) = same_bytes x y && is_directly_in p q
is_directly_in p q = false

-- a signal that stands
abbrev pub signal_info : Name → Path → Ty → Path → List Sided → SignalInfo
signal_info n p t s ds =
    record {
      name = n;
      object = p;
      ty = t;
      sample = s;
      is_input = any_side is_input_side ds;
      is_output = any_side is_output_side ds;
    }

-- E46, E19: an integral object of the unit; no input port is driven
abbrev pub signal_of_object : Path → Path → Name → List Sided → (is_input_port : Bool) → Path → Ty → Checked SignalInfo
signal_of_object u s n ds port p t =
    if is_integral t && is_directly_in u p
    then Good (signal_info n p t (s ++ n.text ∷ []) ds) where_also rule 19 n.at (port && any_side is_output_side ds)
    else broken_at 46 n.at

-- the object of a signal
abbrev pub signal_of_named : Path → Path → Name → List Sided → Named → Checked SignalInfo
signal_of_named u s n ds (Variable p t) = signal_of_object u s n ds false p t
signal_of_named u s n ds (Net p t) = signal_of_object u s n ds false p t
signal_of_named u s n ds (Input p w t) = signal_of_object u s n ds true p t
signal_of_named u s n ds x = broken_at 46 n.at

-- the signals of an item (E46 also where a name needs itself)
abbrev pub item_signals : Around → Path → tree_unit.ClockingItem → List (Checked SignalInfo)
item_signals ar s (tree_unit.Default ds) = []
item_signals ar s (tree_unit.Signals ds ns) =
    map (λ n. of_meaning n (meaning ar n where_also kind_stands ar 46 n.at is_object_kind n.text)) ns
  where
    of_meaning : Name → Checked Named → Checked SignalInfo
    of_meaning n (Good x) = signal_of_named ar.unit s n ds x
    of_meaning n (Broken f) = if (f.rule == 7) && same_place f.at n.at then broken_at 46 n.at else Broken f

-- all signals of a block
abbrev pub signals_in : Around → Path → List tree_unit.ClockingItem → List (Checked SignalInfo)
signals_in ar s is = flat_map (item_signals ar s) is

-- ---- all declarations

-- the settled scope of a subroutine; `s` is the path of what declares it
abbrev pub subroutine_scope : Around → Path → Option Path → Method → Scope
subroutine_scope ar s k m = settled_scope ar (subroutine_path s m) k (subroutine_enters ar k m) (all_entries ar k m)

-- the head of a subroutine, also where its own declarations need themselves
abbrev pub last_callee : Around → Path → (is_pure : Bool) → Option Path → Method → Callee
last_callee ar s is_pure k m = callee_within ar (subroutine_scope ar s k m) is_pure k m

-- the head, in a round or after all
abbrev pub head_of : (is_last : Bool) → Around → Path → (is_pure : Bool) → Option Path → Method → Callee
head_of true ar s is_pure k m = last_callee ar s is_pure k m
head_of false ar s is_pure k m = callee_of ar s is_pure k m

-- what a declaration stands for
abbrev pub value_of_any : (is_last : Bool) → Around → Path → Entry → Declared → Checked Named
value_of_any l ar s e (A_subroutine is_pure k m) = Good (Subroutine (head_of l ar s is_pure k m))
value_of_any l ar s e (A_clocking is) =
    Good (ClockingBlock (s ++ e.name.text ∷ []) (signals_in ar (s ++ e.name.text ∷ []) is))
value_of_any l ar s e d = value_of_entry ar s e d

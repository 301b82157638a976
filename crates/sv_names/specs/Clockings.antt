-- Clocking blocks of the flat design (IEEE 1800-2017, 14).
use Rattle.std.specs.Prelude.{ℕ, zero, suc, ◌+◌, ◌-◌, ◌*◌, ◌^◌, Bool, true, false, ◌&&◌, List, [], ◌∷◌, ◌++◌, Option, Some, None, if◌then◌else◌, ◌==◌, nat_lt, flat_map, ℤ, pos, negsuc}
use Rattle.sv_value.specs.declared.place.Place.{Place}
use Rattle.sv_value.specs.declared.schedule.Side.{Side}
use Rattle.sv_value.specs.declared.schedule.Side.TheVariants.{Active, Reactive}
use Rattle.sv_flat.specs.declared.design.Scale.{Scale}
use Rattle.sv_flat.specs.declared.object.Object.{Object}
use Rattle.sv_flat.specs.declared.object.ObjectKind.TheVariants as object_kind
use Rattle.sv_flat.specs.declared.clocking.Clocking.{Clocking}
use Rattle.sv_flat.specs.declared.clocking.Signal.{Signal}
use Rattle.sv_flat.specs.declared.clocking.Skew.{Skew}
use Rattle.sv_flat.specs.declared.clocking.Skew.TheVariants as skew
use Rattle.sv_tree.specs.declared.word.Name.{Name}
use Rattle.sv_tree.specs.Expr as tree
use Rattle.sv_tree.specs.Expr.{place_of}
use Rattle.sv_tree.specs.Units as tree_unit
use Rattle.sv_tree.specs.Units.{Sided, ClockingItem, ClockingBlock}
use Rattle.sv_names.specs.declared.checked.Checked.{Checked}
use Rattle.sv_names.specs.declared.checked.Checked.TheVariants.{Good, Broken}
use Rattle.sv_names.specs.declared.ty.Ty.{Ty}
use Rattle.sv_names.specs.declared.named.Named.{Named}
use Rattle.sv_names.specs.declared.named.Named.TheVariants.{Variable, Net, Input as Input_port}
use Rattle.sv_names.specs.declared.named.SignalInfo.{SignalInfo}
use Rattle.sv_names.specs.Checked.{both, ◌▷◌, given, broken_at, rule, fine, ◌where_also◌, each, only}
use Rattle.sv_names.specs.Types.{Path, is_integral, width_of_type, same_path, among}
use Rattle.sv_names.specs.Named.{Around, meaning, kind_stands, is_object_kind}
use Rattle.sv_names.specs.Values.{constant_number}
use Rattle.sv_names.specs.Operators.{ticks_in}
use Rattle.sv_names.specs.Expressions.{expr}
use Rattle.sv_names.specs.Scopes.{is_input_side, signal_of_named, signals_in}
use Rattle.sv_names.specs.Code.{object_at}
use Rattle.sv_names.specs.Assignments.{amount_expr}
use Rattle.sv_names.specs.Events.{edge_of}
use Rattle.sv_names.specs.Blocks.{end_label}

-- ---- skews, in ticks; None is `1step`

-- how many ticks a unit has
abbrev pub unit_ticks : Scale → ℕ
unit_ticks s = if nat_lt s.unit s.precision then 1 else 10 ^ (s.unit - s.precision)

-- E12: a skew in units is not negative
abbrev pub skew_count : Scale → Place → ℤ → Checked ℕ
skew_count s at (pos n) = Good (n * unit_ticks s)
skew_count s at (negsuc n) = broken_at 12 at

-- a constant number of units
abbrev pub units_in : Around → tree.Expr → Checked ℕ
units_in ar e = expr ar e ▷ constant_number (place_of e) ▷ skew_count ar.scale (place_of e)

-- a time literal alone counts ticks (3.14.1)
abbrev pub skew_amount : Around → tree.Expr → Checked ℕ
skew_amount ar (tree.Time at text) = ticks_in ar.scale at text
skew_amount ar e = units_in ar (amount_expr e)

-- E57: a skew is above 2^20 ticks
abbrev pub skew_of : Around → tree_unit.Skew → Checked (Option ℕ)
skew_of ar (tree_unit.OneStep at) = Good None
skew_of ar (tree_unit.Amount at e) = skew_amount ar e ▷ (λ n. if nat_lt (2 ^ 20) n then broken_at 57 at else Good (Some n))

-- the skews of inputs and of outputs
pub record Skews : Type 0 where
  pub input : Option ℕ
  pub output : Option ℕ

-- `1step` for inputs and 0 for outputs
abbrev pub usual_skews : Skews
usual_skews = record { input = None; output = Some 0 }

-- a skew in place of the usual one
abbrev pub with_skew : Around → Skews → Sided → Checked Skews
with_skew ar k s = by s.skew
  where
    taken : Option ℕ → Skews
    taken n = if is_input_side s.direction then record k { input = n } else record k { output = n }

    by : Option tree_unit.Skew → Checked Skews
    by None = Good k
    by (Some w) = given taken (skew_of ar w)

-- the skews of a list of sides
abbrev pub with_skews : Around → Skews → List Sided → Checked Skews
with_skews ar k [] = Good k
with_skews ar k (s ∷ ss) = with_skew ar k s ▷ (λ j. with_skews ar j ss) where_also only (with_skews ar k ss)

-- the skews that the block makes usual
abbrev pub defaults : Around → Skews → List ClockingItem → Checked Skews
defaults ar k [] = Good k
defaults ar k (tree_unit.Default ss ∷ is) = with_skews ar k ss ▷ (λ j. defaults ar j is)
defaults ar k (i ∷ is) = defaults ar k is

-- ---- signals

-- when an input is sampled
abbrev pub input_skew : Option ℕ → Skew
input_skew None = skew.OneStep
input_skew (Some zero) = skew.Zero
input_skew (Some (suc n)) = skew.Ticks (suc n)

-- an output skew of `1step` is one tick
abbrev pub output_skew : Option ℕ → ℕ
output_skew None = 1
output_skew (Some n) = n

-- a signal, and the net that it drives
pub record MadeSignal : Type 0 where
  pub drives : List Path
  pub signal : (driver : ℕ) → Signal

-- the net that a name stands for
abbrev pub net_of : Named → List Path
net_of (Net p t) = p ∷ []
net_of n = []

-- a signal of the flat design
abbrev pub signal_made : Around → Skews → Name → SignalInfo → Named → MadeSignal
signal_made ar k n s x =
    record {
      drives = if s.is_output then net_of x else [];
      signal = λ d. record {
        at = n.at;
        object = ar.numbers.object s.object;
        input = if s.is_input then Some (record { skew = input_skew k.input; sample = ar.numbers.object s.sample }) else None;
        output = if s.is_output then Some (record { skew = output_skew k.output; driver = d }) else None;
      };
    }

-- a signal by its name in the unit
abbrev pub signal_named : Around → Path → Skews → List Sided → Name → Checked MadeSignal
signal_named ar p k ds n =
    meaning ar n where_also kind_stands ar 46 n.at is_object_kind n.text
    ▷ (λ x. given (λ s. signal_made ar k n s x) (signal_of_named ar.unit p n ds x))

-- the signals of one item
abbrev pub item_signals : Around → Path → Skews → ClockingItem → Checked (List MadeSignal)
item_signals ar p k (tree_unit.Default ss) = Good []
item_signals ar p k (tree_unit.Signals ds ns) =
    with_skews ar k ds ▷ (λ j. each (signal_named ar p j ds) ns) where_also only (each (signal_named ar p k ds) ns)

-- all signals, in order
abbrev pub signals_of : Around → Path → Skews → List ClockingItem → Checked (List MadeSignal)
signals_of ar p k [] = Good []
signals_of ar p k (i ∷ is) = given (λ q. q.0 ++ q.1) (both (item_signals ar p k i) (signals_of ar p k is))

-- the names of the signals
abbrev pub names_in : ClockingItem → List Name
names_in (tree_unit.Default ss) = []
names_in (tree_unit.Signals ds ns) = ns

-- E46: a signal stands twice
abbrev pub signals_differ : List (List ℕ) → List Name → Checked (Unit {0})
signals_differ seen [] = fine
signals_differ seen (n ∷ ns) = rule 46 n.at (among n.text seen) where_also signals_differ (n.text ∷ seen) ns

-- ---- the event (E45)

-- the event is of one bit
abbrev pub one_bit : Name → Path → Ty → Checked Path
one_bit n p t = if is_integral t && (width_of_type t == 1) then Good p else broken_at 45 n.at

-- the object that the event is of
abbrev pub event_object : Name → Named → Checked Path
event_object n (Variable p t) = one_bit n p t
event_object n (Net p t) = one_bit n p t
event_object n (Input_port p w t) = one_bit n p t
event_object n x = broken_at 45 n.at

-- ---- clocking blocks

-- a clocking block, with its samples and the nets that it drives
pub record MadeClocking : Type 0 where
  pub path : Path
  pub drives : List Path
  pub samples : List Object
  pub clocking : (before : List Path) → Clocking

-- how often a path stands in a list
abbrev pub times_in : Path → List Path → ℕ
times_in p [] = 0
times_in p (q ∷ qs) = (if same_path p q then 1 else 0) + times_in p qs

-- the number of a driver
abbrev pub driver_of : List Path → List Path → ℕ
driver_of before [] = 0
driver_of before (p ∷ ps) = times_in p before

-- the signals, with the drivers of those before
abbrev pub signals_after : List Path → List MadeSignal → List Signal
signals_after before [] = []
signals_after before (s ∷ ss) = s.signal (driver_of before s.drives) ∷ signals_after (before ++ s.drives) ss

-- the object that holds the sample of an input
abbrev pub sample_of : Around → SignalInfo → List Object
sample_of ar s = if s.is_input then object_at ar object_kind.Sample false false false s.name.at s.sample s.ty None ∷ [] else []

-- the samples of all inputs
abbrev pub sample_objects : Around → List (Checked SignalInfo) → List Object
sample_objects ar [] = []
sample_objects ar (Good s ∷ ss) = sample_of ar s ++ sample_objects ar ss
sample_objects ar (Broken f ∷ ss) = sample_objects ar ss

-- the side of a block
abbrev pub side_of : Bool → Side
side_of true = Reactive
side_of false = Active

-- a clocking block of the flat design
abbrev pub clocking_made : Around → Path → ClockingBlock → List (Checked SignalInfo) → Path → List MadeSignal → MadeClocking
clocking_made ar p b infos event ss =
    record {
      path = p;
      drives = flat_map (λ s. s.drives) ss;
      samples = sample_objects ar infos;
      clocking = λ before. record {
        at = b.name.at;
        side = side_of ar.is_program;
        event = ar.numbers.object event;
        event_at = b.event.at;
        edge = edge_of b.edge;
        signals = signals_after before ss;
      };
    }

-- E45: the object that the event of a block is of
abbrev pub event_of : Around → Name → Checked Path
event_of ar n = meaning ar n where_also kind_stands ar 45 n.at is_object_kind n.text ▷ event_object n

-- E5, E45, E46: a clocking block; `p` is its path
abbrev pub clocking_of : Around → Path → ClockingBlock → Checked MadeClocking
clocking_of ar p b =
    given (λ q. clocking_made ar p b (signals_in ar p b.items) q.0 q.1)
    (both (event_of ar b.event) (defaults ar usual_skews b.items ▷ (λ k. signals_of ar p k b.items)))
    where_also only (signals_of ar p usual_skews b.items)
    where_also signals_differ [] (flat_map names_in b.items)
    where_also end_label (Some b.name) b.label

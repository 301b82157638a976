-- Assignments over all their parts, each of which may break a rule (IEEE 1800-2017, 7.5.1, 10.4 and 11.4.1).
use Rattle.std.specs.Prelude.{◌≡◌, List, Option, Some, None, if◌then◌else◌}
use Rattle.sv_value.specs.declared.place.Place.{Place}
use Rattle.sv_flat.specs.declared.stmt.Form.{Form}
use Rattle.sv_flat.specs.declared.target.Container.{Container}
use Rattle.sv_flat.specs.Expr as flat
use Rattle.sv_tree.specs.declared.word.BinaryWord.{BinaryWord}
use Rattle.sv_tree.specs.Expr as tree
use Rattle.sv_tree.specs.Expr.{place_of}
use Rattle.sv_tree.specs.Stmt.{Init}
use Rattle.sv_names.specs.declared.argument.Arg.{Arg}
use Rattle.sv_names.specs.declared.checked.Checked.{Checked}
use Rattle.sv_names.specs.declared.checked.Checked.TheVariants.{Good, Broken}
use Rattle.sv_names.specs.declared.hoisted.Hoisted.{Hoisted}
use Rattle.sv_names.specs.declared.ty.Ty.{Ty}
use Rattle.sv_names.specs.declared.typed.Typed.{Typed}
use Rattle.sv_names.specs.Assignments.{Amount, assign_form, made, value_given, copy_given, resized, old_container, init_alone, init_given, not_late, later_given, begin_of, read_and_written}
use Rattle.sv_names.specs.Calls.{call_stands}
use Rattle.sv_names.specs.Checked.{both, ◌▷◌, given, ◌where_also◌, only, also_broken}
use Rattle.sv_names.specs.Expressions.{expr}
use Rattle.sv_names.specs.Named.{Around, behind}
use Rattle.sv_names.specs.Targets.{Spot, lvalues, type_of_target, hidden_of_spots}
use Rattle.sv_names.specs.Types.{longint_type, is_dynamic}
use Rattle.sv_names.specs.Values.{exactly}
use Rattle.sv_elab_assign.specs.declared.amount.Amount as amount
use Rattle.sv_elab_assign.specs.declared.arrays.Source as arrays
use Rattle.sv_elab_assign.specs.Amounts.{amount_if}
use Rattle.sv_elab_assign.specs.Places.{behind_parts}

-- ---- a target and a delay

-- a target and a delay, as the code has them
abbrev pub parts_in : List Spot × Option amount.Amount → List Spot × Option Amount
parts_in p = (p.0, amount_if p.1)

-- a target, and then a delay
abbrev pub with_spots : List Spot → Option Amount → List Spot × Option Amount
with_spots ss d = (ss, d)

-- ---- blocking assignments

-- what is behind the `=`, where target and delay break no rule
abbrev pub given_behind_parts : Around → List Spot → Option Amount → Init → Checked (Hoisted Form)
given_behind_parts ar ss d i = init_given (behind_parts ar ss d) d ss i where_also not_late d ss

-- the same where they may break one
abbrev pub given_behind_both : Around → Checked (List Spot × Option Amount) → Init → Checked (Hoisted Form)
given_behind_both ar (Good p) i = given_behind_parts ar p.0 p.1 i
given_behind_both ar (Broken f) i = also_broken f (init_alone ar i)

-- a value behind a target and a delay
abbrev pub value_behind : Around → Option Amount → Place → List Spot → Checked Typed → Checked (Hoisted Form)
value_behind ar d pv ss x = (x ▷ value_given (behind_parts ar ss d) d pv ss) where_also not_late d ss

-- `new h` behind a target and a delay
abbrev pub copy_behind : Around → Option Amount → Place → List Spot → Checked Typed → Checked (Hoisted Form)
copy_behind ar d at ss x = (x ▷ copy_given (behind_parts ar ss d) d at ss) where_also not_late d ss

-- ---- `new`

-- what is made, for a target
abbrev pub made_for : Around → Option Amount → Place → List Spot → Checked (Hoisted flat.Expr) → Checked (Hoisted Form)
made_for ar d at ss x = given (assign_form d (lvalues ar ss)) x where_also call_stands ar at

-- the same behind a target and a delay
abbrev pub made_behind : Around → Option Amount → Place → List Spot → Checked (Hoisted flat.Expr) → Checked (Hoisted Form)
made_behind ar d at ss x = made_for (behind_parts ar ss d) d at ss x where_also not_late d ss

-- whether it is what `new` makes there; behind what breaks a rule nothing is made
abbrev pub IsMade : Around → Checked (List Spot × Option Amount) → Place → List Arg → Checked (Hoisted flat.Expr) → Type 0
IsMade ar (Good p) at as' x = x ≡ made (behind_parts ar p.0 p.1) at p.0 as' (type_of_target p.0)
IsMade ar (Broken f) at as' x = Unit {0}

-- ---- `new[n]`

-- the array that is copied
abbrev pub old_of : Ty → Option arrays.Source → Checked (Option (Hoisted Container))
old_of t None = Good None
old_of t (Some s) = given Some (s.value ▷ old_container t s.at)

-- the same, where the target is a dynamic array
abbrev pub old_for : Ty → Option arrays.Source → Checked (Option (Hoisted Container))
old_for t s = if is_dynamic t then old_of t s else Good None

-- `new[n]` but for the rules on where it stands
abbrev pub array_for : Around → Option Amount → Place → Place → Checked Typed → Option arrays.Source → List Spot → Checked (Hoisted Form)
array_for ar d at pn n s ss =
    both (n ▷ exactly ar longint_type pn) (old_for (type_of_target ss) s) ▷ (λ p. resized ar d at p.0 p.1 ss)

-- `new[n]` over its parts
abbrev pub array_of : Around → Option Amount → Place → Place → Checked Typed → Option arrays.Source → List Spot → Checked (Hoisted Form)
array_of ar d at pn n s ss = array_for ar d at pn n s ss where_also call_stands ar at

-- the same behind a target and a delay
abbrev pub array_behind : Around → Option Amount → Place → Place → Checked Typed → Option arrays.Source → List Spot → Checked (Hoisted Form)
array_behind ar d at pn n s ss = array_of (behind_parts ar ss d) d at pn n s ss where_also not_late d ss

-- what `new[n]` breaks by itself
abbrev pub array_alone : Checked Typed → Option arrays.Source → Checked (Unit {0})
array_alone n None = only n
array_alone n (Some s) = only (both n s.value)

-- whether what is copied stands for an expression that stands there
abbrev pub IsSource : Around → Option arrays.Source → Option tree.Expr → Type 0
IsSource ar None None = Unit {0}
IsSource ar (Some s) (Some e) = (s.at ≡ place_of e) × (s.value ≡ expr ar e)
IsSource ar s e = ⊥

-- ---- nonblocking assignments

-- a value for a target and a delay
abbrev pub later_parts : Around → Place → Checked (List Spot × Option amount.Amount) → Checked Typed → Checked (Hoisted Form)
later_parts ar pv p x = both p x ▷ (λ q. later_given ar (amount_if q.0.1) pv q.0.0 q.1 (begin_of q.0.0))

-- ---- `a op= e`

-- an operator and its operand behind a target
abbrev pub updated_by : Around → Place → Place → BinaryWord → (Around → Checked Typed) → Checked (List Spot) → Checked (Hoisted Form)
updated_by ar pl pv w v (Good ss) = read_and_written ar pl pv w ss (v (behind (hidden_of_spots ss) ar))
updated_by ar pl pv w v (Broken f) = also_broken f (only (v ar))

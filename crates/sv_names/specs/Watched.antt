-- What `@*`, `always_comb`, continuous assignments and port connections watch (IEEE 1800-2017, 9.2.2.2, 9.4.2.2 and 10.3).
use Rattle.std.specs.Prelude.{ℕ, zero, suc, ◌+◌, ◌-◌, Bool, true, false, ◌&&◌, ◌||◌, List, [], ◌∷◌, ◌++◌, length, Option, Some, None, if◌then◌else◌, ◌==◌, nat_lt, map, flat_map, slice_index_or, ℤ, pos, negsuc, ◌+ℤ◌, ◌-ℤ◌, int_le, nat_abs}
use Rattle.sv_value.specs.declared.number.ObjId.{ObjId}
use Rattle.sv_value.specs.declared.number.RoutineId.{RoutineId}
use Rattle.sv_value.specs.declared.val.Plain.TheVariants as plain
use Rattle.sv_value.specs.Vector.{vector}
use Rattle.sv_value.specs.Operators.{integer_symbols}
use Rattle.sv_flat.specs.declared.object.Bounds.{Bounds}
use Rattle.sv_flat.specs.declared.object.DataType.{DataType}
use Rattle.sv_flat.specs.declared.object.DataType.TheVariants as data_type
use Rattle.sv_flat.specs.declared.process.Watch.{Watch}
use Rattle.sv_flat.specs.declared.process.Watch.TheVariants as watch
use Rattle.sv_flat.specs.declared.process.Edge.TheVariants.{Change}
use Rattle.sv_flat.specs.declared.class.Routine.{Routine}
use Rattle.sv_flat.specs.declared.stmt.Stmt.{Stmt}
use Rattle.sv_flat.specs.declared.stmt.Form.{Form}
use Rattle.sv_flat.specs.declared.stmt.Form.TheVariants as form
use Rattle.sv_flat.specs.declared.target.Lvalue.{Lvalue}
use Rattle.sv_flat.specs.declared.target.Part.{Part}
use Rattle.sv_flat.specs.declared.target.Base.{Base}
use Rattle.sv_flat.specs.declared.target.Base.TheVariants as base
use Rattle.sv_flat.specs.declared.target.Container.{Container}
use Rattle.sv_flat.specs.Expr as flat
use Rattle.sv_flat.specs.Eval.{known_index, low_place, plain_width, type_width}
use Rattle.sv_flat.specs.Names.{form_exprs, container_exprs, base_exprs, part_exprs, optional, call_exprs, inner_routines, forked, form_targets, call_targets}

-- ---- watched operands: names with their leading constant selects

-- whether an index is constant
abbrev pub is_literal : flat.Expr → Bool
is_literal (flat.Literal v f) = true
is_literal e = false

-- whether all its selects are constant
abbrev pub is_steady : flat.Expr → Bool
is_steady (flat.Object at o t) = true
is_steady (flat.Local u p t) = true
is_steady (flat.Element at o b t i) = is_literal i
is_steady (flat.LocalElement u p b t i) = is_literal i
is_steady (flat.Select w o f d b i) = is_steady b && is_literal i
is_steady e = false

-- an event does not change
abbrev pub is_event_type : DataType → Bool
is_event_type (data_type.Plain plain.Event) = true
is_event_type t = false

-- a number as an index
abbrev pub as_index : ℤ → flat.Expr
as_index i = flat.Literal (vector true (integer_symbols 64 i)) None

-- so many indices from one on
abbrev pub each_index : ℕ → ℤ → ℤ → (flat.Expr → flat.Expr) → List flat.Expr
each_index zero i step f = []
each_index (suc n) i step f = f (as_index i) ∷ each_index n (i +ℤ step) step f

-- an array is watched element by element
abbrev pub all_elements : Bounds → (flat.Expr → flat.Expr) → List flat.Expr
all_elements b f =
    if int_le b.left b.right then each_index (nat_abs (b.right -ℤ b.left) + 1) b.left (pos 1) f
    else each_index (nat_abs (b.right -ℤ b.left) + 1) b.left (negsuc 0) f

-- one from outside so many activations, as it is seen there
abbrev pub from_outside : ℕ → flat.Expr → List flat.Expr
from_outside d (flat.Local u p t) = if nat_lt u d then [] else flat.Local (u - d) p t ∷ []
from_outside d (flat.LocalElement u p b t i) = if nat_lt u d then [] else flat.LocalElement (u - d) p b t i ∷ []
from_outside d (flat.Select w o f s b i) = map (λ x. flat.Select w o f s x i) (from_outside d b)
from_outside d e = e ∷ []

-- what an expression reads
abbrev pub operands : ℕ → flat.Expr → List flat.Expr
operands d (flat.Object at o t) = if is_event_type t then [] else flat.Object at o t ∷ []
operands d (flat.Local u p t) = if is_event_type t then [] else from_outside d (flat.Local u p t)
operands d (flat.Element at o b t i) =
    if is_literal i then flat.Element at o b t i ∷ [] else all_elements b (flat.Element at o b t) ++ operands d i
operands d (flat.LocalElement u p b t i) =
    if is_literal i then from_outside d (flat.LocalElement u p b t i)
    else flat_map (from_outside d) (all_elements b (flat.LocalElement u p b t)) ++ operands d i
operands d (flat.Field p t e) = operands d e
operands d (flat.FieldElement p b t e i) = operands d e ++ operands d i
operands d (flat.Static r m) = operands d r
operands d (flat.Item p t c i) = operands d c ++ operands d i
operands d (flat.Select w o f s b i) =
    if is_steady b && is_literal i then from_outside d (flat.Select w o f s b i) else operands d b ++ operands d i
operands d (flat.Unary op a) = operands d a
operands d (flat.Binary op a b) = operands d a ++ operands d b
operands d (flat.Choose c a b) = operands d c ++ operands d a ++ operands d b
operands d (flat.Join a b) = operands d a ++ operands d b
operands d (flat.Repeat n a) = operands d a
operands d (flat.Convert t a) = operands d a
operands d (flat.Widen n g a) = operands d a
operands d (flat.Size p c) = operands d c
operands d (flat.Messages m) = operands d m
operands d (flat.Exists p c i) = operands d c ++ operands d i
operands d (flat.Length t) = operands d t
operands d (flat.Triggered e) = operands d e
operands d (flat.Log2 a) = operands d a
operands d (flat.Name is a) = operands d a
operands d (flat.Printed f p a) = operands d a
operands d e = []

-- ---- in statements

-- 1 where there are some
abbrev pub one_if : {A : Type 0} → List A → ℕ
one_if [] = 0
one_if (x ∷ xs) = 1

-- how many activations a form makes round what stands in it
abbrev pub entered_by : Form → ℕ
entered_by (form.Block ls b) = one_if ls
entered_by (form.Fork ls i cs j) = one_if ls
entered_by (form.Foreach c t b) = 1
entered_by (form.ForeachElement b r) = 1
entered_by f = 0

-- what leads to a container that is only changed
abbrev pub looked_through : Container → List flat.Expr
looked_through c = by c.property c.holder
  where
    by : Option ℕ → flat.Expr → List flat.Expr
    by None (flat.Static r m) = r ∷ []
    by None e = []
    by (Some p) e = e ∷ []

-- the indices and references of a target
abbrev pub base_read : Base → List flat.Expr
base_read (base.Item c i) = looked_through c ++ i ∷ []
base_read b = base_exprs b

-- those of all parts of a target
abbrev pub targets_read : List Lvalue → List flat.Expr
targets_read ts = flat_map (λ l. optional l.through ++ base_read l.base ++ part_exprs l.part) ts

-- the expressions that a form reads: what stands as a target alone is not read (9.4.2.2)
abbrev pub exprs_read : Form → List flat.Expr
exprs_read (form.Assign ts e) = e ∷ targets_read ts
exprs_read (form.AssignAfter ts e delay in_ticks) = e ∷ delay ∷ targets_read ts
exprs_read (form.CopyContainer c s) = looked_through c ++ container_exprs s
exprs_read (form.Resize c e s t) = looked_through c ++ e ∷ flat_map container_exprs (optional s)
exprs_read f = form_exprs f

-- what a statement itself reads, with its calls
abbrev pub own_operands : ℕ → Stmt → List flat.Expr
own_operands d s =
    flat_map (λ c. flat_map (operands (d + one_if s.hidden)) (call_exprs c.form)) s.calls
    ++ flat_map (operands (d + one_if s.hidden)) (exprs_read s.form)

-- what statements and all that stands in them read
abbrev pub operands_of : (RoutineId → List Stmt) → ℕ → ℕ → List Stmt → List flat.Expr
operands_of body zero d ss = []
operands_of body (suc k) d ss =
    flat_map (λ s. own_operands d s
    ++ flat_map (λ r. operands_of body k (d + entered_by s.form) (body r)) (inner_routines s.form ++ forked s.form)) ss

-- a routine without statements
abbrev pub no_routine : Routine
no_routine = record { at = record { file = 0; line = 0; col = 0 }; body = []; subroutine = None }

-- the routines that a list adds from a first number on
abbrev pub body_from : ℕ → List Routine → RoutineId → List Stmt
body_from n rs r = (slice_index_or rs (r.0 - n) no_routine).body

-- what waits for a change
abbrev pub on_change : flat.Expr → Watch
on_change e = watch.On e Change None

-- what a statement after `@*` reads
abbrev pub star_watches : ℕ → List Stmt × List Routine → List Watch
star_watches n p = map on_change (operands_of (body_from n p.1) (length p.1 + 1) 0 p.0)

-- ---- what a process writes whole

-- an object, an element or a part of one
pub record Span : Type 0 where
  pub object : ObjId
  pub element : Option ℤ
  -- its lowest bit and its width, where it is a part
  pub part : Option (ℤ × ℕ)

-- a constant index
abbrev pub index_of : flat.Expr → Option ℤ
index_of (flat.Literal v f) = known_index v
index_of e = None

-- with a known index
abbrev pub with_index : {A : Type 0} → Option ℤ → (ℤ → A) → Option A
with_index None f = None
with_index (Some i) f = Some (f i)

-- a part of a span
abbrev pub in_part : ℕ → ℤ → Bool → Option ℤ → Option Span → Option Span
in_part w o f (Some i) (Some s) = Some (record s { part = Some (low_place o f i, w) })
in_part w o f i s = None

-- what an operand covers
abbrev pub span_of : flat.Expr → Option Span
span_of (flat.Object at o t) = Some (record { object = o; element = None; part = None })
span_of (flat.Element at o b t i) = with_index (index_of i) (λ n. record { object = o; element = Some n; part = None })
span_of (flat.Select w o f d b i) = in_part w o f (index_of i) (span_of b)
span_of e = None

-- what a target begins with
abbrev pub span_of_base : Base → Option Span
span_of_base (base.Object o) = Some (record { object = o; element = None; part = None })
span_of_base (base.Element o b i) = with_index (index_of i) (λ n. record { object = o; element = Some n; part = None })
span_of_base b = None

-- a part of it
abbrev pub span_of_part : Option Part → Option Span → Option Span
span_of_part None s = s
span_of_part (Some p) s = in_part p.width p.offset p.is_falling (index_of p.index) s

-- what a target covers
abbrev pub span_of_target : Lvalue → Option Span
span_of_target l = span_of_part l.part (span_of_base l.base)

-- whether an element lies in an element or in the whole
abbrev pub same_element : Option ℤ → Option ℤ → Bool
same_element None e = true
same_element (Some i) None = false
same_element (Some i) (Some j) = int_le i j && int_le j i

-- whether a part lies in a part or in the whole
abbrev pub lies_in : (width : ℕ) → Option (ℤ × ℕ) → Option (ℤ × ℕ) → Bool
lies_in w p None = true
lies_in w None (Some q) = int_le q.0 (pos 0) && int_le (pos w) (q.0 +ℤ pos q.1)
lies_in w (Some p) (Some q) = int_le q.0 p.0 && int_le (p.0 +ℤ pos p.1) (q.0 +ℤ pos q.1)

-- the width of the whole
abbrev pub width_of_operand : flat.Expr → ℕ
width_of_operand (flat.Object at o t) = type_width t
width_of_operand (flat.Element at o b t i) = plain_width t
width_of_operand e = 0

-- whether an operand lies in what is written
abbrev pub covers : flat.Expr → Option Span → Option Span → Bool
covers e (Some a) (Some b) =
    (a.object.0 == b.object.0) && same_element b.element a.element && lies_in (width_of_operand e) a.part b.part
covers e a b = false

-- whether an operand lies in a target
abbrev pub is_written : List Lvalue → flat.Expr → Bool
is_written [] e = false
is_written (l ∷ ls) e = covers e (span_of e) (span_of_target l) || is_written ls e

-- the object that an operand is of
abbrev pub object_of : flat.Expr → Option ObjId
object_of (flat.Object at o t) = Some o
object_of (flat.Element at o b t i) = Some o
object_of (flat.Select w o f d b i) = object_of b
object_of e = None

-- the targets in statements, and in the calls before them
abbrev pub targets_of : (RoutineId → List Stmt) → ℕ → List Stmt → List Lvalue
targets_of body zero ss = []
targets_of body (suc k) ss =
    flat_map (λ s. flat_map (λ c. call_targets c.form) s.calls ++ form_targets s.form
    ++ flat_map (λ r. targets_of body k (body r)) (inner_routines s.form ++ forked s.form)) ss

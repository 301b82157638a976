-- What stands in a target before a part that breaks a rule, from the left, and what it breaks.
use Rattle.std.specs.Prelude.{Bool, false, List, [], ◌∷◌, Option, Some, None, pos}
use Rattle.sv_value.specs.declared.place.Place.{Place}
use Rattle.sv_flat.specs.Expr as flat
use Rattle.sv_names.specs.declared.checked.Fault.{Fault}
use Rattle.sv_names.specs.declared.checked.Checked.{Checked}
use Rattle.sv_names.specs.declared.checked.Checked.TheVariants.{Good, Broken}
use Rattle.sv_names.specs.declared.typed.How.{How}
use Rattle.sv_names.specs.declared.typed.Target.{Target}
use Rattle.sv_names.specs.declared.typed.Typed.{Typed}
use Rattle.sv_names.specs.Checked.{◌▷◌, ◌where_also◌, also_broken}
use Rattle.sv_names.specs.Expressions.{as_target, or_before}
use Rattle.sv_names.specs.Named.{Around}
use Rattle.sv_names.specs.Targets.{Spot, may_begin, selects_stand, may_be_written}
use Rattle.sv_names.specs.Things.{Thing, one_spot, thing_target}

-- the first of two that is there
abbrev pub or_else : {A : Type 0} → Option A → Option A → Option A
or_else (Some x) y = Some x
or_else None y = y

-- what stood before a part that broke a rule, or stands before the next one where that breaks one
abbrev pub kept : Option Typed → Option Typed → (next : Checked Thing) → Option Typed
kept (Some t) made next = Some t
kept None made (Broken f) = made
kept None made (Good th) = None

-- a target of which one bit is written, at an index
abbrev pub one_bit_of : (is_item : Bool) → (index : flat.Expr) → Target → Target
one_bit_of item i t =
    record t { is_item = item; part = Some (record { width = 1; offset = pos 0; is_falling = false; index = i }) }

-- ---- what a target breaks

-- E11, E18, E19, E21, E26, E47: the rules that need its name alone
abbrev pub name_stands : How → Place → Typed → Checked (Unit {0})
name_stands h at t = may_begin h at t t.target.begins where_also selects_stand h t.target.moving

-- the same of what stands before a broken part, or else of the whole
abbrev pub first_stands : How → Place → (before : Option Typed) → (whole : Typed) → Checked (Unit {0})
first_stands h at (Some b) t = name_stands h at b
first_stands h at None t = name_stands h at t

-- a target of one part, and what a broken one breaks beside
abbrev pub one_or : Checked Spot → Checked (Unit {0}) → Checked (List Spot)
one_or (Good s) stands = Good (s ∷ [])
one_or (Broken f) stands = also_broken f stands

-- what is a target, or else the rule that is broken
abbrev pub spot_of : How → Place → Fault → Option Typed → Checked (List Spot)
spot_of h at f None = Broken f
spot_of h at f (Some t) = one_spot (may_be_written h at t)

-- a target as it is written, or the rules that it breaks, with those of what stood before its first broken part
abbrev pub spot_step : How → Place → Fault → (target : Option Typed) → (before : Option Typed) → Checked (List Spot)
spot_step h at f t b = or_before h at (spot_of h at f t) (λ _. or_else b t)

-- the same of a thing
abbrev pub target_step : Around → How → Place → Checked Thing → (before : Option Typed) → Checked (List Spot)
target_step ar h at th b = or_before h at (th ▷ thing_target ar h at) (λ _. or_else b (as_target ar th))

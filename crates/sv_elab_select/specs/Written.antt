-- Targets, judged before they are made (IEEE 1800-2017, 10.3, 10.4 and 14.16).
use Rattle.std.specs.Prelude.{true, false, List, [], ◌∷◌, None, if◌then◌else◌}
use Rattle.sv_value.specs.declared.place.Place.{Place}
use Rattle.sv_flat.specs.declared.target.Lvalue.{Lvalue}
use Rattle.sv_flat.specs.Expr as flat
use Rattle.sv_names.specs.declared.ty.Ty.{Ty}
use Rattle.sv_names.specs.declared.hoisted.Hoisted.{Hoisted}
use Rattle.sv_names.specs.declared.typed.How.{How}
use Rattle.sv_names.specs.declared.typed.Target.{Target}
use Rattle.sv_names.specs.declared.typed.Typed.{Typed}
use Rattle.sv_names.specs.declared.checked.Checked.{Checked}
use Rattle.sv_names.specs.Checked.{◌▷◌, broken_at, ◌where_also◌, all, only}
use Rattle.sv_names.specs.Types.{is_fixed, data_of, plain_vector}
use Rattle.sv_names.specs.Hoisted.{pure, paired}
use Rattle.sv_names.specs.Named.{Around}
use Rattle.sv_names.specs.Values.{not_too_wide, value_typed, assigned}
use Rattle.sv_names.specs.Targets.{Spot, may_begin, selects_stand, in_concatenation, widths, lvalue}

-- E18, E19, E21, E26, E42, E47: what is written may be written
abbrev pub begin_stands : How → Place → Typed → Checked (Unit {0})
begin_stands h at t = if is_fixed t.ty then broken_at 42 t.at else may_begin h at t t.target.begins

-- E11 beside these: its selects too
abbrev pub target_stands : How → Place → Typed → Checked (Unit {0})
target_stands h at t = begin_stands h at t where_also selects_stand h t.target.moving

-- E13, E15, E42: the parts of a concatenation are numbers, and together no wider than a vector
abbrev pub parts_stand : Place → List Spot → Checked (Unit {0})
parts_stand at ss = all in_concatenation ss ▷ (λ _. not_too_wide at (widths ss))

-- ---- in the flat design

-- what a target at a place writes to
abbrev pub lvalue_at : Around → Place → Target → Lvalue
lvalue_at ar at t =
    record { at = at; through = t.through; base = t.base; part = t.part; ty = data_of ar.numbers t.whole }

-- what a part of a target writes to
abbrev pub lvalue_value : Around → Typed → Lvalue
lvalue_value ar t = lvalue_at ar t.at t.target

-- a part, and those that stand behind it
abbrev pub put_first : Hoisted Lvalue → Hoisted (List Lvalue) → Hoisted (List Lvalue)
put_first l ls = paired (λ x xs. x ∷ xs) l ls

-- parts, and those that stand behind them
abbrev pub written_before : Around → List Spot → Hoisted (List Lvalue) → Hoisted (List Lvalue)
written_before ar [] ls = ls
written_before ar (s ∷ ss) ls = put_first (lvalue ar s.1) (written_before ar ss ls)

-- parts as they are read, and what stands to the right of them
abbrev pub reads_before : List Spot → Hoisted flat.Expr → Hoisted flat.Expr
reads_before [] r = r
reads_before (s ∷ ss) r = paired flat.Join s.1.code (reads_before ss r)

-- parts before a last one, which may be alone, as they are read
abbrev pub read_row : Place → Ty → List Spot → Typed → Typed
read_row at t [] last = last
read_row at t (s ∷ ss) last = value_typed t at false (reads_before (s ∷ ss) last.code)

-- E16, E17, E42: a value of a type can be given to a variable of another one
abbrev pub type_takes : Around → Place → Ty → Ty → Checked (Unit {0})
type_takes ar at t to = only (assigned ar to at (value_typed t at false (pure (flat.Handle None))))

-- the type of a concatenation of targets
abbrev pub whole_type : List Spot → Ty
whole_type ss = plain_vector (widths ss) false true

-- what is read where a target has no parts
abbrev pub read_nothing : Place → Typed
read_nothing at = value_typed (plain_vector 1 false false) at false (pure (flat.Handle None))

-- The values of enum items (IEEE 1800-2017, 6.19).
use Rattle.std.specs.Prelude.{ℕ, ◌-◌, ◌^◌, Bool, ◌&&◌, Some, if◌then◌else◌, nat_lt, ℤ, pos, ◌+ℤ◌, unsigned_abs}
use Rattle.sv_value.specs.declared.place.Place.{Place}
use Rattle.sv_value.specs.declared.val.Integral.{Integral}
use Rattle.sv_value.specs.Vector.{Vector, vector}
use Rattle.sv_value.specs.Operators.{integer_symbols}
use Rattle.sv_flat.specs.Expr as flat
use Rattle.sv_names.specs.declared.checked.Checked.{Checked}
use Rattle.sv_names.specs.declared.checked.Checked.TheVariants.{Good}
use Rattle.sv_names.specs.Checked.{broken_at}
use Rattle.sv_names.specs.Declarations.{fits_in}

-- whether a number that is not below 0 lies in a type
abbrev pub fits_above : Integral → ℤ → Bool
fits_above i z = nat_lt (unsigned_abs z) (2 ^ (if i.signed then i.width - 1 else i.width))

-- whether one below 0 does
abbrev pub fits_below : Integral → ℤ → Bool
fits_below i z = i.signed && nat_lt (unsigned_abs (z +ℤ pos 1)) (2 ^ (i.width - 1))

-- E56: so many after a number
abbrev pub number_after : Place → Integral → ℕ → ℤ → Checked Vector
number_after at i steps n =
    if fits_in i n && fits_in i (n +ℤ pos steps) then Good (vector i.signed (integer_symbols i.width (n +ℤ pos steps)))
    else broken_at 56 at

-- a literal that fills its context, at a width
abbrev pub filled : ℕ → flat.Expr → flat.Expr
filled w (flat.Literal v (Some s)) = flat.Widen w v.signed (flat.Literal v (Some s))
filled w e = e

-- The skews of clocking blocks, in steps (IEEE 1800-2017, 14.4).
use Rattle.std.specs.Prelude.{ℕ, ◌^◌, Bool, Option, Some, if◌then◌else◌, nat_lt}
use Rattle.sv_value.specs.declared.place.Place.{Place}
use Rattle.sv_tree.specs.Units as tree
use Rattle.sv_tree.specs.Units.{ClockingItem}
use Rattle.sv_names.specs.declared.checked.Checked.{Checked}
use Rattle.sv_names.specs.declared.checked.Checked.TheVariants.{Good}
use Rattle.sv_names.specs.Checked.{broken_at}
use Rattle.sv_names.specs.Clockings as clockings
use Rattle.sv_names.specs.Named.{Around}
use Rattle.sv_elab_clocking.specs.declared.skews.Skews.{Skews}

-- the skews of the program
abbrev pub skews_in : Skews → clockings.Skews
skews_in s = record { input = s.input; output = s.output }

-- E57: a skew is above 2^20 ticks
abbrev pub limited : Place → ℕ → Checked (Option ℕ)
limited at n = if nat_lt (2 ^ 20) n then broken_at 57 at else Good (Some n)

-- a skew in place of the one before
abbrev pub taken : clockings.Skews → (is_input : Bool) → Option ℕ → clockings.Skews
taken k b n = if b then record k { input = n } else record k { output = n }

-- the skews behind an item
abbrev pub after_item : Around → clockings.Skews → ClockingItem → Checked clockings.Skews
after_item ar k (tree.Default ss) = clockings.with_skews ar k ss
after_item ar k (tree.Signals ds ns) = Good k

-- The rules on two writers of one object, for one write and the others (IEEE 1800-2017, 6.5, 9.2.2 and 10.3).
use Rattle.std.specs.Prelude.{ℕ, Bool, not, ◌&&◌, ◌||◌, List, [], ◌∷◌, ◌==◌, if◌then◌else◌}
use Rattle.sv_names.specs.declared.checked.Checked.{Checked}
use Rattle.sv_names.specs.Checked.{rule, place_before, all}
use Rattle.sv_names.specs.Types.{Path, same_path}
use Rattle.sv_names.specs.Writers.{Write, Writer, is_continuous, is_alone, same_continuous, comes_first, some}
use Rattle.sv_elab_writers.specs.declared.clashes.Law.{Law}
use Rattle.sv_elab_writers.specs.declared.clashes.Law.TheVariants as law

-- one of the two writes continuously, and the second stands before the first
abbrev pub clashes_continuous : Write → Write → Bool
clashes_continuous w v =
    (is_continuous v.writer || is_continuous w.writer) && place_before v.at w.at && same_path v.object w.object
    && not (same_continuous v w)

-- they are of two processes one of which writes alone, and the second comes before the first
abbrev pub clashes_alone : Write → Write → Bool
clashes_alone w v =
    (is_alone v.writer || is_alone w.writer) && not (v.process == w.process) && comes_first v w
    && same_path v.object w.object

-- either of the two
abbrev pub clashes : Law → Write → Write → Bool
clashes law.Continuous = clashes_continuous
clashes law.Alone = clashes_alone

-- whether a write of such a writer lets no other beside it; a clash needs one
abbrev pub is_strict : Law → Writer → Bool
is_strict law.Continuous = is_continuous
is_strict law.Alone = is_alone

-- whether a write lets no other beside it
abbrev pub strict : Law → Write → Bool
strict l w = is_strict l w.writer

-- a write, where it lets no other beside it
abbrev pub strict_of : Law → Write → List Write
strict_of l w = if is_strict l w.writer then w ∷ [] else []

-- the number of its rule
abbrev pub number_of : Law → ℕ
number_of law.Continuous = 20
number_of law.Alone = 22

-- the rule for one write
abbrev pub stands : Law → List Write → Write → Checked (Unit {0})
stands l ws w = rule (number_of l) w.at (some (clashes l w) ws)

-- the rule for each write
abbrev pub all_stand : Law → List Write → Checked (Unit {0})
all_stand l ws = all (stands l ws) ws

-- whether an object is written continuously
abbrev pub continues : Path → Write → Bool
continues p v = is_continuous v.writer && same_path v.object p

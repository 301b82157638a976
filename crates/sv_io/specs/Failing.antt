-- The lists of calls that fail, of sinks and shelves in memory.
use Rattle.std.specs.Prelude.{ℕ, List, [], ◌∷◌, Option, Some, None, ◌==◌, if◌then◌else◌}
use Rattle.sv_io.specs.declared.failing.FailAt.{FailAt}

-- how a call fails, by the first entry of its number; none where it does not
abbrev pub failing_at : List FailAt → ℕ → Option FailAt
failing_at [] call = None
failing_at (f ∷ fs) call = if f.call == call then Some f else failing_at fs call

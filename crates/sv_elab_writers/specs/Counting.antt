-- What passes a limit, counted from what is declared so far.
use Rattle.std.specs.Prelude.{ℕ, List, filter}
use Rattle.sv_names.specs.declared.checked.Checked.{Checked}
use Rattle.sv_names.specs.Writers.{Touch}
use Rattle.sv_names.specs.Sources.{Process, counted, at_most, is_first_process}
use Rattle.sv_elab_writers.specs.declared.limits.Counts.{Counts}

-- objects and elements from such counts on
abbrev pub counted_from : Counts → List Touch → Checked (Unit {0})
counted_from n ts = counted n.objects n.elements ts

-- so many processes, the outputs of clocking blocks apart
abbrev pub at_most_of : ℕ → List Process → Checked (Unit {0})
at_most_of n ps = at_most n (filter is_first_process ps)

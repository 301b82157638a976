-- Processes, subroutines and variables that are put behind others.
use Rattle.std.specs.Prelude.{◌≡◌, ◌++◌, List, map}
use Rattle.sv_names.specs.Sources as sources
use Rattle.sv_names.specs.Writers as writers
use Rattle.sv_elab_writers.specs.declared.touch.Initialized.{Initialized}
use Rattle.sv_elab_writers.specs.declared.touch.Process.{Process}
use Rattle.sv_elab_writers.specs.declared.touch.Routine.{Routine}
use Rattle.sv_elab_writers.specs.Views.{initialized_in, process_in, routine_in}

-- processes
abbrev pub Run : List Process → List Process → List sources.Process → Type 0
Run before after ps = map process_in after ≡ map process_in before ++ ps

-- subroutines
abbrev pub Tabled : List Routine → List Routine → writers.Table → Type 0
Tabled before after rs = map routine_in after ≡ map routine_in before ++ rs

-- variables with initializers
abbrev pub Listed : List Initialized → List Initialized → List writers.Initialized → Type 0
Listed before after is = map initialized_in after ≡ map initialized_in before ++ is

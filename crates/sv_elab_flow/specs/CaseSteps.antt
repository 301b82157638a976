-- `case` item by item (IEEE 1800-2017, 12.5).
use Rattle.std.specs.Prelude.{List, Option, Some, None}
use Rattle.sv_value.specs.declared.number.RoutineId.{RoutineId}
use Rattle.sv_flat.specs.declared.stmt.Form.{Form}
use Rattle.sv_flat.specs.declared.stmt.Form.TheVariants as form
use Rattle.sv_tree.specs.declared.word.CaseWord.{CaseWord}
use Rattle.sv_tree.specs.Stmt.{CaseItems}
use Rattle.sv_names.specs.declared.hoisted.Hoisted.{Hoisted}
use Rattle.sv_names.specs.Cases.{Heads, case_of, items_of, with_labels, default_in}
use Rattle.sv_names.specs.Hoisted.{mapped}

-- a default, where no later one is
abbrev pub or_later : Option RoutineId → Option RoutineId → Option RoutineId
or_later d None = d
or_later d (Some r) = Some r

-- a `case` over the routines of its items
abbrev pub case_form : CaseWord → CaseItems → Hoisted Heads → List RoutineId → Hoisted Form
case_form w is h rs = mapped (λ p. form.Case (case_of w) p.0 (items_of p.1 (with_labels is rs)) (default_in is rs)) h

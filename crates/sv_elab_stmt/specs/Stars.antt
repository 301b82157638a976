-- `@*` before statements (IEEE 1800-2017, 9.4.2.2).
use Rattle.std.specs.Prelude.{ℕ, List, [], ◌∷◌}
use Rattle.sv_value.specs.declared.place.Place.{Place}
use Rattle.sv_flat.specs.declared.class.Routine.{Routine}
use Rattle.sv_flat.specs.declared.stmt.Stmt.{Stmt}
use Rattle.sv_flat.specs.declared.stmt.Form.TheVariants as form
use Rattle.sv_names.specs.Watched.{star_watches}

-- `@*` before statements that add these routines from a number on
abbrev pub starred : Place → ℕ → List Routine → List Stmt → List Stmt
starred at n rs ss = record { at = at; hidden = []; calls = []; form = form.At (star_watches n (ss, rs)) } ∷ ss

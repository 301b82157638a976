-- What a function that makes a process answers, against its definition.
use Rattle.std.specs.Prelude.{◌≡◌, List, [], ◌∷◌, ◌++◌, length, Option, Some, None, Result, Ok, Err}
use Rattle.sv_flat.specs.declared.class.Routine.{Routine}
use Rattle.sv_flat.specs.declared.process.Process.{Process}
use Rattle.sv_names.specs.declared.checked.Checked.{Checked}
use Rattle.sv_names.specs.declared.checked.Checked.TheVariants.{Good}
use Rattle.sv_names.specs.declared.refusal.Refusal.{Refusal}
use Rattle.sv_names.specs.Connections.{Made}
use Rattle.sv_names.specs.Given.{Fails}
use Rattle.sv_names.specs.Types.{Path}

-- a process, its routines behind others, and the nets that it drives behind those that are driven before
pub record IsProcess (before before' : List Path) (routines routines' : List Routine) (p : Process) (m : Made) : Type 0 where
  pub value : p ≡ ((m.make before).make (length routines)).0
  pub added : routines' ≡ routines ++ ((m.make before).make (length routines)).1
  pub drives : before' ≡ before ++ m.drives

-- a process, or the first rule that is broken; or memory ran out
abbrev pub EmitsProcess : (before before' : List Path) → (routines routines' : List Routine) → Result Process Refusal → Checked Made → Type 0
EmitsProcess b b' rs rs' (Ok p) c = (m : Made) × (c ≡ Good m) × IsProcess b b' rs rs' p m
EmitsProcess b b' rs rs' (Err e) c = Fails e c

-- a process, if there is one
abbrev pub EmitsAny :
    (before before' : List Path) → (routines routines' : List Routine) → Result (Option Process) Refusal → Checked (List Made) → Type 0
EmitsAny b b' rs rs' (Ok None) c = (c ≡ Good []) × (b' ≡ b) × (rs' ≡ rs)
EmitsAny b b' rs rs' (Ok (Some p)) c = (m : Made) × (c ≡ Good (m ∷ [])) × IsProcess b b' rs rs' p m
EmitsAny b b' rs rs' (Err e) c = Fails e c

-- What is found to be written and called, behind what was found before.
use Rattle.std.specs.Prelude.{◌≡◌, Bool, true, false, not, ◌&&◌, List, [], ◌∷◌, ◌++◌, Option, Some, map, if◌then◌else◌}
use Rattle.sv_value.specs.declared.place.Place.{Place}
use Rattle.sv_tree.specs.declared.expr.Root.{Root}
use Rattle.sv_tree.specs.Expr as tree
use Rattle.sv_tree.specs.Expr.{place_of_root}
use Rattle.sv_names.specs.declared.checked.Checked.{Checked}
use Rattle.sv_names.specs.declared.checked.Checked.TheVariants.{Good, Broken}
use Rattle.sv_names.specs.declared.named.Formal.{Formal}
use Rattle.sv_names.specs.declared.named.Callee.{Callee}
use Rattle.sv_names.specs.Types.{Path}
use Rattle.sv_names.specs.declared.typed.How.TheVariants.{Statement}
use Rattle.sv_names.specs.declared.typed.Typed.{Typed}
use Rattle.sv_names.specs.Calls.{is_output}
use Rattle.sv_names.specs.Expressions.{with_dollar, before_select}
use Rattle.sv_names.specs.Named.{Around}
use Rattle.sv_names.specs.Targets.{Spot}
use Rattle.sv_names.specs.Things.{Thing, A_value, Its_result, dollar_in, root_thing}
use Rattle.sv_names.specs.Writers as writers
use Rattle.sv_names.specs.Writers.{target_touches, selected_touches, spot_touches, bare_touches, call_touches, exprs_touches, expr_touches, suffix_touches}
use Rattle.sv_elab_writers.specs.declared.touch.Touch.{Touch}
use Rattle.sv_elab_writers.specs.Views.{touch_in}
use Rattle.sv_elab_touch.specs.declared.quiet.Alone.{Alone}
use Rattle.sv_elab_touch.specs.declared.quiet.Alone.TheVariants.{Variable, Nothing}

-- touches that are put behind others
abbrev pub Touched : List Touch → List Touch → List writers.Touch → Type 0
Touched before after ts = map touch_in after ≡ map touch_in before ++ ts

-- the objects of a target that breaks no rule
abbrev pub good_touches : Checked (List Spot) → List writers.Touch
good_touches (Good ss) = spot_touches ss
good_touches (Broken f) = []

-- an argument, where it is a target
abbrev pub output_touch : Around → Formal → tree.Expr → List writers.Touch
output_touch ar f e = if is_output f.direction then target_touches Statement ar e else []

-- what the first suffix behind a thing writes and calls
abbrev pub step_touches : Around → Checked Thing → tree.Suffixes → List writers.Touch
step_touches ar th tree.NoSuffix = []
step_touches ar th (tree.Member n rest) = bare_touches ar th
step_touches ar th (tree.Call at es rest) = call_touches ar th es ++ exprs_touches ar es
step_touches ar th (tree.Select at i rest) = bare_touches ar th ++ expr_touches (with_dollar (dollar_in th) ar) i
step_touches ar th (tree.Part at w l r rest) = bare_touches ar th ++ expr_touches ar l

-- what a name alone writes
abbrev pub alone_touches : Place → Alone → List writers.Touch
alone_touches at (Variable p) = writers.Writes at p.now ∷ []
alone_touches at Nothing = []

-- whether a value, or what breaks a rule
abbrev pub is_value : Checked Thing → Bool
is_value (Good (A_value t)) = true
is_value (Broken f) = true
is_value th = false

-- the object before a broken select
abbrev pub broken_touches : Around → Root → tree.Suffixes → List writers.Touch
broken_touches ar r s = selected_touches (place_of_root r) (before_select ar (place_of_root r) (root_thing ar r) s)

-- whether a part breaks a rule, with something before it
abbrev pub stops : Option Typed → Checked Thing → Bool
stops (Some t) (Broken f) = true
stops before next = false

-- what may override a method of a class, where a call of it is virtual
abbrev pub virtual_touches : Callee → Path → (is_direct : Bool) → List writers.Touch
virtual_touches c p direct =
    if c.is_virtual && not direct && not c.is_static then writers.Calls_virtual p c.name.text ∷ [] else []

-- whether a function inside itself
abbrev pub is_result : Checked Thing → Bool
is_result (Good (Its_result c o v at)) = true
is_result th = false

-- what a name with what follows it writes and calls
abbrev pub name_touches : Around → Root → tree.Suffixes → List writers.Touch
name_touches ar r s = suffix_touches ar (place_of_root r) (root_thing ar r) s

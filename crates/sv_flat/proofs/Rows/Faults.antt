-- Ends of processes, and which of two faults is met.
use Rattle.std.proofs.Common.{◌≡◌, true, false, [], ◌∷◌, List, refl}
use Rattle.std.specs.Prelude.{Some, None, codes}
use Rattle.sv_value.specs.Vector.{symbols_of, word_of}
use Rattle.sv_value.specs.declared.place.FaultKind.TheVariants.{Null, Length}
use Rattle.sv_value.specs.declared.val.Plain.TheVariants as plain
use Rattle.sv_flat.specs.declared.choices.Choices.TheVariants.{Listed}
use Rattle.sv_flat.specs.declared.object.DataType.TheVariants as type
use Rattle.sv_flat.specs.declared.stmt.Form.{Form}
use Rattle.sv_flat.specs.declared.stmt.Form.TheVariants as form
use Rattle.sv_flat.specs.declared.target.Lvalue.{Lvalue}
use Rattle.sv_flat.specs.declared.target.Base.TheVariants as base
use Rattle.sv_flat.specs.declared.design.Parts.{Parts}
use Rattle.sv_flat.specs.Expr as expr
use Rattle.sv_flat.specs.Effects.Ends.{is_over}
use Rattle.sv_flat.specs.Directed.{directed, Done, Faulted}
use Rattle.sv_flat.proofs.Rows.Kit.{here, body, initial, design, object, variable_of, number, ends}

-- `initial $finish;`
abbrev finish : Parts
finish = design [] (initial 0 ∷ []) (body (form.Finish ∷ []) ∷ [])

-- its process has ended after the slot begins, the process is taken and the statement runs
finish_over : is_over (directed finish (Listed []) (Listed []) 3) (record { 0 = 0 }) ≡ true
finish_over = refl

finish_done : ends finish [] 4 ≡ Done
finish_done = refl

-- `class C; string f; endclass C h;` and a value of more than 65,535 bytes
abbrev null_field : List Lvalue
null_field =
    record {
      at = here;
      through = None;
      base = base.Field (expr.Object here (object 0) (type.Plain (plain.Class (record { 0 = 0 })))) 0;
      part = None;
      ty = type.Plain plain.Text;
    } ∷ []

abbrev too_long : expr.Expr
too_long = expr.Repeat 256 (expr.Repeat 256 (expr.Text (codes "a")))

abbrev assigning : Form → Parts
assigning f = design (variable_of (type.Plain (plain.Class (record { 0 = 0 }))) ∷ []) (initial 0 ∷ []) (body (f ∷ []) ∷ [])

-- `h.f <= {256{ {256{"a"}} }};`: the target comes first
target_first : ends (assigning (form.Nonblocking null_field too_long None false)) [] 3 ≡ Faulted (record { kind = Null; at = here; time = 0 })
unfolding symbols_of word_of
target_first = refl

-- `h.f <= #1 {256{ {256{"a"}} }};`: where there is a delay the value does
value_first : ends (assigning (form.Nonblocking null_field too_long (Some (number 1)) false)) [] 3 ≡ Faulted (record { kind = Length; at = here; time = 0 })
unfolding symbols_of word_of
value_first = refl

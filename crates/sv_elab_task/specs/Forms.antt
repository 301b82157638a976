-- The statements that calls are.
use Rattle.std.specs.Prelude.{None}
use Rattle.sv_flat.specs.declared.call.CallForm.{CallForm}
use Rattle.sv_flat.specs.declared.stmt.Form.{Form}
use Rattle.sv_flat.specs.declared.stmt.Form.TheVariants as form
use Rattle.sv_names.specs.declared.hoisted.Hoisted.{Hoisted}
use Rattle.sv_names.specs.Hoisted.{mapped}

-- a call whose result is dropped
abbrev pub bare : Hoisted CallForm → Hoisted Form
bare f = mapped (λ x. form.Call (record { form = x; result = None })) f

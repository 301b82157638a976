-- The result variable of a function, where it is found (IEEE 1800-2017, 12.8 and 13.4.1).
use Rattle.std.specs.Prelude.{ℕ, List, [], ◌∷◌, Option, Some, None}
use Rattle.sv_value.specs.declared.place.Place.{Place}
use Rattle.sv_flat.specs.declared.target.Lvalue.{Lvalue}
use Rattle.sv_flat.specs.declared.target.Base.TheVariants as base
use Rattle.sv_names.specs.declared.hoisted.Hoisted.{Hoisted}
use Rattle.sv_names.specs.declared.named.Named.{Named}
use Rattle.sv_names.specs.declared.named.ResultVariable.{ResultVariable}
use Rattle.sv_names.specs.declared.named.ResultVariable.TheVariants as result_variable
use Rattle.sv_names.specs.Hoisted.{pure}
use Rattle.sv_names.specs.Named.{Around, further, result_named}
use Rattle.sv_names.specs.Types.{data_of}
use Rattle.sv_elab_flow.specs.declared.results.ResultFound.{ResultFound}

-- a result variable, as it is seen from further in
abbrev pub result_at : ℕ → ℕ → ResultVariable → ResultVariable
result_at up place (result_variable.Object p t) = result_variable.Object p t
result_at up place (result_variable.Local u p t) = result_variable.Local up place t

-- what it stands for
abbrev pub result_in : ResultFound → Named
result_in f = result_named (result_at f.up f.place f.variable.now)

-- what is written
abbrev pub lvalue_of : Around → Place → ResultVariable → Lvalue
lvalue_of ar at (result_variable.Object p t) =
    record { at = at; through = None; base = base.Object (ar.numbers.object p); part = None; ty = data_of ar.numbers t }
lvalue_of ar at (result_variable.Local u p t) =
    record { at = at; through = None; base = base.Local (further u ar.up) p; part = None; ty = data_of ar.numbers t }

-- the result variable as a target
abbrev pub result_lvalue : Around → Place → ResultFound → Lvalue
result_lvalue ar at f = lvalue_of ar at (result_at f.up f.place f.variable.now)

-- none, or the one that is found
abbrev pub targets_in : Around → Place → Option ResultFound → Hoisted (List Lvalue)
targets_in ar at None = pure []
targets_in ar at (Some f) = pure (result_lvalue ar at f ∷ [])

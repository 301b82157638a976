-- The types that names stand for, where they stand for some (IEEE 1800-2017, 6.18 and 20.6.2).
use Rattle.std.specs.Prelude.{Option, Some, None, if◌then◌else◌}
use Rattle.sv_value.specs.declared.place.Place.{Place}
use Rattle.sv_tree.specs.declared.word.Name.{Name}
use Rattle.sv_names.specs.declared.checked.Fault.{Fault}
use Rattle.sv_names.specs.declared.checked.Checked.{Checked}
use Rattle.sv_names.specs.declared.checked.Checked.TheVariants.{Good, Broken}
use Rattle.sv_names.specs.declared.named.Named.{Named}
use Rattle.sv_names.specs.declared.named.Named.TheVariants.{TypeName, ClassName}
use Rattle.sv_names.specs.declared.ty.Ty.{Ty}
use Rattle.sv_names.specs.Checked.{◌▷◌, broken_at}
use Rattle.sv_names.specs.Named.{Around, names_type, told_at}

-- E15: a class is none
abbrev pub type_meant : Place → Named → Option (Checked Ty)
type_meant at (TypeName t) = Some (Good t)
type_meant at (ClassName p) = Some (broken_at 15 at)
type_meant at n = None

-- the rule that the declaration of a type breaks
abbrev pub type_told : Around → Name → Fault → Option (Checked Ty)
type_told ar n f = if names_type ar n.text then Some (told_at n f ▷ (λ x. broken_at 7 n.at)) else None

-- the type of a declaration
abbrev pub type_declared : Around → Name → Checked Named → Option (Checked Ty)
type_declared ar n (Good m) = type_meant n.at m
type_declared ar n (Broken f) = type_told ar n f

-- of one that is found
abbrev pub type_found : Around → Name → Option (Checked Named) → Option (Checked Ty)
type_found ar n None = None
type_found ar n (Some c) = type_declared ar n c

-- What the statements of a constructor see (IEEE 1800-2017, 8.7 and 8.11).
use Rattle.sv_value.specs.declared.place.Place.{Place}
use Rattle.sv_names.specs.declared.checked.Checked.TheVariants.{Good}
use Rattle.sv_names.specs.declared.named.Kind.TheVariants.{Object as Of_object}
use Rattle.sv_names.specs.declared.named.Known.{Known}
use Rattle.sv_names.specs.declared.named.Named.TheVariants.{Local}
use Rattle.sv_names.specs.declared.ty.Ty.TheVariants.{Class}
use Rattle.sv_names.specs.Types.{Path}
use Rattle.sv_names.specs.Entries.{this_name}

-- the object of a constructor, by its name
abbrev pub this_known : Path → Place → Known
this_known k at = record { name = this_name at; kind = Of_object; value = Good (Local 0 0 (Class k)) }

-- The types of words and of names (IEEE 1800-2017, 6.11 and 6.18).
use Rattle.std.specs.Prelude.{false}
use Rattle.sv_tree.specs.declared.word.AtomWord.{AtomWord}
use Rattle.sv_tree.specs.declared.word.Name.{Name}
use Rattle.sv_tree.specs.declared.word.Sign.{Sign}
use Rattle.sv_names.specs.declared.checked.Checked.{Checked}
use Rattle.sv_names.specs.declared.ty.Ty.{Ty}
use Rattle.sv_names.specs.declared.ty.Ty.TheVariants.{Vector as Bit_vector}
use Rattle.sv_names.specs.Checked.{◌▷◌, ◌where_also◌}
use Rattle.sv_names.specs.Declarations.{is_signed, type_named}
use Rattle.sv_names.specs.Named.{Around, meaning, kind_stands, is_type_kind}
use Rattle.sv_names.specs.Operators.{atom_type}
use Rattle.sv_names.specs.Types.{whole}

-- the type of a word that has a width of its own
abbrev pub atom_of : AtomWord → Sign → Ty
atom_of w s = Bit_vector (record (atom_type w) { signed = is_signed (atom_type w).signed s }) (whole (atom_type w).width) false

-- E6, E7: the type of a name
abbrev pub named_type : Around → Name → Checked Ty
named_type ar n = meaning ar n where_also kind_stands ar 7 n.at is_type_kind n.text ▷ type_named n.at

-- Rules on classes (IEEE 1800-2017, 8.20 and 8.27).
use Rattle.std.specs.Prelude.{ℕ, Bool, true, false, not, ◌&&◌, List, Option, Some, None, codes, if◌then◌else◌}
use Rattle.sv_value.specs.declared.place.Place.{Place}
use Rattle.sv_tree.specs.declared.word.Name.{Name}
use Rattle.sv_names.specs.declared.checked.Checked.{Checked}
use Rattle.sv_names.specs.declared.named.Callee.{Callee}
use Rattle.sv_names.specs.declared.ty.Ty.{Ty}
use Rattle.sv_names.specs.Checked.{both, given, ◌▷◌, rule, fine}
use Rattle.sv_names.specs.Classes.{overrides}
use Rattle.sv_names.specs.Entries.{Declared, Entry, A_class}
use Rattle.sv_names.specs.Types.{same_bytes, same_type}

-- whether it is a class
abbrev pub is_class : Declared → Bool
is_class (A_class p) = true
is_class d = false

-- whether a declaration declares a class of the name
abbrev pub declares : List ℕ → Entry → Bool
declares x e = same_bytes x e.name.text && is_class e.what

-- whether two types are one
abbrev pub types_agree : Checked Ty → Checked Ty → Checked Bool
types_agree t u = given (λ p. same_type p.0 p.1) (both t u)

-- whether all is so
abbrev pub all_agree : Bool → Checked Bool → Checked Bool → Checked Bool
all_agree b x y = given (λ p. b && p.0 && p.1) (both x y)

-- E34: what must be so
abbrev pub agreed : Place → Checked Bool → Checked (Unit {0})
agreed at t = t ▷ (λ b. rule 34 at (not b))

-- E34: a method against that of a base, where it is virtual
abbrev pub against : Name → Callee → Option Callee → Checked (Unit {0})
against n c d = if same_bytes n.text (codes "new") then fine else of_base d
  where
    of_base : Option Callee → Checked (Unit {0})
    of_base None = fine
    of_base (Some x) = if x.is_virtual then overrides n c x else fine

-- Members of values that are no objects of a class.
use Rattle.std.proofs.Common.{◌≡◌, refl}
use Rattle.sv_tree.specs.declared.word.Name.{Name}
use Rattle.sv_names.specs.declared.ty.Ty.{Ty}
use Rattle.sv_names.specs.declared.ty.Ty.TheVariants.{Class}
use Rattle.sv_names.specs.declared.typed.Typed.{Typed}
use Rattle.sv_names.specs.Checked.{given, unless}
use Rattle.sv_names.specs.Methods.{method_of}
use Rattle.sv_names.specs.Named.{Around}
use Rattle.sv_names.specs.Types.{Path}
use Rattle.sv_names.specs.Things.{A_method, value_member}

-- they are methods of the language
pub value_other : (ar : Around) (n : Name) (o : Typed) (t : Ty) → ((k : Path) → t ≡ Class k → ⊥)
    → value_member ar n o t ≡ given (λ m. A_method m o n.at) (unless 36 n.at (method_of t n.text))
value_other ar n o (Class k) other = absurd (other k refl)
value_other ar n o t other = refl

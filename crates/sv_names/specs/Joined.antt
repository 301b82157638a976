-- Lists of parts, each of which may break a rule, as loops put them together.
use Rattle.std.specs.Prelude.{List, [], ◌∷◌, ◌++◌}
use Rattle.sv_names.specs.declared.checked.Checked.{Checked}
use Rattle.sv_names.specs.declared.checked.Checked.TheVariants.{Good, Broken}
use Rattle.sv_names.specs.declared.checked.Fault.{Fault}
use Rattle.sv_names.specs.Checked.{both, given, earlier}

-- a list, and one more part behind it
abbrev pub put_behind : {A : Type 0} → Checked (List A) → Checked A → Checked (List A)
put_behind xs x = given (λ p. p.0 ++ p.1 ∷ []) (both xs x)

-- the first rule that is broken, of one and of what stands behind it
abbrev pub earlier_in : {A : Type 0} → Fault → Checked A → Fault
earlier_in f (Good x) = f
earlier_in f (Broken g) = earlier f g

-- one list behind another
abbrev pub joined : {A : Type 0} → Checked (List A) → Checked (List A) → Checked (List A)
joined xs ys = given (λ p. p.0 ++ p.1) (both xs ys)

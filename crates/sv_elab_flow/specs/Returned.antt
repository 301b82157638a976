-- `return`, by what it is to give (IEEE 1800-2017, 12.8).
use Rattle.std.specs.Prelude.{List, [], Some, None}
use Rattle.sv_value.specs.declared.place.Place.{Place}
use Rattle.sv_flat.specs.declared.stmt.Form.{Form}
use Rattle.sv_flat.specs.declared.stmt.Form.TheVariants as form
use Rattle.sv_flat.specs.declared.target.Lvalue.{Lvalue}
use Rattle.sv_flat.specs.Expr as flat
use Rattle.sv_tree.specs.Expr as tree
use Rattle.sv_tree.specs.Expr.{place_of}
use Rattle.sv_names.specs.declared.around.Returns.{Returns}
use Rattle.sv_names.specs.declared.around.Returns.TheVariants.{Outside, NoValue, SomeValue}
use Rattle.sv_names.specs.declared.checked.Checked.{Checked}
use Rattle.sv_names.specs.declared.checked.Checked.TheVariants.{Good, Broken}
use Rattle.sv_names.specs.declared.checked.Fault.{Fault}
use Rattle.sv_names.specs.declared.hoisted.Hoisted.{Hoisted}
use Rattle.sv_names.specs.declared.ty.Ty.{Ty}
use Rattle.sv_names.specs.declared.typed.Typed.{Typed}
use Rattle.sv_names.specs.Checked.{both, ◌▷◌, given, broken_at, ◌where_also◌, only}
use Rattle.sv_names.specs.Expressions.{expr}
use Rattle.sv_names.specs.Hoisted.{pure, paired}
use Rattle.sv_names.specs.Named.{Around}
use Rattle.sv_names.specs.Statements.{result_targets}
use Rattle.sv_names.specs.Types.{Path}
use Rattle.sv_names.specs.Values.{assigned}

-- a result, in its variable
abbrev pub result_form : Hoisted (List Lvalue) → Hoisted flat.Expr → Hoisted Form
result_form ls v = paired (λ l x. form.Return l (Some x)) ls v

-- E16, E17, E42: a value of the type of the function
abbrev pub result_given : Around → Place → Path → Ty → Place → Typed → Checked (Hoisted Form)
result_given ar at p to pv t = given (result_form (result_targets ar at p)) (assigned ar to pv t)

-- `return e` in a function
abbrev pub result_of : Around → Place → Path → Checked Ty → tree.Expr → Checked (Hoisted Form)
result_of ar at p t e = both t (expr ar e) ▷ (λ q. result_given ar at p q.0 (place_of e) q.1)

-- a rule that `return` breaks beside its value
abbrev pub beside : Fault → Checked Typed → Checked (Hoisted Form)
beside f x = Broken f where_also only x

-- E29, E30: without a value
abbrev pub bare : Place → Returns → Checked (Hoisted Form)
bare word Outside = broken_at 29 word
bare word NoValue = Good (pure (form.Return [] None))
bare word (SomeValue p t) = broken_at 30 word

-- What it is that a typed expression has in a run the width and the sign of its type (IEEE 1800-2017, 11.6 and 11.8).
use Rattle.std.specs.Prelude.{◌≡◌, ℕ, List, [], ◌∷◌, Option, Some, None}
use Rattle.sv_value.specs.declared.place.Place.{Place}
use Rattle.sv_value.specs.declared.val.Integral.{Integral}
use Rattle.sv_flat.specs.Expr as flat
use Rattle.sv_flat.specs.Eval.{width_of, is_signed}
use Rattle.sv_names.specs.declared.around.ClassInfo.{ClassInfo}
use Rattle.sv_names.specs.declared.around.Dollar.{Dollar}
use Rattle.sv_names.specs.declared.around.Dollar.TheVariants.{LastIndex}
use Rattle.sv_names.specs.declared.checked.Checked.{Checked}
use Rattle.sv_names.specs.declared.checked.Checked.TheVariants.{Good, Broken}
use Rattle.sv_names.specs.declared.element.Element.{Element}
use Rattle.sv_names.specs.declared.element.Element.TheVariants as element
use Rattle.sv_names.specs.declared.named.Callee.{Callee}
use Rattle.sv_names.specs.declared.named.Known.{Known}
use Rattle.sv_names.specs.declared.named.Named.{Named}
use Rattle.sv_names.specs.declared.named.Named.TheVariants as named
use Rattle.sv_names.specs.declared.named.ResultVariable.{ResultVariable}
use Rattle.sv_names.specs.declared.named.ResultVariable.TheVariants as result_variable
use Rattle.sv_names.specs.declared.named.SignalInfo.{SignalInfo}
use Rattle.sv_names.specs.declared.scope.Scope.{Scope}
use Rattle.sv_names.specs.declared.ty.Ty.{Ty}
use Rattle.sv_names.specs.declared.ty.Ty.TheVariants.{Enum, MailboxOf, Queue, Dynamic, Assoc, Fixed}
use Rattle.sv_names.specs.declared.typed.Typed.{Typed}
use Rattle.sv_names.specs.Named.{Around, found, member_of}
use Rattle.sv_names.specs.Types.{Path, int_type, width_of_type, sign_of_type}

-- ---- an expression and its type

-- an expression of the flat design with the width and the sign of a type
pub record RunsAs (t : Ty) (e : flat.Expr) : Type 0 where
  pub width : width_of e ≡ width_of_type t
  pub sign : is_signed e ≡ sign_of_type t

-- what holds a whole variable
abbrev pub IsVariable : flat.Expr → Type 0
IsVariable (flat.Object at o t) = Unit {0}
IsVariable (flat.Local up p t) = Unit {0}
IsVariable (flat.Field p t e) = Unit {0}
IsVariable (flat.Static r e) = IsVariable e
IsVariable e = ⊥

-- the same; a whole fixed array, which has no value of its own, is the variable that holds it (7.4)
abbrev pub Runs : Ty → flat.Expr → Type 0
Runs (Fixed b t) e = IsVariable e
Runs t e = RunsAs t e

-- ---- each enum is declared once

-- the integral type of each enum, by its scope and its first token (6.19)
abbrev pub Enums : Type 0
Enums = Path → Place → Integral

-- whether the items of an array have their enum's
abbrev pub IsItem : Enums → Element → Type 0
IsItem enums (element.Enum s at t b w) = t ≡ enums s at
IsItem enums t = Unit {0}

-- whether each enum of a type has its own
abbrev pub IsType : Enums → Ty → Type 0
IsType enums (Enum s at t b w) = t ≡ enums s at
IsType enums (MailboxOf t) = IsItem enums t
IsType enums (Queue t) = IsItem enums t
IsType enums (Dynamic t) = IsItem enums t
IsType enums (Assoc k t) = IsItem enums k × IsItem enums t
IsType enums (Fixed b t) = IsItem enums t
IsType enums t = Unit {0}

-- a typed expression
pub record Fits (enums : Enums) (t : Typed) : Type 0 where
  pub is_type : IsType enums t.ty
  pub runs : Runs t.ty t.code.value

-- ---- what names stand for

-- what breaks no rule
abbrev pub Keeps : {A : Type 0} → (A → Type 0) → Checked A → Type 0
Keeps P (Good a) = P a
Keeps P (Broken f) = Unit {0}

-- what a subroutine gives
abbrev pub CalleeFits : Enums → Callee → Type 0
CalleeFits enums c = Keeps (IsType enums) c.result

-- the result variable of a function
abbrev pub ResultFits : Enums → ResultVariable → Type 0
ResultFits enums (result_variable.Object p t) = IsType enums t
ResultFits enums (result_variable.Local u p t) = IsType enums t

-- the signals of a clocking block
abbrev pub SignalsFit : Enums → List (Checked SignalInfo) → Type 0
SignalsFit enums [] = Unit {0}
SignalsFit enums (s ∷ ss) = Keeps (λ i. IsType enums i.ty) s × SignalsFit enums ss

-- what a name stands for
abbrev pub NameFits : Enums → Named → Type 0
NameFits enums (named.Variable p t) = IsType enums t
NameFits enums (named.Net p t) = IsType enums t
NameFits enums (named.Input p n t) = IsType enums t
NameFits enums (named.Local u p t) = IsType enums t
NameFits enums (named.Property k g n t) = IsType enums t
NameFits enums (named.StaticProperty k g p t) = IsType enums t
NameFits enums (named.Constant t p) = Fits enums t
NameFits enums (named.TypeName t) = IsType enums t
NameFits enums (named.ClassName p) = Unit {0}
NameFits enums (named.Subroutine c) = CalleeFits enums c
NameFits enums (named.Itself c r) = CalleeFits enums c × ResultFits enums r
NameFits enums (named.ClockingBlock p ss) = SignalsFit enums ss
NameFits enums named.Other = Unit {0}

-- a name that is declared
abbrev pub DeclaredFits : Enums → Option (Checked Named) → Type 0
DeclaredFits enums None = Unit {0}
DeclaredFits enums (Some c) = Keeps (NameFits enums) c

-- declarations, those of scopes, and those of classes
abbrev pub KnownFit : Enums → List Known → Type 0
KnownFit enums [] = Unit {0}
KnownFit enums (k ∷ ks) = Keeps (NameFits enums) k.value × KnownFit enums ks

abbrev pub ScopesFit : Enums → List Scope → Type 0
ScopesFit enums [] = Unit {0}
ScopesFit enums (s ∷ ss) = KnownFit enums s.known × ScopesFit enums ss

abbrev pub ClassesFit : Enums → List ClassInfo → Type 0
ClassesFit enums [] = Unit {0}
ClassesFit enums (k ∷ ks) = KnownFit enums k.scope.known × ClassesFit enums ks

-- what `$` stands for
abbrev pub DollarFits : Dollar → Type 0
DollarFits (LastIndex e) = RunsAs int_type e
DollarFits d = Unit {0}

-- where an expression stands: all names and members, and `$`
pub record AroundFits (enums : Enums) (ar : Around) : Type 0 where
  pub names : (x : List ℕ) → DeclaredFits enums (found ar x)
  pub members : (p : Path) (x : List ℕ) → DeclaredFits enums (member_of ar p x)
  pub dollar : DollarFits ar.dollar

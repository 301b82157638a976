-- Parts of a statement with the calls that stand before it (IEEE 1800-2017, 10.4 and 13).
use Rattle.std.specs.Prelude.{ℕ, ◌+◌, ◌-◌, ◌^◌, min, List, [], ◌∷◌, ◌++◌, length, Option, Some, None}
use Rattle.sv_flat.specs.declared.object.DataType.{DataType}
use Rattle.sv_flat.specs.declared.call.CallForm.{CallForm}
use Rattle.sv_flat.specs.Expr as flat
use Rattle.sv_names.specs.declared.hoisted.Hoisted.{Hoisted}

-- what has no calls
abbrev pub pure : {A : Type 0} → A → Hoisted A
pure a = record { hidden = []; calls = []; value = a }

-- with another value
abbrev pub mapped : {A B : Type 0} → (A → B) → Hoisted A → Hoisted B
mapped f a = record { hidden = a.hidden; calls = a.calls; value = f a.value }

-- one part, and then another, which is numbered behind the first
abbrev pub paired : {A B C : Type 0} → (A → B → C) → Hoisted A → Hoisted B → Hoisted C
paired f a b = record { hidden = a.hidden ++ b.hidden; calls = a.calls ++ b.calls; value = f a.value b.value }

-- three parts, one after another
abbrev pub three : {A B C D : Type 0} → (A → B → C → D) → Hoisted A → Hoisted B → Hoisted C → Hoisted D
three f a b c = paired (λ g x. g x) (paired f a b) c

-- a list of parts, from the left
abbrev pub in_row : {A : Type 0} → List (Hoisted A) → Hoisted (List A)
in_row [] = pure []
in_row (a ∷ as') = paired (λ x xs. x ∷ xs) a (in_row as')

-- a part that may be left out
abbrev pub if_any : {A : Type 0} → Option (Hoisted A) → Hoisted (Option A)
if_any None = pure None
if_any (Some a) = mapped Some a

-- a call whose result stands in a hidden variable of this type; `first` are taken by what stands before
abbrev pub result_of : (first : ℕ) → DataType → Hoisted CallForm → Hoisted flat.Expr
result_of first t f =
    record {
      hidden = f.hidden ++ t ∷ [];
      calls = f.calls ++ record { form = f.value; result = Some (min (first + length f.hidden) (2 ^ 32 - 1)) } ∷ [];
      value = flat.Local 0 (min (first + length f.hidden) (2 ^ 32 - 1)) t;
    }

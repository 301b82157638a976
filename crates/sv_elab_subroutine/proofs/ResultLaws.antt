-- The result of a function stands where the function itself is declared in its scope.
use Rattle.std.proofs.Common.{◌≡◌, ℕ, ◌+◌, ◌-◌, ◌^◌, List, ◌∷◌, Some, None, refl, sym, ap, ◌∙◌, arith}
use Rattle.std.specs.Prelude.{min}
use Rattle.sv_flat.specs.declared.class.Formal.{Formal}
use Rattle.sv_names.specs.declared.checked.Checked.{Checked}
use Rattle.sv_names.specs.declared.checked.Checked.TheVariants.{Good, Broken}
use Rattle.sv_names.specs.declared.named.Known.{Known}
use Rattle.sv_names.specs.declared.named.Kind.{Kind}
use Rattle.sv_names.specs.declared.named.Named.{Named}
use Rattle.sv_names.specs.declared.named.Named.TheVariants.{Itself}
use Rattle.sv_names.specs.declared.named.ResultVariable.TheVariants as result_variable
use Rattle.sv_names.specs.declared.scope.Scope.{Scope}
use Rattle.sv_names.specs.Named.{Around, nearest, further, local_size}
use Rattle.sv_names.specs.Subroutines.{result_formal}
use Rattle.sv_tree.specs.declared.word.Name.{Name}
use Rattle.sv_elab_subroutine.specs.Results.{result_known, result_from}

-- a declaration by its value
abbrev known_as : Name → Kind → Checked Named → Known
known_as n k v = record { name = n; kind = k; value = v }

step : (ar : Around) (place : ℕ) (n : Name) (k : Kind) (v : Checked Named) (ks : List Known)
    → result_from ar place (known_as n k v ∷ ks) ≡ nearest (result_known ar place v) (result_from ar (further place (local_size v)) ks)
step ar place n k (Good (Itself c (result_variable.Object p t))) ks = refl
step ar place n k (Good (Itself c (result_variable.Local u p t))) ks = refl
step ar place n k (Good m) ks = refl
step ar place n k (Broken f) ks = refl

-- the function itself is found
pub result_here : (ar : Around) (place : ℕ) (k : Known) (ks : List Known) (f : Formal)
    → Some f ≡ result_known ar place k.value → Some f ≡ result_from ar place (k ∷ ks)
result_here ar place k ks f is =
    ap (λ x. nearest x (result_from ar (further place (local_size k.value)) ks)) is ∙ sym (step ar place k.name k.kind k.value ks)

-- it stands behind
pub result_behind : (ar : Around) (place next : ℕ) (k : Known) (ks : List Known)
    → None ≡ result_known ar place k.value → next ≡ further place (local_size k.value)
    → result_from ar next ks ≡ result_from ar place (k ∷ ks)
result_behind ar place next k ks is at =
    ap (λ x. result_from ar x ks) at ∙ ap (λ x. nearest x (result_from ar (further place (local_size k.value)) ks)) is
    ∙ sym (step ar place k.name k.kind k.value ks)

-- places do not pass the limit
pub saturated : (a b : ℕ) → min (a + min b (2 ^ 32 - 1)) (2 ^ 32 - 1) ≡ further a b
saturated a b = omega arith

-- the result in the scope of a function
pub result_is : (ar : Around) (s : Scope) → result_from ar 0 s.known ≡ result_formal ar s
result_is ar s = refl

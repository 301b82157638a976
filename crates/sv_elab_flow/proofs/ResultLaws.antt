-- The result variable of a function as a target.
use Rattle.std.proofs.Common.{rules, arith, ◌≡◌, ◌∙◌, ℕ, ◌+◌, ◌-◌, ◌^◌, min, List, [], ◌∷◌, Option, Some, None, option_map, refl, ap, sym}
use Rattle.sv_value.specs.declared.place.Place.{Place}
use Rattle.sv_names.specs.declared.checked.Checked.{Checked}
use Rattle.sv_names.specs.declared.checked.Checked.TheVariants.{Good, Broken}
use Rattle.sv_names.specs.declared.named.Callee.{Callee}
use Rattle.sv_names.specs.declared.named.Known.{Known}
use Rattle.sv_names.specs.declared.named.Named.{Named}
use Rattle.sv_names.specs.declared.named.Named.TheVariants.{Itself}
use Rattle.sv_names.specs.declared.named.ResultVariable.{ResultVariable}
use Rattle.sv_names.specs.declared.named.ResultVariable.TheVariants as variable
use Rattle.sv_names.specs.Hoisted.{pure}
use Rattle.sv_names.specs.Named.{Around, result_named, local_size, further}
use Rattle.sv_names.specs.Statements.{result_targets, result_from, result_variable}
use Rattle.sv_names.specs.Types.{Path}
use Rattle.sv_elab_flow.specs.declared.results.ResultFound.{ResultFound}
use Rattle.sv_elab_flow.specs.Results.{result_in, result_at, lvalue_of, targets_in}

-- where none is found
none_found : (ar : Around) (at : Place) (p : Path) → result_from 0 p ar.scopes ≡ None → result_targets ar at p ≡ pure []
none_found ar at p none = search rules

-- where one is found
one_found : (ar : Around) (at : Place) (p : Path) (r : ResultVariable) → result_from 0 p ar.scopes ≡ Some (result_named r)
    → result_targets ar at p ≡ pure (lvalue_of ar at r ∷ [])
one_found ar at p (variable.Object q t) some = search rules
one_found ar at p (variable.Local u q t) some = search rules

-- by what is found
pub targets_by : (ar : Around) (at : Place) (p : Path) (f : Option ResultFound) → option_map result_in f ≡ result_from 0 p ar.scopes
    → result_targets ar at p ≡ targets_in ar at f
targets_by ar at p None is = none_found ar at p (sym is)
targets_by ar at p (Some f) is = one_found ar at p (result_at f.up f.place f.variable.now) (sym is)

-- ---- among declarations

-- the first one is it
pub this_result : (up place : ℕ) (k : Known) (ks : List Known) (c : Callee) (n : ResultVariable) → k.value ≡ Good (Itself c n)
    → Some (result_named (result_at up place n)) ≡ result_variable up place (k ∷ ks)
this_result up place k ks c (variable.Object p t) is = search rules
this_result up place k ks c (variable.Local u p t) is = search rules

-- a place that passes every limit
capped : (place size m : ℕ) → min (place + min size m) m ≡ min (place + size) m
capped place size m = omega arith

-- the first one is not
not_this : (up place : ℕ) (k : Known) (ks : List Known) (v : Checked Named) → k.value ≡ v → ((c : Callee) (n : ResultVariable) → v ≡ Good (Itself c n) → ⊥)
    → result_variable up place (k ∷ ks) ≡ result_variable up (further place (local_size k.value)) ks
not_this up place k ks (Good (Itself c n)) is other = absurd (other c n refl)
not_this up place k ks (Good n) is other = search rules
not_this up place k ks (Broken f) is other = search rules

-- one further
pub later_result : (up place next : ℕ) (k : Known) (ks : List Known) (x : Option Named)
    → ((c : Callee) (n : ResultVariable) → k.value ≡ Good (Itself c n) → ⊥)
    → next ≡ min (place + min (local_size k.value) (2 ^ 32 - 1)) (2 ^ 32 - 1) → x ≡ result_variable up next ks
    → x ≡ result_variable up place (k ∷ ks)
later_result up place next k ks x other of_next is =
    is ∙ ap (λ (n : ℕ). result_variable up n ks) (of_next ∙ capped place (local_size k.value) (2 ^ 32 - 1))
    ∙ sym (not_this up place k ks k.value refl other)

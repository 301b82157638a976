-- What the map has at a moment.
use Rattle.std.proofs.Common.{ℕ, ◌≡◌, List, [], ◌∷◌, Option, None, Some, Bool, not, refl, ap, ◌∙◌, arith, length, map}
use Rattle.std.specs.Prelude.{◌==◌, filter}
use Rattle.std.specs.Ordering.{nat_cmp, eq_by_cmp}
use Rattle.std.specs.Option.{option_map}
use Rattle.std.specs.Map.{lookup, keys_of}
use Rattle.std.specs.List.Sorted.{IsStrictlySortedBy}
use Rattle.std.proofs.lemmas.Bool.Decides.{nat_tests}
use Rattle.std.proofs.lemmas.Cmp.{eq_by_cmp_equiv, nat_cmp_total}
use Rattle.std.proofs.lemmas.Map.Keys.{IsDistinct-from_sorted}
use Rattle.std.proofs.lemmas.Map.Entries.{option_filter, lookup-filter-values}
use Rattle.std.proofs.lemmas.Map.Made.{lookup-map_values}
use Rattle.sv_value.specs.declared.number.ProcessId.{ProcessId}
use Rattle.sv_value.specs.declared.schedule.Event.{Event}
use Rattle.sv_flat.specs.Effects.Ends.{not_due_to}
use Rattle.sv_sched.specs.Rings.{queued, left_in}

abbrev pub is_filled : List Event → Bool
is_filled es = not (length es == 0)

filled_only : (es : List Event) → option_filter is_filled (Some es) ≡ queued es
filled_only [] = refl
filled_only (e ∷ es) = grind (arith, nat_tests)

filtered_left : (p : ProcessId) (o : Option (List Event)) → option_filter is_filled (option_map (filter (not_due_to p)) o) ≡ left_in p o
filtered_left p None = refl
filtered_left p (Some es) = filled_only (filter (not_due_to p) es)

pub lookup_left : (p : ProcessId) (t : ℕ) (es fs gs : List (ℕ × List Event)) → fs ≡ map (λ (e : ℕ × List Event). (e.0, filter (not_due_to p) e.1)) es
    → gs ≡ filter (λ (e : ℕ × List Event). is_filled e.1) fs → IsStrictlySortedBy nat_cmp (keys_of fs)
    → lookup (eq_by_cmp nat_cmp t) gs ≡ left_in p (lookup (eq_by_cmp nat_cmp t) es)
lookup_left p t es fs gs m k s =
    ap (λ (hs : List (ℕ × List Event)). lookup (eq_by_cmp nat_cmp t) hs) k
    ∙ lookup-filter-values (eq_by_cmp_equiv nat_cmp_total) is_filled t fs (IsDistinct-from_sorted nat_cmp (keys_of fs) s)
    ∙ ap (λ (hs : List (ℕ × List Event)). option_filter is_filled (lookup (eq_by_cmp nat_cmp t) hs)) m
    ∙ ap (λ (o : Option (List Event)). option_filter is_filled o) (lookup-map_values (filter (not_due_to p)) (eq_by_cmp nat_cmp t) es)
    ∙ filtered_left p (lookup (eq_by_cmp nat_cmp t) es)

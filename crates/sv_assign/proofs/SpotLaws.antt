-- The place of a target, by its parts (IEEE 1800-2017, 11.5.1).
use Rattle.std.proofs.Common.{◌≡◌, ℕ, ◌+◌, ◌<◌, List, [], ◌∷◌, ◌++◌, length, drop, get_or, refl, ap, subst, sym, ◌∙◌, append_assoc}
use Rattle.std.specs.Prelude.{Option, Some, None, Result, Ok, Err, option_map}
use Rattle.std.proofs.lemmas.List.{drop_more}
use Rattle.sv_value.specs.declared.place.FaultKind.{FaultKind}
use Rattle.sv_flat.specs.declared.object.Bounds.{Bounds}
use Rattle.sv_flat.specs.declared.target.Lvalue.{Lvalue}
use Rattle.sv_flat.specs.declared.target.Part.{Part}
use Rattle.sv_flat.specs.State.{Name, View}
use Rattle.sv_flat.specs.Eval.{Valued, with_result, value_of, known_index, vector_in}
use Rattle.sv_flat.specs.Process.{Spot}
use Rattle.sv_flat.specs.Targets.{Placed, based, element_at, variable_at, looked_through, range_of, range_at, spot_of, spots_of}
use Rattle.sv_eval.specs.declared.stopped.Stopped.{Stopped}
use Rattle.sv_assign.specs.declared.spot.Whole.{Whole}
use Rattle.sv_assign.specs.Places.{Answers, placed_in}

-- a part that is named without a reference
pub spot_of-part : (l : Lvalue) (v : View) (p : Part) → l.through ≡ None → l.part ≡ Some p
    → with_result (based l.base v) (λ (q : Placed). with_result (with_result (value_of p.index v) (λ i. Ok (Some (range_at p (known_index (vector_in i)))))) (λ r. Ok (q r)))
    ≡ spot_of l v
spot_of-part l v p none some = λ i. looked_through (sym none i) v (with_result (based l.base v) (λ place. with_result (range_of (sym some i) v) (λ r. Ok (place r))))

-- ---- several targets

-- the places that were found, and those of the targets that are left
abbrev pub gone_on : List Spot → Result (List Spot) FaultKind → Result (List Spot) FaultKind
gone_on found r = with_result r (λ rest. Ok (found ++ rest))

gone_on-one : (found : List Spot) (s : Spot) (r : Result (List Spot) FaultKind) → gone_on found (with_result r (λ ss. Ok (s ∷ ss))) ≡ gone_on (found ++ s ∷ []) r
gone_on-one found s (Ok rest) = λ i. Ok (sym (append_assoc found (s ∷ []) rest) i)
gone_on-one found s (Err k) = refl

-- the target at a place is the next one
next_spot : (ls : List Lvalue) (i : ℕ) (l : Lvalue) (v : View) (found : List Spot) → i < length ls → get_or ls i l ≡ l
    → gone_on found (spots_of (drop i ls) v) ≡ gone_on found (with_result (spot_of l v) (λ s. with_result (spots_of (drop (i + 1) ls) v) (λ ss. Ok (s ∷ ss))))
next_spot ls i l v found h is =
    ap (λ (ms : List Lvalue). gone_on found (spots_of ms v)) (drop_more ls i l h ∙ ap (λ (m : Lvalue). m ∷ drop (i + 1) ls) is)

-- one place more
pub spots_of-more : (ls : List Lvalue) (i : ℕ) (l : Lvalue) (v : View) (found : List Spot) (s : Spot) → i < length ls → get_or ls i l ≡ l → spot_of l v ≡ Ok s
    → gone_on found (spots_of (drop i ls) v) ≡ gone_on (found ++ s ∷ []) (spots_of (drop (i + 1) ls) v)
spots_of-more ls i l v found s h is e =
    next_spot ls i l v found h is
    ∙ ap (λ (r : Result Spot FaultKind). gone_on found (with_result r (λ x. with_result (spots_of (drop (i + 1) ls) v) (λ ss. Ok (x ∷ ss))))) e
    ∙ gone_on-one found s (spots_of (drop (i + 1) ls) v)

-- a fault
pub spots_of-fault : (ls : List Lvalue) (i : ℕ) (l : Lvalue) (v : View) (found : List Spot) (k : FaultKind) → i < length ls → get_or ls i l ≡ l → spot_of l v ≡ Err k
    → gone_on found (spots_of (drop i ls) v) ≡ Err k
spots_of-fault ls i l v found k h is e =
    next_spot ls i l v found h is
    ∙ ap (λ (r : Result Spot FaultKind). gone_on found (with_result r (λ x. with_result (spots_of (drop (i + 1) ls) v) (λ ss. Ok (x ∷ ss))))) e

-- a variable of an activation, by its name
pub variable_named : (w : Result Whole Stopped) (r : Valued) (n m : Option Name) (place : ℕ) (b : Bounds) → n ≡ m
    → Answers placed_in w (with_result r (λ x. Ok (variable_at n (option_map (λ k. place + k) (element_at b x)))))
    → Answers placed_in w (with_result r (λ x. Ok (variable_at m (option_map (λ k. place + k) (element_at b x)))))
variable_named w r n m place b same h =
    subst (λ (o : Option Name). Answers placed_in w (with_result r (λ x. Ok (variable_at o (option_map (λ k. place + k) (element_at b x)))))) same h

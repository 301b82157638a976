-- What a writer tells, over several writes.
use Rattle.std.proofs.Common.{ℕ, ◌≡◌, ◌+◌, ◌≤◌, List, ◌++◌, take, drop, length, Option, Some, None, sym, ap, subst, ◌∙◌, append_assoc, arith}
use Rattle.std.specs.Io.KnownBytes.{Appends}
use Rattle.std.proofs.lemmas.List.{length-take, take-take}
use Rattle.std.proofs.Math.Seq.{take-add}

-- one write, and then another
pub appends_more : (a b c : Option (List ℕ)) (xs ys : List ℕ) → Appends a b xs → Appends b c ys → Appends a c (xs ++ ys)
appends_more None b c xs ys p q = tt
appends_more (Some l) None c xs ys p q = absurd p
appends_more (Some l) (Some m) None xs ys p q = absurd q
appends_more (Some l) (Some m) (Some n) xs ys p q = q ∙ ap (λ u. u ++ ys) p ∙ append_assoc l xs ys

-- of a text the next bytes, behind those that were sent
pub sent_more : (a b c : Option (List ℕ)) (text : List ℕ) (sent n k : ℕ) → Appends a b (take sent text) → n ≤ length (take k (drop sent text)) → Appends b c (take n (take k (drop sent text)))
    → Appends a c (take (sent + n) text)
sent_more a b c text sent n k p le q =
    let most : n ≤ k = omega (arith, le, length-take k (drop sent text)) in
    let next : take n (take k (drop sent text)) ≡ take n (drop sent text) = take-take n k (drop sent text) most in
    let both : take sent text ++ take n (take k (drop sent text)) ≡ take (sent + n) text = ap (λ u. take sent text ++ u) next ∙ sym (take-add sent n text) in
    subst (λ (u : List ℕ). Appends a c u) both (appends_more a b c _ _ p q)

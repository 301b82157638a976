-- A list in chunks, place by place.
use Rattle.std.proofs.Common.{◌≡◌, ℕ, zero, suc, ◌+◌, ◌-◌, ◌*◌, ◌/◌, ◌%◌, ◌<◌, ◌≤◌, List, [], ◌∷◌, ◌++◌, Option, Some, None, true, false, length, length-append, slice_get, slice_set, ◌⊎◌, inl, inr, ⊎_elim, refl, sym, ap, subst, ◌∙◌, arith}
use Rattle.std.specs.Prelude.{nat_lt}
use Rattle.std.proofs.Math.Nat.{suc-mul}
use Rattle.std.proofs.lemmas.Nat.{div-add-mod'}
use Rattle.std.proofs.lemmas.List.{append-nil, append_assoc}
use Rattle.std.proofs.lemmas.Bool.{cases_lt}
use Rattle.std.proofs.lemmas.Bool.Decides.{nat_tests}
use Rattle.sv_arena.specs.Chunks.{entries_of, has_room, IsChunked}
use Rattle.sv_arena.proofs.PlaceLaws.{some_same, none_some}

-- ---- places

-- the place at a place of a chunk
abbrev place_at : (n q r : ℕ) → ℕ
place_at n zero r = r
place_at n (suc q) r = n + place_at n q r

place_at-is : (n q r : ℕ) → q * n + r ≡ place_at n q r
place_at-is n zero r = nothing n r
  where
    nothing : (n r : ℕ) → zero * n + r ≡ r
    nothing n r = omega arith
place_at-is n (suc q) r =
    let next : suc q * n ≡ q * n + n = suc-mul q n in
    let rest : q * n + r ≡ place_at n q r = place_at-is n q r in
    sum n r (suc q * n) (q * n) (place_at n q r) next rest
  where
    sum : (n r a b p : ℕ) → a ≡ b + n → b + r ≡ p → a + r ≡ n + p
    sum n r a b p h g = omega (arith, h, g)

place_is : (n p : ℕ) → place_at n (p / n) (p % n) ≡ p
place_is n p = sym (place_at-is n (p / n) (p % n)) ∙ div-add-mod' p n

-- ---- what stands at a place

-- what stands at a place of a chunk, if there is one
abbrev pub get_in : {A : Type 0} → Option (List A) → ℕ → Option A
get_in None r = None
get_in (Some c) r = slice_get c r

get_left : {A : Type 0} (xs ys : List A) (i : ℕ) → i < length xs → slice_get (xs ++ ys) i ≡ slice_get xs i
get_left [] ys i h = absurd (omega arith)
get_left (x ∷ xs) ys zero h = refl
get_left (x ∷ xs) ys (suc i) h = get_left xs ys i (omega arith)

get_right : {A : Type 0} (xs ys : List A) (n i : ℕ) → length xs ≡ n → slice_get (xs ++ ys) (n + i) ≡ slice_get ys i
get_right [] ys n i h = let same : n + i ≡ i = omega (arith, h) in ap (slice_get ys) same
get_right (x ∷ xs) ys zero i h = absurd (omega (arith, h))
get_right (x ∷ xs) ys (suc n) i h = let same : suc n + i ≡ suc (n + i) = omega arith in ap (slice_get (x ∷ xs ++ ys)) same ∙ get_right xs ys n i (omega (arith, h))

get_past : {A : Type 0} (xs : List A) (i : ℕ) → length xs ≤ i → slice_get xs i ≡ None
get_past [] i h = refl
get_past (x ∷ xs) zero h = absurd (omega arith)
get_past (x ∷ xs) (suc i) h = get_past xs i (omega arith)

chunk_get : {A : Type 0} (n : ℕ) (cs : List (List A)) (q r : ℕ) → IsChunked n cs → r < n → get_in (slice_get cs q) r ≡ slice_get (entries_of cs) (place_at n q r)
chunk_get n [] q r h k = refl
chunk_get n (c ∷ []) zero r h k = ap (λ xs. slice_get xs r) (sym (append-nil c))
chunk_get n (c ∷ []) (suc q) r h k = sym (ap (λ xs. slice_get xs (n + place_at n q r)) (append-nil c) ∙ get_past c (n + place_at n q r) (omega (arith, h)))
chunk_get n (c ∷ d ∷ cs) zero r h k = sym (get_left c (entries_of (d ∷ cs)) r (omega (arith, h.0, k)))
chunk_get n (c ∷ d ∷ cs) (suc q) r h k = chunk_get n (d ∷ cs) q r h.1 k ∙ sym (get_right c (entries_of (d ∷ cs)) n (place_at n q r) h.0)

-- the entry at a place
pub entry_is : {A : Type 0} (n : ℕ) (cs : List (List A)) (p : ℕ) → IsChunked n cs → p % n < n → get_in (slice_get cs (p / n)) (p % n) ≡ slice_get (entries_of cs) p
entry_is n cs p h k = chunk_get n cs (p / n) (p % n) h k ∙ ap (slice_get (entries_of cs)) (place_is n p)

-- ---- where an entry stands

nothing_past : {A : Type 0} (xs : List A) (p : ℕ) → p < length xs → slice_get xs p ≡ None → ⊥
nothing_past [] p h g = omega (arith, h)
nothing_past (x ∷ xs) zero h g = absurd (cc)
nothing_past (x ∷ xs) (suc p) h g = nothing_past xs p (omega (arith, h)) g

within_or_none : {A : Type 0} (xs : List A) (p : ℕ) → (p < length xs) ⊎ (slice_get xs p ≡ None)
within_or_none xs p = ⊎_elim (λ h. inl h) (λ h. inr (get_past xs p h)) (cases_lt p (length xs))

-- there is a chunk for each entry
pub chunk_within : {A : Type 0} (n : ℕ) (cs : List (List A)) (p : ℕ) → IsChunked n cs → p % n < n → p < length (entries_of cs) → p / n < length cs
chunk_within n cs p h k l =
    ⊎_elim (λ w. w) (λ none. absurd (nothing_past (entries_of cs) p l (sym (entry_is n cs p h k) ∙ ap (λ o. get_in o (p % n)) none))) (within_or_none cs (p / n))

-- and the chunk has it
pub entry_within : {A : Type 0} (n : ℕ) (cs : List (List A)) (p : ℕ) (c : List A) → IsChunked n cs → p % n < n → p < length (entries_of cs) → slice_get cs (p / n) ≡ Some c
    → p % n < length c
entry_within n cs p c h k l g =
    ⊎_elim (λ w. w) (λ none. absurd (nothing_past (entries_of cs) p l (sym (entry_is n cs p h k) ∙ ap (λ o. get_in o (p % n)) g ∙ none))) (within_or_none c (p % n))

-- ---- an entry that is set

set_left : {A : Type 0} (xs ys : List A) (i : ℕ) (w : A) → i < length xs → slice_set (xs ++ ys) i w ≡ slice_set xs i w ++ ys
set_left [] ys i w h = absurd (omega arith)
set_left (x ∷ xs) ys zero w h = refl
set_left (x ∷ xs) ys (suc i) w h = ap (λ zs. x ∷ zs) (set_left xs ys i w (omega arith))

set_right : {A : Type 0} (xs ys : List A) (n i : ℕ) (w : A) → length xs ≡ n → slice_set (xs ++ ys) (n + i) w ≡ xs ++ slice_set ys i w
set_right [] ys n i w h = let same : n + i ≡ i = omega (arith, h) in ap (λ k. slice_set ys k w) same
set_right (x ∷ xs) ys zero i w h = absurd (omega (arith, h))
set_right (x ∷ xs) ys (suc n) i w h =
    let same : suc n + i ≡ suc (n + i) = omega arith in
    ap (λ k. slice_set (x ∷ xs ++ ys) k w) same ∙ ap (λ zs. x ∷ zs) (set_right xs ys n i w (omega (arith, h)))

set_length : {A : Type 0} (xs : List A) (i : ℕ) (w : A) → length (slice_set xs i w) ≡ length xs
set_length [] i w = refl
set_length (x ∷ xs) zero w = refl
set_length (x ∷ xs) (suc i) w = ap suc (set_length xs i w)

chunk_set : {A : Type 0} (n : ℕ) (cs : List (List A)) (q r : ℕ) (c : List A) (w : A) → IsChunked n cs → r < n → slice_get cs q ≡ Some c → r < length c
    → slice_set (entries_of cs) (place_at n q r) w ≡ entries_of (slice_set cs q (slice_set c r w))
chunk_set n [] q r c w h k g l = none_some g
chunk_set n (b ∷ []) zero r c w h k g l =
    let same : b ≡ c = some_same g in
    ap (λ xs. slice_set xs r w) (append-nil b ∙ same) ∙ sym (append-nil (slice_set c r w))
chunk_set n (b ∷ []) (suc q) r c w h k g l = none_some g
chunk_set n (b ∷ d ∷ cs) zero r c w h k g l =
    let same : b ≡ c = some_same g in
    ap (λ xs. slice_set (xs ++ entries_of (d ∷ cs)) r w) same ∙ set_left c (entries_of (d ∷ cs)) r w l
chunk_set n (b ∷ d ∷ cs) (suc q) r c w h k g l =
    set_right b (entries_of (d ∷ cs)) n (place_at n q r) w h.0 ∙ ap (λ xs. b ++ xs) (chunk_set n (d ∷ cs) q r c w h.1 k g l)

-- a full chunk before others
chunked_cons : {A : Type 0} (n : ℕ) (c : List A) (cs : List (List A)) → length c ≡ n → IsChunked n cs → IsChunked n (c ∷ cs)
chunked_cons n c [] l h = omega (arith, l)
chunked_cons n c (d ∷ cs) l h = (l, h)

-- chunks of the same lengths are chunks
chunked_set : {A : Type 0} (n : ℕ) (cs : List (List A)) (q : ℕ) (c e : List A) → IsChunked n cs → slice_get cs q ≡ Some c → length e ≡ length c → IsChunked n (slice_set cs q e)
chunked_set n [] q c e h g l = tt
chunked_set n (b ∷ []) zero c e h g l = let same : length b ≡ length c = ap (λ x. length x) (some_same g) in omega (arith, h, l, same)
chunked_set n (b ∷ []) (suc q) c e h g l = h
chunked_set n (b ∷ d ∷ cs) zero c e h g l = (l ∙ sym (ap (λ x. length x) (some_same g)) ∙ h.0, h.1)
chunked_set n (b ∷ d ∷ cs) (suc q) c e h g l = chunked_cons n b (slice_set (d ∷ cs) q e) h.0 (chunked_set n (d ∷ cs) q c e h.1 g l)

-- the entry at a place is set
pub entry_set : {A : Type 0} (n : ℕ) (cs : List (List A)) (p : ℕ) (c : List A) (w : A) → IsChunked n cs → p % n < n → slice_get cs (p / n) ≡ Some c → p % n < length c
    → slice_set (entries_of cs) p w ≡ entries_of (slice_set cs (p / n) (slice_set c (p % n) w))
entry_set n cs p c w h k g l = ap (λ i. slice_set (entries_of cs) i w) (sym (place_is n p)) ∙ chunk_set n cs (p / n) (p % n) c w h k g l

pub entry_set-chunked : {A : Type 0} (n : ℕ) (cs : List (List A)) (p : ℕ) (c : List A) (w : A) → IsChunked n cs → slice_get cs (p / n) ≡ Some c
    → IsChunked n (slice_set cs (p / n) (slice_set c (p % n) w))
entry_set-chunked n cs p c w h g = chunked_set n cs (p / n) c (slice_set c (p % n) w) h g (set_length c (p % n) w)

pub entry_set-length : {A : Type 0} (n : ℕ) (cs : List (List A)) (p : ℕ) (c : List A) (w : A) → IsChunked n cs → p % n < n → slice_get cs (p / n) ≡ Some c → p % n < length c
    → length (entries_of cs) ≡ length (entries_of (slice_set cs (p / n) (slice_set c (p % n) w)))
entry_set-length n cs p c w h k g l = sym (set_length (entries_of cs) p w) ∙ ap (λ xs. length xs) (entry_set n cs p c w h k g l)

-- ---- an entry more

entries_push : {A : Type 0} (cs : List (List A)) (c : List A) → entries_of (cs ++ c ∷ []) ≡ entries_of cs ++ c
entries_push [] c = append-nil c
entries_push (b ∷ cs) c = ap (λ xs. b ++ xs) (entries_push cs c) ∙ sym (append_assoc b (entries_of cs) c)

full_is : (k n : ℕ) → nat_lt k n ≡ false → k ≤ n → k ≡ n
full_is k n h l = grind (arith, nat_tests)

-- a new chunk
pub chunked_push : {A : Type 0} (n : ℕ) (cs : List (List A)) (c : List A) → IsChunked n cs → has_room n cs ≡ false → length c ≤ n → IsChunked n (cs ++ c ∷ [])
chunked_push n [] c h full l = l
chunked_push n (b ∷ []) c h full l = (full_is (length b) n full h, l)
chunked_push n (b ∷ d ∷ cs) c h full l = (h.0, chunked_push n (d ∷ cs) c h.1 full l)

pub entries_new : {A : Type 0} (cs ds : List (List A)) (c : List A) (x : A) → ds ≡ cs ++ c ∷ [] → c ≡ x ∷ [] → entries_of ds ≡ entries_of cs ++ x ∷ []
entries_new cs ds c x is e = ap entries_of is ∙ entries_push cs c ∙ ap (λ b. entries_of cs ++ b) e

-- an entry behind those of the last chunk
pub last_pushed : {A : Type 0} (n : ℕ) (cs : List (List A)) (c e : List A) (x : A) → slice_get cs (length cs - 1) ≡ Some c → e ≡ c ++ x ∷ []
    → entries_of (slice_set cs (length cs - 1) e) ≡ entries_of cs ++ x ∷ []
last_pushed n [] c e x g is = none_some g
last_pushed n (b ∷ []) c e x g is =
    append-nil e ∙ is ∙ ap (λ d. d ++ x ∷ []) (sym (some_same g) ∙ sym (append-nil b))
last_pushed n (b ∷ d ∷ cs) c e x g is =
    ap (λ k. entries_of (slice_set (b ∷ d ∷ cs) k e)) (last_is (length cs))
    ∙ ap (λ xs. b ++ xs) (last_pushed n (d ∷ cs) c e x (ap (slice_get (b ∷ d ∷ cs)) (sym (last_is (length cs))) ∙ g) is)
    ∙ sym (append_assoc b (entries_of (d ∷ cs)) (x ∷ []))
  where
    last_is : (k : ℕ) → suc (suc k) - 1 ≡ suc (suc k - 1)
    last_is k = omega arith

pub last_chunked : {A : Type 0} (n : ℕ) (cs : List (List A)) (c e : List A) (x : A) → IsChunked n cs → has_room n cs ≡ true → slice_get cs (length cs - 1) ≡ Some c
    → e ≡ c ++ x ∷ [] → IsChunked n (slice_set cs (length cs - 1) e)
last_chunked n [] c e x h room g is = none_some g
last_chunked n (b ∷ []) c e x h room g is =
    let more : length e ≡ length c + 1 = ap (λ d. length d) is ∙ length-append c (x ∷ []) in
    let same : length b ≡ length c = ap (λ d. length d) (some_same g) in
    let below : length b < n = below_is (length b) n room in
    omega (arith, more, same, below)
  where
    below_is : (k n : ℕ) → nat_lt k n ≡ true → k < n
    below_is k n h = grind (arith, nat_tests)
last_chunked n (b ∷ d ∷ cs) c e x h room g is =
    subst (λ k. IsChunked n (slice_set (b ∷ d ∷ cs) k e)) (sym (last_is (length cs)))
    (chunked_cons n b (slice_set (d ∷ cs) (length (d ∷ cs) - 1) e) h.0 (last_chunked n (d ∷ cs) c e x h.1 room (ap (slice_get (b ∷ d ∷ cs)) (sym (last_is (length cs))) ∙ g) is))
  where
    last_is : (k : ℕ) → suc (suc k) - 1 ≡ suc (suc k - 1)
    last_is k = omega arith

-- whether there is room, by the last chunk
pub room_last : {A : Type 0} (n : ℕ) (cs : List (List A)) (c : List A) → slice_get cs (length cs - 1) ≡ Some c → nat_lt (length c) n ≡ has_room n cs
room_last n [] c g = none_some g
room_last n (b ∷ []) c g = ap (λ d. nat_lt (length d) n) (sym (some_same g))
room_last n (b ∷ d ∷ cs) c g = room_last n (d ∷ cs) c (ap (slice_get (b ∷ d ∷ cs)) (last_is (length cs)) ∙ g)
  where
    last_is : (k : ℕ) → suc (suc k - 1) ≡ suc (suc k) - 1
    last_is k = omega arith

-- where there is room, there is a chunk
pub room_some : {A : Type 0} (n : ℕ) (cs : List (List A)) → has_room n cs ≡ true → 0 < length cs
room_some n [] h = absurd (cc)
room_some n (c ∷ cs) h = omega arith

pub chunked_along : {A : Type 0} (n : ℕ) (cs : List (List A)) (c : List A) (i j : ℕ) → i ≡ j → IsChunked n (slice_set cs i c) → IsChunked n (slice_set cs j c)
chunked_along n cs c i j e h = subst (λ k. IsChunked n (slice_set cs k c)) e h

-- a new chunk with one entry
pub chunked_new : {A : Type 0} (n : ℕ) (cs ds : List (List A)) (c : List A) (x : A) → IsChunked n cs → has_room n cs ≡ false → 1 ≤ n → ds ≡ cs ++ c ∷ [] → c ≡ x ∷ []
    → IsChunked n ds
chunked_new n cs ds c x h full some is e =
    let one : length c ≡ 1 = ap (λ d. length d) e in
    subst (IsChunked n) (sym is) (chunked_push n cs c h full (omega (arith, one, some)))

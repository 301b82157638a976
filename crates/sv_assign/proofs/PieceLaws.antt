-- Pieces of vectors that are extended far enough.
use Rattle.std.proofs.Common.{◌≡◌, ℕ, zero, suc, ◌+◌, ◌-◌, ◌<◌, ◌≤◌, Bool, true, false, List, [], ◌∷◌, ◌++◌, length, take, drop, replicate, get_or, refl, sym, ap, ◌∙◌, arith}
use Rattle.std.proofs.lemmas.List.{take-take, take-replicate, drop-replicate, get_or-drop, length-drop, take_all}
use Rattle.sv_value.specs.declared.word.Sym.{Sym}
use Rattle.sv_value.specs.declared.word.Sym.TheVariants.{Zero}
use Rattle.sv_value.specs.Vector.{Vector, vector, filling, resized}
use Rattle.sv_value.proofs.Laws.{resized_same}

-- copies of a symbol, by its sign
pub copies_is : (w : ℕ) (s : Sym) → 1 ≤ w → resized w (vector true (s ∷ [])) ≡ replicate w s
copies_is zero s h = refl
copies_is (suc n) s h = ap (λ (xs : List Sym). s ∷ xs) (take-replicate n (suc n) s (omega arith))

-- more copies than are asked for
take_filled : (n m : ℕ) (f : Sym) (xs : List Sym) → n ≤ m → take n (xs ++ replicate m f) ≡ take n (xs ++ replicate n f)
take_filled zero m f xs h = refl
take_filled (suc n) m f [] h = take-replicate (suc n) m f h ∙ sym (take-replicate (suc n) (suc n) f (omega arith))
take_filled (suc n) m f (x ∷ xs) h =
    ap (λ (ys : List Sym). x ∷ ys) (take_filled n m f xs (omega arith) ∙ sym (take_filled n (suc n) f xs (omega arith)))

-- a piece that begins among the symbols
cut_inside : (low : ℕ) (xs : List Sym) (n w m : ℕ) (f : Sym) → low ≤ length xs → low + n ≤ w → n ≤ m
    → take n (drop low (take w (xs ++ replicate m f))) ≡ take n (drop low xs ++ replicate n f)
cut_inside zero xs n w m f a b c = take-take n w (xs ++ replicate m f) (omega arith) ∙ take_filled n m f xs c
cut_inside (suc low) [] n w m f a b c = absurd (omega arith)
cut_inside (suc low) (x ∷ xs) n zero m f a b c = absurd (omega arith)
cut_inside (suc low) (x ∷ xs) n (suc w) m f a b c = cut_inside low xs n w m f (omega arith) (omega arith) c

-- a piece that begins behind them
cut_outside : (xs : List Sym) (low n w m : ℕ) (f : Sym) → length xs ≤ low → low + n ≤ w → w ≤ length xs + m
    → take n (drop low (take w (xs ++ replicate m f))) ≡ replicate n f
cut_outside [] low n w m f a b c =
    ap (λ (ys : List Sym). take n (drop low ys)) (take-replicate w m f (omega arith)) ∙ ap (take n) (drop-replicate low w f)
    ∙ take-replicate n (w - low) f (omega arith)
cut_outside (x ∷ xs) zero n w m f a b c = absurd (omega arith)
cut_outside (x ∷ xs) (suc low) n zero m f a b c = absurd (omega arith)
cut_outside (x ∷ xs) (suc low) n (suc w) m f a b c = cut_outside xs low n w m f (omega arith) (omega arith) (omega arith)

-- the last symbol stays the last one
filling_dropped : (s : Bool) (xs : List Sym) (low : ℕ) → low < length xs → filling (vector s (drop low xs)) ≡ filling (vector s xs)
filling_dropped true xs low h =
    get_or-drop low xs (length (drop low xs) - 1) Zero ∙ ap (λ (i : ℕ). get_or xs i Zero) (simp length-drop (omega arith))
filling_dropped false xs low h = refl

-- a piece from a place among the symbols
pub piece_inside : (s : Bool) (xs : List Sym) (low n w : ℕ) → low < length xs → low + n ≤ w
    → resized n (vector s (resized (length xs - low) (vector false (take (length xs - low) (drop low xs))))) ≡ take n (drop low (resized w (vector s xs)))
piece_inside s xs low n w h k =
    let all : take (length xs - low) (drop low xs) ≡ drop low xs = take_all (length xs - low) (drop low xs) (simp length-drop (omega arith)) in
    let own : resized (length xs - low) (vector false (drop low xs)) ≡ drop low xs =
    ap (λ (i : ℕ). resized i (vector false (drop low xs))) (sym (length-drop low xs)) ∙ resized_same (vector false (drop low xs)) in
    ap (λ (ys : List Sym). resized n (vector s (resized (length xs - low) (vector false ys)))) all
    ∙ ap (λ (ys : List Sym). resized n (vector s ys)) own
    ∙ ap (λ (f : Sym). take n (drop low xs ++ replicate n f)) (filling_dropped s xs low h)
    ∙ sym (cut_inside low xs n w w (filling (vector s xs)) (omega arith) k (omega arith))

-- a piece from a place behind them
pub piece_outside : (v : Vector) (low n w : ℕ) → length v.symbols ≤ low → low + n ≤ w → replicate n (filling v) ≡ take n (drop low (resized w v))
piece_outside v low n w h k = sym (cut_outside v.symbols low n w w (filling v) h k (omega arith))

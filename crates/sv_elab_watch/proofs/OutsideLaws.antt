-- Operands and arrays from outside of activations.
use Rattle.std.proofs.Common.{arith, ◌≡◌, ℕ, zero, suc, ◌+◌, ◌-◌, ◌<◌, ◌≤◌, Bool, true, false, List, [], ◌∷◌, ◌++◌, Some, None, map, refl, sym, ap, ◌∙◌, if◌then◌else◌}
use Rattle.std.specs.Prelude.{flat_map, nat_lt, nat_abs, int_le, ℤ, pos, negsuc, ◌+ℤ◌, ◌-ℤ◌}
use Rattle.sv_value.specs.declared.val.Plain.{Plain}
use Rattle.sv_value.specs.declared.word.Sym.{Sym}
use Rattle.sv_flat.specs.declared.object.Bounds.{Bounds}
use Rattle.sv_flat.specs.declared.object.DataType.{DataType}
use Rattle.sv_flat.specs.Expr.{Expr, Local, LocalElement, Select}
use Rattle.sv_names.specs.Watched.{as_index, each_index, all_elements, from_outside}
use Rattle.sv_elab_watch.specs.Reading.{Added, up_outside}
use Rattle.sv_elab_watch.proofs.ReadLaws.{added_none, all_added, turn_added}

-- ---- by how many levels

none_if : (b : Bool) (v : ℕ) → None ≡ (if b then None else Some v) → true ≡ b
none_if true v is = refl
none_if false v is = absurd (cc)

some_if : (b : Bool) (v w : ℕ) → Some w ≡ (if b then None else Some v) → false ≡ b
some_if true v w is = absurd (cc)
some_if false v w is = refl

some_is : (b : Bool) (v w : ℕ) → Some w ≡ (if b then None else Some v) → w ≡ v
some_is true v w is = absurd (cc)
some_is false v w is = cc

module _ (d u p : ℕ) where
  -- a variable of one of these activations
  pub local_inside : (t : DataType) → None ≡ up_outside d u → [] ≡ from_outside d (Local u p t)
  local_inside t is =
      ap (λ (b : Bool). if b then [] else Local (u - d) p t ∷ []) (none_if (nat_lt u d) (u - d) is)

  -- or of one around them
  pub local_outside : (t : DataType) (v : ℕ) → Some v ≡ up_outside d u → Local v p t ∷ [] ≡ from_outside d (Local u p t)
  local_outside t v is =
      ap (λ (w : ℕ). Local w p t ∷ []) (some_is (nat_lt u d) (u - d) v is)
      ∙ ap (λ (b : Bool). if b then [] else Local (u - d) p t ∷ []) (some_if (nat_lt u d) (u - d) v is)

  -- an element of an array in one of these activations
  pub element_inside : (b : Bounds) (t : Plain) (i : Expr) → None ≡ up_outside d u → [] ≡ from_outside d (LocalElement u p b t i)
  element_inside b t i is =
      ap (λ (q : Bool). if q then [] else LocalElement (u - d) p b t i ∷ []) (none_if (nat_lt u d) (u - d) is)

  pub element_outside : (b : Bounds) (t : Plain) (i : Expr) (v : ℕ) → Some v ≡ up_outside d u
      → LocalElement v p b t i ∷ [] ≡ from_outside d (LocalElement u p b t i)
  element_outside b t i v is =
      ap (λ (w : ℕ). LocalElement w p b t i ∷ []) (some_is (nat_lt u d) (u - d) v is)
      ∙ ap (λ (q : Bool). if q then [] else LocalElement (u - d) p b t i ∷ []) (some_if (nat_lt u d) (u - d) v is)

-- a part of what stands inside, or outside
pub select_inside : (d w : ℕ) (o : ℤ) (f : Bool) (s : Sym) (b i : Expr) → [] ≡ from_outside d b → [] ≡ from_outside d (Select w o f s b i)
select_inside d w o f s b i is = ap (map (λ (x : Expr). Select w o f s x i)) is

pub select_outside : (d w : ℕ) (o : ℤ) (f : Bool) (s : Sym) (b i x : Expr) → x ∷ [] ≡ from_outside d b
    → Select w o f s x i ∷ [] ≡ from_outside d (Select w o f s b i)
select_outside d w o f s b i x is = ap (map (λ (y : Expr). Select w o f s y i)) is

-- what is put behind
pub put_none : (es xs : List Expr) → [] ≡ xs → Added es es xs
put_none es xs is = added_none es ∙ ap (λ l. es ++ l) is

pub put_one : (a b xs : List Expr) (x : Expr) → x ∷ [] ≡ xs → b ≡ a ++ x ∷ [] → Added a b xs
put_one a b xs x is put = put ∙ ap (λ l. a ++ l) is

-- ---- arrays

-- the first of so many indices
each_first : (n : ℕ) (i s : ℤ) (f : Expr → Expr) → 0 < n → each_index n i s f ≡ f (as_index i) ∷ each_index (n - 1) (i +ℤ s) s f
each_first zero i s f some = absurd (omega (arith, some))
each_first (suc n) i s f some =
    let less : n ≡ suc n - 1 = omega arith in ap (λ (m : ℕ). f (as_index i) ∷ each_index m (i +ℤ s) s f) less

-- a turn puts one element behind
pub turn_each : (a b : List Expr) (n : ℕ) (i s next : ℤ) (f : Expr → Expr) (x : Expr) → 0 < n → x ≡ f (as_index i) → b ≡ a ++ x ∷ []
    → next ≡ i +ℤ s → b ++ each_index (n - 1) next s f ≡ a ++ each_index n i s f
turn_each a b n i s next f x some is put to =
    ap (λ (j : ℤ). b ++ each_index (n - 1) j s f) to
    ∙ turn_added a b (x ∷ []) (each_index (n - 1) (i +ℤ s) s f) put
    ∙ ap (λ (y : Expr). a ++ (y ∷ each_index (n - 1) (i +ℤ s) s f)) is
    ∙ ap (λ l. a ++ l) (sym (each_first n i s f some))

each_none : (n : ℕ) (i s : ℤ) (f : Expr → Expr) → n ≤ 0 → [] ≡ each_index n i s f
each_none zero i s f none = refl
each_none (suc n) i s f none = absurd (omega (arith, none))

-- the last turn has put all behind
pub all_each : (a b xs : List Expr) (n : ℕ) (i s : ℤ) (f : Expr → Expr) → n ≤ 0 → b ++ each_index n i s f ≡ a ++ xs → Added a b xs
all_each a b xs n i s f none is = all_added a b xs (ap (λ l. b ++ l) (each_none n i s f none) ∙ is)

module _ (d u p : ℕ) (b : Bounds) (t : Plain) where
  each_inside : (n : ℕ) (i s : ℤ) → None ≡ up_outside d u → [] ≡ flat_map (from_outside d) (each_index n i s (LocalElement u p b t))
  each_inside zero i s is = refl
  each_inside (suc n) i s is =
      each_inside n (i +ℤ s) s is
      ∙ ap (λ l. l ++ flat_map (from_outside d) (each_index n (i +ℤ s) s (LocalElement u p b t))) (element_inside d u p b t (as_index i) is)

  each_outside : (n : ℕ) (i s : ℤ) (v : ℕ) → Some v ≡ up_outside d u
      → each_index n i s (LocalElement v p b t) ≡ flat_map (from_outside d) (each_index n i s (LocalElement u p b t))
  each_outside zero i s v is = refl
  each_outside (suc n) i s v is =
      ap (λ l. LocalElement v p b t (as_index i) ∷ l) (each_outside n (i +ℤ s) s v is)
      ∙ ap (λ l. l ++ flat_map (from_outside d) (each_index n (i +ℤ s) s (LocalElement u p b t))) (element_outside d u p b t (as_index i) v is)

  all_inside : None ≡ up_outside d u → [] ≡ flat_map (from_outside d) (all_elements b (LocalElement u p b t))
  all_inside is = by (int_le b.left b.right)
    where
      by : (q : Bool) → [] ≡ flat_map (from_outside d) (if q then each_index (nat_abs (b.right -ℤ b.left) + 1) b.left (pos 1) (LocalElement u p b t)
          else each_index (nat_abs (b.right -ℤ b.left) + 1) b.left (negsuc 0) (LocalElement u p b t))
      by true = each_inside (nat_abs (b.right -ℤ b.left) + 1) b.left (pos 1) is
      by false = each_inside (nat_abs (b.right -ℤ b.left) + 1) b.left (negsuc 0) is

  -- or in one around them
  pub all_outside : (v : ℕ) → Some v ≡ up_outside d u
      → all_elements b (LocalElement v p b t) ≡ flat_map (from_outside d) (all_elements b (LocalElement u p b t))
  all_outside v is = by (int_le b.left b.right)
    where
      by : (q : Bool) → (if q then each_index (nat_abs (b.right -ℤ b.left) + 1) b.left (pos 1) (LocalElement v p b t)
          else each_index (nat_abs (b.right -ℤ b.left) + 1) b.left (negsuc 0) (LocalElement v p b t))
          ≡ flat_map (from_outside d) (if q then each_index (nat_abs (b.right -ℤ b.left) + 1) b.left (pos 1) (LocalElement u p b t)
          else each_index (nat_abs (b.right -ℤ b.left) + 1) b.left (negsuc 0) (LocalElement u p b t))
      by true = each_outside (nat_abs (b.right -ℤ b.left) + 1) b.left (pos 1) v is
      by false = each_outside (nat_abs (b.right -ℤ b.left) + 1) b.left (negsuc 0) v is

  -- an array in one of these activations
  pub array_inside : (es : List Expr) → None ≡ up_outside d u
      → Added es es (flat_map (from_outside d) (all_elements b (LocalElement u p b t)))
  array_inside es is = put_none es (flat_map (from_outside d) (all_elements b (LocalElement u p b t))) (all_inside is)

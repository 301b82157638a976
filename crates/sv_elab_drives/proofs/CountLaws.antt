-- How often a path stands in a list, and what is counted of it at marks.
use Rattle.std.proofs.Common.{◌≡◌, ℕ, ◌+◌, Bool, true, false, true≢false, cond, List, [], ◌∷◌, ◌++◌, Some, None, refl, sym, ap, ◌∙◌, zero-add, add-zero, if◌then◌else◌, arith}
use Rattle.std.specs.Prelude.{◌&&◌}
use Rattle.std.specs.Bool.{nat_eq}
use Rattle.std.specs.Ordering.{nat_cmp}
use Rattle.std.specs.BTreeMap.{BTreeMap, get, is_at}
use Rattle.std.specs.Cmp.{unsigned_tied}
use Rattle.std.specs.Map.{lookup, set_value}
use Rattle.std.proofs.lemmas.Map.Steps.{set_value_same}
use Rattle.std.specs.Cmp.Lexicographic.{bytes_decides}
use Rattle.std.proofs.lemmas.Bool.{eqb-true, eq-eqb}
use Rattle.sv_names.specs.Clockings.{times_in}
use Rattle.sv_names.specs.Marks.{with_path}
use Rattle.sv_names.specs.Types.{Path, same_bytes, same_path}
use Rattle.sv_elab_drives.specs.declared.counts.Counted.{Counted}
use Rattle.sv_elab_drives.specs.Counts.{times_at, CountsOf}

-- another path
pub other_path : (p q : Path) (ps : List Path) → same_path p q ≡ false → times_in p ps ≡ times_in p (q ∷ ps)
other_path p q ps other =
    sym (zero-add (times_in p ps)) ∙ ap (λ (b : Bool). (if b then 1 else 0) + times_in p ps) (sym other)

-- the path itself
pub same_paths : (p q : Path) (ps : List Path) → same_path p q ≡ true → times_in p ps + 1 ≡ times_in p (q ∷ ps)
same_paths p q ps same =
    let more : times_in p ps + 1 ≡ 1 + times_in p ps = omega arith in
    more ∙ ap (λ (b : Bool). (if b then 1 else 0) + times_in p ps) (sym same)

-- ---- one more path

-- once or not at all
abbrev once : Bool → ℕ
once b = if b then 1 else 0

-- how often one path is another
abbrev is_path : Path → Path → ℕ
is_path p q = once (same_path p q)

regrouped : (a b c : ℕ) → a + (b + c) ≡ (a + b) + c
regrouped a b c = omega arith

beside : (a b o k : ℕ) → a ≡ b + k → a + o ≡ (b + o) + k
beside a b o k e = omega (arith, e)

-- a path stands behind others
times_behind : (p q : Path) (ps : List Path) → times_in p (ps ++ q ∷ []) ≡ times_in p ps + is_path p q
times_behind p q [] = add-zero (is_path p q) ∙ sym (zero-add (is_path p q))
times_behind p q (r ∷ rs) =
    ap (λ n. is_path p r + n) (times_behind p q rs) ∙ regrouped (is_path p r) (times_in p rs) (is_path p q)

-- ---- marks

both : (a b : Bool) → (a && b) ≡ true → (a ≡ true) × (b ≡ true)
both true b e = (refl, e)
both false b e = absurd (true≢false (sym e))

path_is : (p q : Path) → same_path p q ≡ true → p ≡ q
path_is [] [] e = refl
path_is [] (y ∷ ys) e = absurd (true≢false (sym e))
path_is (x ∷ xs) [] e = absurd (true≢false (sym e))
path_is (x ∷ xs) (y ∷ ys) e =
    let parts = both (same_bytes x y) (same_path xs ys) e in
    λ i. (bytes_decides x y).0 parts.0 i ∷ path_is xs ys parts.1 i

-- paths with other marks are other paths
other_mark : (p q : Path) → nat_eq (with_path 0 q) (with_path 0 p) ≡ false → is_path p q ≡ 0
other_mark p q e = by (same_path p q) refl
  where
    by : (b : Bool) → same_path p q ≡ b → once b ≡ 0
    by false f = refl
    by true f =
        absurd (true≢false (sym (eq-eqb (with_path 0 q) (with_path 0 p) (ap (with_path 0) (sym (path_is p q f)))) ∙ e))

-- what is counted once more is counted of its path alone
counted_more : (b : Bool) (k : ℕ) → (if b then k + 1 else 0) ≡ (if b then k else 0) + once b
counted_more true k = refl
counted_more false k = refl

-- ---- one more path is counted

module _ (old new : BTreeMap ℕ Counted) (p : Path) (n : ℕ) (mark : n ≡ with_path 0 p) where
  module _ (c : Counted) (updates : (m : ℕ) → get nat_cmp new m ≡ cond (is_at (nat_cmp n) m) (Some c) (get nat_cmp old m)) where
    -- what is counted of a path is what was counted, and the path itself
    at_mark : (q : Path) → times_at q (Some c) ≡ times_at q (get nat_cmp old n) + is_path q p
        → times_at q (get nat_cmp new (with_path 0 q)) ≡ times_at q (get nat_cmp old (with_path 0 q)) + is_path q p
    at_mark q here =
        ap (times_at q) (updates (with_path 0 q))
        ∙ ap (λ (b : Bool). times_at q (cond b (Some c) (get nat_cmp old (with_path 0 q)))) (unsigned_tied n (with_path 0 q))
        ∙ by (nat_eq n (with_path 0 q)) refl
      where
        by : (b : Bool) → nat_eq n (with_path 0 q) ≡ b
            → times_at q (cond b (Some c) (get nat_cmp old (with_path 0 q)))
            ≡ times_at q (get nat_cmp old (with_path 0 q)) + is_path q p
        by true e = here ∙ ap (λ m. times_at q (get nat_cmp old m) + is_path q p) (eqb-true n (with_path 0 q) e)
        by false e =
            sym (add-zero (times_at q (get nat_cmp old (with_path 0 q))))
            ∙ ap (λ k. times_at q (get nat_cmp old (with_path 0 q)) + k)
            (sym (other_mark q p (ap (λ m. nat_eq m (with_path 0 q)) (sym mark) ∙ e)))

    counted : ((q : Path) → times_at q (Some c) ≡ times_at q (get nat_cmp old n) + is_path q p)
        → (os ps : List Path) → CountsOf old os ps → CountsOf new os (ps ++ p ∷ [])
    counted here os ps is q =
        beside _ _ (times_in q os) (is_path q p) (at_mark q (here q)) ∙ ap (λ k. k + is_path q p) (is q)
        ∙ sym (times_behind q p ps)

  -- as the net that is counted at its mark
  pub counted_again : (c : Counted) → get nat_cmp old n ≡ Some c → same_path p c.net ≡ true
      → ((m : ℕ) → get nat_cmp new m ≡ cond (is_at (nat_cmp n) m) (Some (record c { times = c.times + 1 })) (get nat_cmp old m))
      → (os ps : List Path) → CountsOf old os ps → CountsOf new os (ps ++ p ∷ [])
  counted_again c before same updates =
      counted (record c { times = c.times + 1 }) updates (λ q.
      counted_more (same_path q c.net) c.times
      ∙ ap (λ x. times_at q (Some c) + is_path q x) (sym (path_is p c.net same))
      ∙ ap (λ o. times_at q o + is_path q p) (sym before))

  -- as the first net with its mark
  pub counted_first : get nat_cmp old n ≡ None
      → ((m : ℕ) → get nat_cmp new m ≡ cond (is_at (nat_cmp n) m) (Some (record { net = p; times = 1 })) (get nat_cmp old m))
      → (os ps : List Path) → CountsOf old os ps → CountsOf new os (ps ++ p ∷ [])
  counted_first before updates =
      counted (record { net = p; times = 1 }) updates (λ q.
      sym (zero-add (is_path q p)) ∙ ap (λ o. times_at q o + is_path q p) (sym before))

  -- beside another net with its mark
  pub counted_beside : (c : Counted) → get nat_cmp old n ≡ Some c → new.entries ≡ set_value (is_at (nat_cmp n)) old.entries c
      → (os ps : List Path) → CountsOf old os ps → CountsOf new (os ++ p ∷ []) (ps ++ p ∷ [])
  counted_beside c before written os ps is q =
      ap (λ es. times_at q (lookup (is_at (nat_cmp (with_path 0 q))) es) + times_in q (os ++ p ∷ []))
      (written ∙ set_value_same (is_at (nat_cmp n)) old.entries c before)
      ∙ ap (λ k. times_at q (get nat_cmp old (with_path 0 q)) + k) (times_behind q p os)
      ∙ regrouped (times_at q (get nat_cmp old (with_path 0 q))) (times_in q os) (is_path q p)
      ∙ ap (λ k. k + is_path q p) (is q) ∙ sym (times_behind q p ps)

-- Writes are kept at the marks of their objects, and what asks for one object need not look at other marks.
use Rattle.std.proofs.Common.{◌≡◌, ◌≢◌, ℕ, Bool, true, false, true≢false, List, [], ◌∷◌, ◌++◌, map, Option, Some, refl, sym, ap, ◌∙◌, append-nil}
use Rattle.std.specs.Prelude.{not, ◌&&◌, ◌||◌, ◌==◌, if◌then◌else◌}
use Rattle.std.specs.Bool.{nat_eq}
use Rattle.std.specs.Ordering.{nat_cmp}
use Rattle.std.specs.BTreeMap.{BTreeMap, get}
use Rattle.std.specs.Cmp.Lexicographic.{bytes_decides}
use Rattle.std.proofs.Math.Bool.{and-false}
use Rattle.std.proofs.lemmas.Bool.{eqb-true, eq-eqb}
use Rattle.std.proofs.lemmas.List.{map-append}
use Rattle.std.proofs.lemmas.List.Elements.{filter-append}
use Rattle.sv_names.specs.Checked.{place_before}
use Rattle.sv_names.specs.Marks.{with_path}
use Rattle.sv_names.specs.Types.{Path, same_bytes, same_path}
use Rattle.sv_names.specs.Writers as writers
use Rattle.sv_names.specs.Writers.{is_continuous, is_alone, same_continuous, comes_first, some}
use Rattle.sv_elab_writers.specs.declared.clashes.Law.{Law}
use Rattle.sv_elab_writers.specs.declared.clashes.Law.TheVariants as law
use Rattle.sv_elab_writers.specs.declared.writes.Write.{Write}
use Rattle.sv_elab_writers.specs.Laws.{clashes, continues}
use Rattle.sv_elab_writers.specs.Marks.{writes_in, with_mark, HasWrites}
use Rattle.sv_elab_writers.specs.Views.{write_in}

-- a write more
pub one_more : (old new : BTreeMap ℕ (List Write)) (w : Write) (n : ℕ) → n ≡ with_path 0 w.object.now
    → get nat_cmp new n ≡ Some (writes_in (get nat_cmp old n) ++ w ∷ [])
    → ((m : ℕ) → m ≢ n → get nat_cmp new m ≡ get nat_cmp old m)
    → (ws : List Write) → HasWrites old (map write_in ws) → HasWrites new (map write_in (ws ++ w ∷ []))
one_more old new w n is here others ws has m =
    by (nat_eq (with_path 0 w.object.now) m) refl
    ∙ sym (ap (with_mark m) (map-append write_in ws (w ∷ [])) ∙ filter-append (λ v. nat_eq (with_path 0 v.object) m) (map write_in ws) (write_in w ∷ []))
  where
    by : (b : Bool) → nat_eq (with_path 0 w.object.now) m ≡ b
        → map write_in (writes_in (get nat_cmp new m)) ≡ with_mark m (map write_in ws) ++ (if b then write_in w ∷ [] else [])
    by true e =
        let same : m ≡ n = sym (is ∙ eqb-true (with_path 0 w.object.now) m e) in
        let found : get nat_cmp new m ≡ Some (writes_in (get nat_cmp old m) ++ w ∷ []) =
        ap (get nat_cmp new) same ∙ here ∙ ap (λ k. Some (writes_in (get nat_cmp old k) ++ w ∷ [])) (sym same) in
        ap (λ o. map write_in (writes_in o)) found ∙ map-append write_in (writes_in (get nat_cmp old m)) (w ∷ []) ∙ ap (λ l. l ++ write_in w ∷ []) (has m)
    by false e =
        ap (λ o. map write_in (writes_in o)) (others m (λ same. true≢false (sym (eq-eqb _ m (sym (same ∙ is))) ∙ e)))
        ∙ has m ∙ sym (append-nil (with_mark m (map write_in ws)))

-- what holds of no write with another mark is asked of those with a mark alone
among_marked : (p : writers.Write → Bool) (m : ℕ) → ((v : writers.Write) → nat_eq (with_path 0 v.object) m ≡ false → p v ≡ false)
    → (ws : List writers.Write) → some p (with_mark m ws) ≡ some p ws
among_marked p m other [] = refl
among_marked p m other (v ∷ vs) = by (nat_eq (with_path 0 v.object) m) refl (among_marked p m other vs)
  where
    by : (b : Bool) → nat_eq (with_path 0 v.object) m ≡ b → some p (with_mark m vs) ≡ some p vs
        → some p (if b then v ∷ with_mark m vs else with_mark m vs) ≡ (p v || some p vs)
    by true e more = ap (λ (c : Bool). p v || c) more
    by false e more = more ∙ sym (ap (λ (c : Bool). c || some p vs) (other v e))

both : (a b : Bool) → (a && b) ≡ true → (a ≡ true) × (b ≡ true)
both true b e = (refl, e)
both false b e = absurd (true≢false (sym e))

path_is : (p q : Path) → same_path p q ≡ true → p ≡ q
path_is [] [] e = refl
path_is [] (y ∷ ys) e = absurd (true≢false (sym e))
path_is (x ∷ xs) [] e = absurd (true≢false (sym e))
path_is (x ∷ xs) (y ∷ ys) e =
    let parts = both (same_bytes x y) (same_path xs ys) e in
    λ i. (bytes_decides x y).0 parts.0 i ∷ path_is xs ys parts.1 i

-- paths with other marks are other paths
other_path : (p q : Path) → nat_eq (with_path 0 p) (with_path 0 q) ≡ false → same_path p q ≡ false
other_path p q e = by (same_path p q) refl
  where
    by : (b : Bool) → same_path p q ≡ b → b ≡ false
    by false f = refl
    by true f = absurd (true≢false (sym (eq-eqb (with_path 0 p) (with_path 0 q) (ap (with_path 0) (path_is p q f))) ∙ e))

-- writes of objects with other marks do not clash
no_clash : (l : Law) (w v : writers.Write) → nat_eq (with_path 0 v.object) (with_path 0 w.object) ≡ false → clashes l w v ≡ false
no_clash law.Continuous w v e = by (is_continuous v.writer || is_continuous w.writer) (place_before v.at w.at) (other_path v.object w.object e)
  where
    by : (a b : Bool) {c : Bool} → c ≡ false → (a && b && c && not (same_continuous v w)) ≡ false
    by true true e = ap (λ (c : Bool). c && not (same_continuous v w)) e
    by true false e = refl
    by false b e = refl
no_clash law.Alone w v e = by (is_alone v.writer || is_alone w.writer) (not (v.process == w.process)) (other_path v.object w.object e)
  where
    by : (a b : Bool) {c : Bool} → c ≡ false → (a && b && comes_first v w && c) ≡ false
    by true true e = ap (λ (c : Bool). comes_first v w && c) e ∙ and-false (comes_first v w)
    by true false e = refl
    by false b e = refl

module _ (marked : BTreeMap ℕ (List Write)) (m : ℕ) (found : Option (List Write)) (is : found ≡ get nat_cmp marked m)
    (ws : List writers.Write) (has : HasWrites marked ws) where
  -- so a write clashes with one of its mark, or with none
  pub clashes_marked : (l : Law) (w : writers.Write) → m ≡ with_path 0 w.object
      → some (clashes l w) (map write_in (writes_in found)) ≡ some (clashes l w) ws
  clashes_marked l w mark =
      ap (λ o. some (clashes l w) (map write_in (writes_in o))) is ∙ ap (some (clashes l w)) (has m)
      ∙ among_marked (clashes l w) m (λ v e. no_clash l w v (ap (nat_eq (with_path 0 v.object)) (sym mark) ∙ e)) ws

  -- and an object is written continuously by one of its mark, or by none
  pub continues_marked : (p : Path) → m ≡ with_path 0 p
      → some (continues p) (map write_in (writes_in found)) ≡ some (continues p) ws
  continues_marked p mark =
      ap (λ o. some (continues p) (map write_in (writes_in o))) is ∙ ap (some (continues p)) (has m)
      ∙ among_marked (continues p) m (λ v e. ap (λ (b : Bool). is_continuous v.writer && b)
      (other_path v.object p (ap (nat_eq (with_path 0 v.object)) (sym mark) ∙ e)) ∙ and-false (is_continuous v.writer)) ws

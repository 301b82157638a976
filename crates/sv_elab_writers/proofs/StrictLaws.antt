-- Clashes of a write that lets others beside it.
use Rattle.std.proofs.Common.{◌≡◌, Bool, true, false, List, [], ◌∷◌, ◌++◌, map, refl, sym, ap, ◌∙◌}
use Rattle.std.specs.Prelude.{not, ◌&&◌, ◌||◌, ◌==◌, flat_map, if◌then◌else◌}
use Rattle.sv_names.specs.declared.checked.Checked.TheVariants.{Good}
use Rattle.sv_names.specs.Checked.{place_before, rule, all, ◌where_also◌}
use Rattle.sv_names.specs.Types.{Path, same_path}
use Rattle.sv_names.specs.Writers as writers
use Rattle.sv_names.specs.Writers.{Initialized, same_continuous, comes_first, is_continuous, not_initialized, some}
use Rattle.sv_elab_writers.specs.declared.clashes.Law.{Law}
use Rattle.sv_elab_writers.specs.declared.clashes.Law.TheVariants as law
use Rattle.sv_elab_writers.specs.declared.writes.Write.{Write}
use Rattle.sv_elab_writers.specs.Laws.{clashes, continues, is_strict, strict, strict_of, stands, all_stand, number_of}
use Rattle.sv_elab_writers.specs.Views.{write_in, Written}
use Rattle.sv_elab_writers.proofs.WrittenLaws.{written_none, written_one}

-- a write that lets no other beside it is kept
pub kept : (l : Law) (ws vs : List Write) (w : Write) → is_strict l (write_in w).writer ≡ true → vs ≡ ws ++ w ∷ []
    → Written ws vs (strict_of l (write_in w))
kept l ws vs w is made =
    written_one ws vs w made ∙ sym (ap (λ (b : Bool). map write_in ws ++ (if b then write_in w ∷ [] else [])) is)

-- any other is not
pub left_out : (l : Law) (ws : List Write) (w : Write) → is_strict l (write_in w).writer ≡ false → Written ws ws (strict_of l (write_in w))
left_out l ws w is =
    written_none ws ∙ sym (ap (λ (b : Bool). map write_in ws ++ (if b then write_in w ∷ [] else [])) is)

-- a clash needs a write that lets no other beside it
no_clash : (l : Law) (w v : writers.Write) → is_strict l v.writer ≡ false → is_strict l w.writer ≡ false → clashes l w v ≡ false
no_clash law.Continuous w v a b =
    λ i. (a i || b i) && place_before v.at w.at && same_path v.object w.object && not (same_continuous v w)
no_clash law.Alone w v a b =
    λ i. (a i || b i) && not (v.process == w.process) && comes_first v w && same_path v.object w.object

-- so one that lets others clashes with those that do not, or with none
pub among_strict : (l : Law) (w : writers.Write) (ws : List writers.Write) → is_strict l w.writer ≡ false
    → some (clashes l w) (flat_map (strict_of l) ws) ≡ some (clashes l w) ws
among_strict l w [] is = refl
among_strict l w (v ∷ vs) is = by (is_strict l v.writer) refl (among_strict l w vs is)
  where
    by : (b : Bool) → is_strict l v.writer ≡ b → some (clashes l w) (flat_map (strict_of l) vs) ≡ some (clashes l w) vs
        → some (clashes l w) ((if b then v ∷ [] else []) ++ flat_map (strict_of l) vs) ≡ (clashes l w v || some (clashes l w) vs)
    by true e more = ap (λ (c : Bool). clashes l w v || c) more
    by false e more = more ∙ sym (ap (λ (c : Bool). c || some (clashes l w) vs) (no_clash l w v e is))

-- ---- where all let others beside them

both_false : (a b : Bool) → (a || b) ≡ false → (a ≡ false) × (b ≡ false)
both_false true b e = absurd (cc)
both_false false b e = (refl, e)

-- none clashes with one that lets others
clashes_none : (l : Law) (w : writers.Write) (ws : List writers.Write) → is_strict l w.writer ≡ false → some (strict l) ws ≡ false
    → some (clashes l w) ws ≡ false
clashes_none l w [] is none = refl
clashes_none l w (v ∷ vs) is none =
    let both = both_false (strict l v) (some (strict l) vs) none in
    λ i. no_clash l w v both.0 is i || clashes_none l w vs is both.1 i

-- each of some stands among all
stands_each : (l : Law) (ws vs : List writers.Write) → some (strict l) ws ≡ false → some (strict l) vs ≡ false → all (stands l ws) vs ≡ Good tt
stands_each l ws [] none of_these = refl
stands_each l ws (v ∷ vs) none of_these =
    let both = both_false (strict l v) (some (strict l) vs) of_these in
    λ i. rule (number_of l) v.at (clashes_none l v ws both.0 none i) where_also stands_each l ws vs none both.1 i

-- so no rule is broken
pub none_strict : (l : Law) (ws : List writers.Write) → some (strict l) ws ≡ false → all_stand l ws ≡ Good tt
none_strict l ws none = stands_each l ws ws none none

-- no object is written continuously
continues_none : (p : Path) (ws : List writers.Write) → some (strict law.Continuous) ws ≡ false → some (continues p) ws ≡ false
continues_none p [] none = refl
continues_none p (v ∷ vs) none =
    let both = both_false (is_continuous v.writer) (some (strict law.Continuous) vs) none in
    λ i. (both.0 i && same_path v.object p) || continues_none p vs both.1 i

-- nor one with an initializer
pub none_continued : (ws : List writers.Write) (is : List Initialized) → some (strict law.Continuous) ws ≡ false
    → all (not_initialized ws) is ≡ Good tt
none_continued ws [] none = refl
none_continued ws (o ∷ os) none =
    λ i. rule 23 o.1 (continues_none o.0 ws none i) where_also none_continued ws os none i

-- A subroutine is found where its path stands first.
use Rattle.std.proofs.Common.{◌≡◌, ℕ, suc, ◌+◌, ◌<◌, ◌≤◌, Bool, true, false, List, [], ◌∷◌, length, map, slice_get, Option, Some, None, refl, sym, ap, ◌∙◌, if◌then◌else◌, arith}
use Rattle.std.specs.Prelude.{get_or}
use Rattle.std.proofs.lemmas.Option.{slice_get-get_or, slice_get_past}
use Rattle.sv_names.specs.Types.{Path, same_path, position_of}
use Rattle.sv_names.specs.Writers as writers
use Rattle.sv_names.specs.Writers.{touches_at}
use Rattle.sv_elab_writers.specs.declared.rows.Row.{Row}
use Rattle.sv_elab_writers.specs.Tables.{paths_of}
use Rattle.sv_elab_writers.specs.Views.{touch_in, row_in}

-- positions that are counted from a number on
position_from : (k : ℕ) (p : Path) (ps : List Path) → position_of k p ps ≡ k + position_of 0 p ps
position_from k p [] = omega arith
position_from k p (q ∷ qs) = by (same_path p q) (position_from (k + 1) p qs) (position_from 1 p qs)
  where
    by : (b : Bool) → position_of (k + 1) p qs ≡ k + 1 + position_of 0 p qs → position_of 1 p qs ≡ 1 + position_of 0 p qs
        → (if b then k else position_of (k + 1) p qs) ≡ k + (if b then 0 else position_of 1 p qs)
    by true one two = omega arith
    by false one two = omega (arith, one, two)

-- the touches of a row, if there is one
abbrev touches_of : Option Row → List writers.Touch
touches_of None = []
touches_of (Some r) = map touch_in r.touches.now

found_row : (p : Path) (rs : List Row) → touches_of (slice_get rs (position_of 0 p (paths_of rs))) ≡ touches_at p (map row_in rs)
found_row p [] = refl
found_row p (r ∷ rs) =
    let from : position_of 1 p (paths_of rs) ≡ suc (position_of 0 p (paths_of rs)) = omega (arith, position_from 1 p (paths_of rs)) in
    by (same_path p r.path.now) from (found_row p rs)
  where
    by : (b : Bool) → position_of 1 p (paths_of rs) ≡ suc (position_of 0 p (paths_of rs))
        → touches_of (slice_get rs (position_of 0 p (paths_of rs))) ≡ touches_at p (map row_in rs)
        → touches_of (slice_get (r ∷ rs) (if b then 0 else position_of 1 p (paths_of rs)))
        ≡ (if b then map touch_in r.touches.now else touches_at p (map row_in rs))
    by true from more = refl
    by false from more = ap (λ (n : ℕ). touches_of (slice_get (r ∷ rs) n)) from ∙ more

module _ (p : Path) (rs : List Row) (ps : List Path) (i : ℕ) (paths : ps ≡ paths_of rs) (is : i ≡ position_of 0 p ps) where
  there : touches_of (slice_get rs i) ≡ touches_at p (map row_in rs)
  there = ap (λ (n : ℕ). touches_of (slice_get rs n)) (is ∙ ap (position_of 0 p) paths) ∙ found_row p rs

  -- a path of no subroutine
  pub touches_none : length rs ≤ i → [] ≡ touches_at p (map row_in rs)
  touches_none past = sym (ap touches_of (slice_get_past rs i past)) ∙ there

  -- the path of a subroutine
  pub touches_some : (r : Row) → i < length rs → r ≡ get_or rs i r → map touch_in r.touches.now ≡ touches_at p (map row_in rs)
  touches_some r within found =
      ap (λ (x : Row). map touch_in x.touches.now) found
      ∙ sym (ap touches_of (slice_get-get_or rs i r within)) ∙ there

-- Declarations that need themselves, by where they stand, are those of the definition.
use Rattle.std.proofs.Common.{◌≡◌, ℕ, zero, suc, ◌-◌, ◌<◌, ◌≤◌, Bool, true, false, ◌||◌, List, [], ◌∷◌, ◌++◌, length, map, refl, ap, sym, ◌∙◌, arith, if◌then◌else◌}
use Rattle.std.proofs.lemmas.List.{length-map}
use Rattle.sv_names.specs.Rounds as rounds
use Rattle.sv_names.specs.Rounds.{Row, same_row, among}
use Rattle.sv_elab_scope.specs.declared.ids.RowId.{RowId}
use Rattle.sv_elab_scope.specs.declared.loops.Needed.{Needed}
use Rattle.sv_elab_scope.specs.Ids.{among_id, id_of, id_if}
use Rattle.sv_elab_scope.specs.Loops.{with_one, with_new, with_needed, grown, reached, is_in_loop, in_loops}

-- ---- the loop of steps

pub reached_more : (ns : List Needed) (n : ℕ) (found : List RowId) → 0 < n → reached ns (n - 1) (grown ns found) ≡ reached ns n found
reached_more ns zero found some = absurd (omega (arith, some))
reached_more ns (suc k) found some = let e : suc k - 1 ≡ k = omega arith in ap (λ m. reached ns m (grown ns found)) e

pub reached_all : (ns : List Needed) (n : ℕ) (found : List RowId) → n ≤ 0 → found ≡ reached ns n found
reached_all ns zero found none = refl
reached_all ns (suc k) found none = absurd (omega (arith, none))

-- ---- a step that adds none is the last one

-- one list is another one with some more in front
record Grows (old new : List RowId) : Type 0 where
  pub more : length old ≤ length new
  pub same : length new ≡ length old → new ≡ old

grows_same : (old : List RowId) → Grows old old
grows_same old = record { more = omega arith; same = λ e. refl }

grows_then : (old mid new : List RowId) → Grows old mid → Grows mid new → Grows old new
grows_then old mid new a b =
    record {
      more = omega (arith, a.more, b.more);
      same = λ e. b.same (omega (arith, a.more, b.more, e)) ∙ a.same (omega (arith, a.more, b.more, e));
    }

grows_by : (x : RowId) (old : List RowId) → Grows old (x ∷ old)
grows_by x old = record { more = omega arith; same = λ e. absurd (omega (arith, e)) }

one-grows : (b : Bool) (x : RowId) (found : List RowId) → Grows found (if b then found else x ∷ found)
one-grows true x found = grows_same found
one-grows false x found = grows_by x found

with_new-grows : (xs found : List RowId) → Grows found (with_new xs found)
with_new-grows [] found = grows_same found
with_new-grows (x ∷ xs) found =
    grows_then found (with_one x found) (with_new xs (with_one x found)) (one-grows (among_id x found) x found) (with_new-grows xs (with_one x found))

needed-grows : (b : Bool) (xs found : List RowId) → Grows found (if b then with_new xs found else found)
needed-grows true xs found = with_new-grows xs found
needed-grows false xs found = grows_same found

grown-grows : (ns : List Needed) (found : List RowId) → Grows found (grown ns found)
grown-grows [] found = grows_same found
grown-grows (n ∷ ns) found =
    grows_then found (with_needed n found) (grown ns (with_needed n found)) (needed-grows (among_id n.one found) n.by found)
    (grown-grows ns (with_needed n found))

reached-same : (ns : List Needed) (n : ℕ) (found : List RowId) → grown ns found ≡ found → reached ns n found ≡ found
reached-same ns zero found e = refl
reached-same ns (suc k) found e = ap (reached ns k) e ∙ reached-same ns k found e

pub reached_still : (ns : List Needed) (n : ℕ) (found new : List RowId) → new ≡ grown ns found → length new ≡ length found → new ≡ reached ns n found
reached_still ns n found new made still =
    let last : grown ns found ≡ found = (grown-grows ns found).same (ap length (sym made) ∙ still) in
    made ∙ last ∙ sym (reached-same ns n found last)

-- ---- rows by where they stand

pub among-ids : (r : Row) (rs : List Row) → among_id (id_of r) (map id_of rs) ≡ among r rs
among-ids r [] = refl
among-ids r (x ∷ rs) = ap (λ b. same_row r x || b) (among-ids r rs)

-- one that waits, with those that need it
abbrev pub needed_of : rounds.Needed → Needed
needed_of n = record { one = id_of n.one; by = map id_of n.by }

one-id : (b : Bool) (x : Row) (found : List Row)
    → (if b then map id_of found else id_of x ∷ map id_of found) ≡ map id_of (if b then found else x ∷ found)
one-id true x found = refl
one-id false x found = refl

with_one-ids : (x : Row) (found : List Row) → with_one (id_of x) (map id_of found) ≡ map id_of (if among x found then found else x ∷ found)
with_one-ids x found =
    ap (λ b. if b then map id_of found else id_of x ∷ map id_of found) (among-ids x found) ∙ one-id (among x found) x found

with_new-ids : (xs found : List Row) → with_new (map id_of xs) (map id_of found) ≡ map id_of (rounds.with_new xs found)
with_new-ids [] found = refl
with_new-ids (x ∷ xs) found =
    ap (with_new (map id_of xs)) (with_one-ids x found) ∙ with_new-ids xs (if among x found then found else x ∷ found)

needed-if : (b : Bool) (xs found : List Row)
    → (if b then with_new (map id_of xs) (map id_of found) else map id_of found) ≡ map id_of (if b then rounds.with_new xs found else found)
needed-if true xs found = with_new-ids xs found
needed-if false xs found = refl

with_needed-ids : (n : rounds.Needed) (found : List Row)
    → with_needed (needed_of n) (map id_of found) ≡ map id_of (if among n.one found then rounds.with_new n.by found else found)
with_needed-ids n found =
    ap (λ b. if b then with_new (map id_of n.by) (map id_of found) else map id_of found) (among-ids n.one found)
    ∙ needed-if (among n.one found) n.by found

grown-ids : (ns : List rounds.Needed) (found : List Row) → grown (map needed_of ns) (map id_of found) ≡ map id_of (rounds.grown ns found)
grown-ids [] found = refl
grown-ids (n ∷ ns) found =
    ap (grown (map needed_of ns)) (with_needed-ids n found)
    ∙ grown-ids ns (if among n.one found then rounds.with_new n.by found else found)

reached-ids : (ns : List rounds.Needed) (k : ℕ) (found : List Row)
    → reached (map needed_of ns) k (map id_of found) ≡ map id_of (rounds.reached ns k found)
reached-ids ns zero found = refl
reached-ids ns (suc k) found = ap (reached (map needed_of ns) k) (grown-ids ns found) ∙ reached-ids ns k (rounds.grown ns found)

in_loop-is : (all : List rounds.Needed) (n : rounds.Needed)
    → is_in_loop (map needed_of all) (needed_of n) ≡ among n.one (rounds.reached all (length all) n.by)
in_loop-is all n =
    ap (λ k. among_id (id_of n.one) (reached (map needed_of all) k (map id_of n.by))) (length-map all needed_of)
    ∙ ap (among_id (id_of n.one)) (reached-ids all (length all) n.by)
    ∙ among-ids n.one (rounds.reached all (length all) n.by)

loop-if : (b : Bool) (x : Row) (rest : List RowId) (more : List Row) → rest ≡ map id_of more
    → id_if b (id_of x) ++ rest ≡ map id_of (if b then x ∷ more else more)
loop-if true x rest more is = ap (λ ids. id_of x ∷ ids) is
loop-if false x rest more is = is

-- those that need themselves
pub in_loops-ids : (all ns : List rounds.Needed) → in_loops (map needed_of all) (map needed_of ns) ≡ map id_of (rounds.in_loops all ns)
in_loops-ids all [] = refl
in_loops-ids all (n ∷ ns) =
    ap (λ b. id_if b (id_of n.one) ++ in_loops (map needed_of all) (map needed_of ns)) (in_loop-is all n)
    ∙ loop-if (among n.one (rounds.reached all (length all) n.by)) n.one (in_loops (map needed_of all) (map needed_of ns))
    (rounds.in_loops all ns) (in_loops-ids all ns)

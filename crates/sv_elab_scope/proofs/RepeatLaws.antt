-- Names that are declared twice, from the first declaration on.
use Rattle.std.proofs.Common.{◌≡◌, ℕ, ◌+◌, ◌<◌, Bool, true, false, not, ◌&&◌, ◌||◌, List, [], ◌∷◌, ◌++◌, length, get_or, take, drop, map, reverse, refl, ap, sym, ◌∙◌, true≢false}
use Rattle.std.proofs.lemmas.List.{reverse-append, take_more, drop_more}
use Rattle.sv_names.specs.declared.checked.Checked.{Checked}
use Rattle.sv_names.specs.declared.checked.Checked.TheVariants.{Good, Broken}
use Rattle.sv_names.specs.Types.{same_bytes}
use Rattle.sv_names.specs.Checked.{rule, ◌where_also◌}
use Rattle.sv_names.specs.Entries.{Sort, sort_of, agree, clashes, twice}
use Rattle.sv_names.specs.Index.{has_name}
use Rattle.sv_names.specs.declared.name_set.NameSet.{NameSet}
use Rattle.sv_names.proofs.Joined.{next_guarded}
use Rattle.sv_elab_scope.specs.declared.declared.Entry.{Entry}
use Rattle.sv_elab_scope.specs.Views.{entry_in}
use Rattle.sv_elab_scope.specs.Repeated.{clash_of, seen_of, seen_in, is_named, HasNames, of_rule}

-- ---- the order of what was seen does not matter

or_grouped : (a b c : Bool) → (a || (b || c)) ≡ (a || b || c)
or_grouped true b c = refl
or_grouped false b c = refl

or_last : (a b : Bool) → (b || (a || false)) ≡ (a || b)
or_last true true = refl
or_last true false = refl
or_last false true = refl
or_last false false = refl

module _ (x : List ℕ) (s : Sort) where
  clashes-append : (a b : List (List ℕ × Sort)) → clashes x s (a ++ b) ≡ (clashes x s a || clashes x s b)
  clashes-append [] b = refl
  clashes-append (e ∷ a) b =
      ap (λ c. (same_bytes x e.0 && not (agree e.1 s)) || c) (clashes-append a b)
      ∙ or_grouped (same_bytes x e.0 && not (agree e.1 s)) (clashes x s a) (clashes x s b)

  clashes-reverse : (a : List (List ℕ × Sort)) → clashes x s (reverse a) ≡ clashes x s a
  clashes-reverse [] = refl
  clashes-reverse (e ∷ a) =
      ap (clashes x s) (reverse-append (e ∷ []) a)
      ∙ clashes-append (reverse a) (e ∷ [])
      ∙ ap (λ c. c || ((same_bytes x e.0 && not (agree e.1 s)) || false)) (clashes-reverse a)
      ∙ or_last (same_bytes x e.0 && not (agree e.1 s)) (clashes x s a)

seen-append : (es : List Entry) (e : Entry) → seen_in (es ++ e ∷ []) ≡ seen_in es ++ seen_of e
seen-append [] e = refl
seen-append (d ∷ es) e = ap (λ more. (d.name.now.text, sort_of (entry_in d).what) ∷ more) (seen-append es e)

-- ---- names that were seen

or_swap : (a b c : Bool) → (a || (b || c)) ≡ (b || (a || c))
or_swap true true c = refl
or_swap true false c = refl
or_swap false b c = refl

named-last : (x : List ℕ) (es : List Entry) (e : Entry) → is_named x (es ++ e ∷ []) ≡ (same_bytes x e.name.now.text || is_named x es)
named-last x [] e = refl
named-last x (d ∷ es) e =
    ap (λ (b : Bool). same_bytes x d.name.now.text || b) (named-last x es e)
    ∙ or_swap (same_bytes x d.name.now.text) (same_bytes x e.name.now.text) (is_named x es)

unnamed : (x : List ℕ) (s : Sort) (es : List Entry) → is_named x es ≡ false → clashes x s (seen_in es) ≡ false
unnamed x s [] new = refl
unnamed x s (e ∷ es) new = by (same_bytes x e.name.now.text) new (λ is. unnamed x s es is)
  where
    by : (b : Bool) → (b || is_named x es) ≡ false → (is_named x es ≡ false → clashes x s (seen_in es) ≡ false)
        → ((b && not (agree (sort_of (entry_in e).what) s)) || clashes x s (seen_in es)) ≡ false
    by true is more = absurd (true≢false is)
    by false is more = more is

-- a name that was not seen clashes with none
pub new_name : (set : NameSet) (e : Entry) (es : List Entry) → HasNames set es → has_name set e.name.now.text ≡ false → clash_of e (seen_in es) ≡ false
new_name set e es has new = unnamed e.name.now.text (sort_of (entry_in e).what) es (sym (has e.name.now.text) ∙ new)

-- one more name was seen
pub one_named : (set more : NameSet) (es : List Entry) (i : ℕ) (e : Entry) → i < length es → get_or es i e ≡ e → HasNames set (take i es)
    → ((x : List ℕ) → has_name more x ≡ (same_bytes x e.name.now.text || has_name set x)) → HasNames more (take (i + 1) es)
one_named set more es i e within is has added x =
    added x ∙ ap (λ (b : Bool). same_bytes x e.name.now.text || b) (has x) ∙ sym (named-last x (take i es) e)
    ∙ sym (ap (is_named x) (take_more es i e within ∙ ap (λ d. take i es ++ d ∷ []) is))

-- ---- one declaration after another

-- nothing is broken before
pub none_before : (c : Checked (Unit {0})) → (Good tt where_also c) ≡ c
none_before (Good u) = refl
none_before (Broken f) = refl

-- nothing comes behind
pub none_behind : (c : Checked (Unit {0})) → (c where_also Good tt) ≡ c
none_behind (Good u) = refl
none_behind (Broken f) = refl

pub one_more : (n : ℕ) (es : List Entry) (i : ℕ) (e : Entry) (guards r next : Checked (Unit {0})) → i < length es → get_or es i e ≡ e
    → next ≡ (guards where_also r) → r ≡ rule n e.name.now.at (clashes e.name.now.text (sort_of (entry_in e).what) (seen_in (take i es)))
    → (next where_also twice (of_rule n) (reverse (seen_in (take (i + 1) es))) (map entry_in (drop (i + 1) es)))
    ≡ (guards where_also twice (of_rule n) (reverse (seen_in (take i es))) (map entry_in (drop i es)))
one_more n es i e guards r next within is made told =
    let x : List ℕ = e.name.now.text in
    let s : Sort = sort_of (entry_in e).what in
    let seen : List (List ℕ × Sort) = seen_in (take i es) in
    let rest = map entry_in (drop (i + 1) es) in
    let more : reverse (seen_in (take (i + 1) es)) ≡ (x, s) ∷ reverse seen =
    ap (λ xs. reverse (seen_in xs)) (take_more es i e within ∙ ap (λ d. take i es ++ d ∷ []) is)
    ∙ ap reverse (seen-append (take i es) e) ∙ reverse-append seen ((x, s) ∷ []) in
    let left : drop i es ≡ e ∷ drop (i + 1) es = drop_more es i e within ∙ ap (λ d. d ∷ drop (i + 1) es) is in
    (λ j. made j where_also twice (of_rule n) (more j) rest)
    ∙ next_guarded guards r (twice (of_rule n) ((x, s) ∷ reverse seen) rest)
    ∙ ap (λ t. guards where_also (t where_also twice (of_rule n) ((x, s) ∷ reverse seen) rest))
    (told ∙ ap (rule n e.name.now.at) (sym (clashes-reverse x s seen)))
    ∙ ap (λ ds. guards where_also twice (of_rule n) (reverse seen) (map entry_in ds)) (sym left)

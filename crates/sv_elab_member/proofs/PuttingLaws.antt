-- Objects and subroutines, one behind another.
use Rattle.std.proofs.Common.{◌≡◌, ◌∙◌, ℕ, ◌+◌, ◌<◌, ◌≤◌, List, [], ◌∷◌, ◌++◌, length, drop, get_or, map, refl, sym, subst, ap, append_assoc}
use Rattle.std.proofs.lemmas.List.{drop_more, drop_all}
use Rattle.sv_flat.specs.declared.object.Object.{Object}
use Rattle.sv_names.specs.declared.checked.Checked.{Checked}
use Rattle.sv_names.specs.declared.checked.Checked.TheVariants.{Good, Broken}
use Rattle.sv_names.specs.Checked.{each, put_before}
use Rattle.sv_names.specs.Classes.{joined}
use Rattle.sv_names.specs.Joined as lists
use Rattle.sv_names.specs.Subroutines.{MadeSubroutine}
use Rattle.sv_names.proofs.Joined.{joined_grouped, joined_last}
use Rattle.sv_elab_parts.specs.declared.so_far.SoFar.{SoFar}
use Rattle.sv_elab_member.specs.Putting.{PutsAll}

-- objects behind others
pub placed_behind : (os os' os'' xs ys : List Object) → os' ≡ os ++ xs → os'' ≡ os' ++ ys → os'' ≡ os ++ (xs ++ ys)
placed_behind os os' os'' xs ys first second = second ∙ ap (λ l. l ++ ys) first ∙ append_assoc os xs ys

-- subroutines behind others
pub put_behind : (a b c : SoFar) (ms ns : List MadeSubroutine) → PutsAll a b ms → PutsAll b c ns → PutsAll a c (ms ++ ns)
put_behind a b c [] ns is more = subst (λ x. PutsAll x c ns) is more
put_behind a b c (m ∷ ms) ns (y, first, rest) more = (y, first, put_behind y b c ms ns rest more)

-- ---- lists of lists

-- one list before the others
joined_more : {A : Type 0} (x : Checked (List A)) (xs : Checked (List (List A))) → lists.joined x (joined xs) ≡ joined (put_before x xs)
joined_more (Good a) (Good as') = refl
joined_more (Good a) (Broken f) = refl
joined_more (Broken f) (Good as') = refl
joined_more (Broken f) (Broken g) = refl

module _ {W A B : Type 0} (view : W → A) (f : A → Checked (List B)) where
  -- the lists of all
  abbrev lists_of : List W → Checked (List B)
  lists_of xs = joined (each f (map view xs))

  -- one list further
  pub list_next : (xs : List W) (i : ℕ) (x : W) (c whole : Checked (List B)) → i < length xs → get_or xs i x ≡ x
      → lists.joined c (lists_of (drop i xs)) ≡ whole → lists.joined (lists.joined c (f (view x))) (lists_of (drop (i + 1) xs)) ≡ whole
  list_next xs i x c whole within is so_far =
      let rest = drop (i + 1) xs in
      let here : drop i xs ≡ x ∷ rest = drop_more xs i x within ∙ ap (λ y. y ∷ rest) is in
      joined_grouped c (f (view x)) (lists_of rest)
      ∙ ap (lists.joined c) (joined_more (f (view x)) (each f (map view rest)) ∙ sym (ap lists_of here)) ∙ so_far

  -- all lists
  pub lists_all : (xs : List W) (i : ℕ) (c whole : Checked (List B)) → length xs ≤ i → lists.joined c (lists_of (drop i xs)) ≡ whole → c ≡ whole
  lists_all xs i c whole past so_far = sym (joined_last c) ∙ ap (lists.joined c) (sym (ap lists_of (drop_all i xs past))) ∙ so_far

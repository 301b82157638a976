-- A second default clocking.
use Rattle.std.proofs.Common.{◌≡◌, ◌∙◌, Bool, true, false, List, [], ◌∷◌, ◌++◌, refl, sym, ap}
use Rattle.sv_value.specs.declared.place.Place.{Place}
use Rattle.sv_names.specs.Checked.{broken_at}
use Rattle.sv_elab_plain.specs.Parts.{at_most_behind}

module _ (before more : List Place) where
  -- an item that makes no default
  pub no_word : (b : Bool) → [] ≡ before → at_most_behind b (before ++ more) ≡ at_most_behind b more
  no_word b is = ap (λ (ps : List Place). at_most_behind b (ps ++ more)) (sym is)

  -- one that makes the first
  pub first_word : (p : Place) → p ∷ [] ≡ before → at_most_behind false (before ++ more) ≡ at_most_behind true more
  first_word p is = ap (λ (ps : List Place). at_most_behind false (ps ++ more)) (sym is) ∙ by more
    where
      by : (ps : List Place) → at_most_behind false (p ∷ ps) ≡ at_most_behind true ps
      by [] = refl
      by (q ∷ ps) = refl

  -- one that makes a second
  pub second_word : (p : Place) → p ∷ [] ≡ before → at_most_behind true (before ++ more) ≡ broken_at 48 p
  second_word p is = ap (λ (ps : List Place). at_most_behind true (ps ++ more)) (sym is)

-- Roots, one after the other.
use Rattle.std.proofs.Common.{◌≡◌, ℕ, suc, List, [], ◌∷◌, ◌++◌, Option, Some, None, refl, sym, ap, ◌∙◌}
use Rattle.sv_tree.specs.Descriptions.{Description}
use Rattle.sv_names.specs.Instances.{Walk, Walked, Pass, Definition, Inst, name_of, go_on, with_rest, walk, root_inst, roots_walk}
use Rattle.sv_names.specs.Named.{Around}
use Rattle.sv_elab_walk.specs.declared.instance.Walked as code_walked
use Rattle.sv_elab_walk.specs.Insts.{walked_in, all_walked}
use Rattle.sv_elab_walk.specs.Frames.{goes_on}
use Rattle.sv_elab_walk.proofs.RestLaws.{rest_before, all_left}
use Rattle.sv_elab_walk.proofs.FrameLaws.{walked_last}

-- before all
pub roots_begin : (n : ℕ) (a : Walk) → goes_on [] n a ≡ a n
unfolding goes_on
roots_begin n a = refl

module _ (us : List Description) (files : Around) (k : ℕ) where
  -- a root that is walked, and others behind it
  root_then : (ws vs : List Walked) (n : ℕ) (left : Option ℕ) (u : Definition) (rest : List Definition) (i : Inst)
      → i ≡ root_inst us files u → (vs, left) ≡ goes_on ws n (walk us files k i)
      → go_on (vs, left) (roots_walk us files k rest) ≡ goes_on ws (suc n) (roots_walk us files k (u ∷ rest))
  unfolding goes_on
  root_then ws vs n left u rest i made is =
      ap (λ p. go_on p (roots_walk us files k rest)) is
      ∙ ap (λ (i : Inst). go_on (with_rest ws (walk us files k i n)) (roots_walk us files k rest)) made
      ∙ rest_before ws (walk us files k (root_inst us files u) n) (roots_walk us files k rest)

  pub root_walked : (ws vs : List Walked) (n m : ℕ) (left : Option ℕ) (u : Definition) (rest : List Definition) (i : Inst)
      → i ≡ root_inst us files u → (vs, left) ≡ goes_on ws n (walk us files k i) → left ≡ Some m
      → goes_on vs m (roots_walk us files k rest) ≡ goes_on ws (suc n) (roots_walk us files k (u ∷ rest))
  unfolding goes_on
  root_walked ws vs n m left u rest i made is more =
      sym (ap (λ (l : Option ℕ). go_on (vs, l) (roots_walk us files k rest)) more) ∙ root_then ws vs n left u rest i made is

  -- the walk has ended in a root
  pub root_ended : (ws vs : List Walked) (n : ℕ) (left : Option ℕ) (u : Definition) (rest : List Definition) (i : Inst)
      → i ≡ root_inst us files u → (vs, left) ≡ goes_on ws n (walk us files k i) → left ≡ None
      → (vs, None) ≡ goes_on ws (suc n) (roots_walk us files k (u ∷ rest))
  root_ended ws vs n left u rest i made is none =
      sym (ap (λ (l : Option ℕ). go_on (vs, l) (roots_walk us files k rest)) none) ∙ root_then ws vs n left u rest i made is

  -- a root that passes the limit
  pub root_passes : (ws vs : List code_walked.Walked) (w : code_walked.Walked) (u : Definition) (rest : List Definition)
      → vs ≡ ws ++ w ∷ [] → walked_in w ≡ Pass (name_of u).at
      → (all_walked vs, None) ≡ goes_on (all_walked ws) 0 (roots_walk us files k (u ∷ rest))
  unfolding goes_on
  root_passes ws vs w u rest pushed met =
      ap (λ (vs : List Walked). (vs, None))
      (ap all_walked pushed ∙ walked_last ws w ∙ ap (λ (y : Walked). all_walked ws ++ y ∷ []) met)

  -- after all
  pub roots_end : (ws : List Walked) (n : ℕ) → (ws, Some n) ≡ goes_on ws n (roots_walk us files k [])
  roots_end ws n = all_left ws n

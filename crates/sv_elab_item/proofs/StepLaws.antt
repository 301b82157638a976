-- Steps of the walk, in the instances where they stand.
use Rattle.std.proofs.Common.{◌≡◌, Option, Some, None, refl, sym, ap, subst}
use Rattle.sv_tree.specs.Descriptions.{Description}
use Rattle.std.proofs.Common.{List}
use Rattle.sv_names.specs.Instances.{Inst, Walked, Enter, Meet, Connect, Pass}
use Rattle.sv_names.specs.Items.{around_inst, walked_parts}
use Rattle.sv_names.specs.Named.{Around}
use Rattle.sv_elab_plain.specs.Steps.{inst_of, step_given}

-- an instance that is there, or another one
abbrev inst_or : Inst → Option Inst → Inst
inst_or i None = i
inst_or i (Some j) = j

-- whether there is nothing
abbrev IsNothing : Option Inst → Type 0
IsNothing None = Unit {0}
IsNothing (Some i) = ⊥

module _ (us : List Description) (ar : Around) where
  -- a step in an instance
  pub step_in : (w : Walked) (i : Inst) → inst_of w ≡ Some i → step_given us (around_inst us ar i) w ≡ walked_parts us ar w
  step_in (Enter j) i is = ap (λ k. step_given us (around_inst us ar k) (Enter j)) (sym (ap (inst_or i) is))
  step_in (Meet j b x) i is = ap (λ k. step_given us (around_inst us ar k) (Meet j b x)) (sym (ap (inst_or i) is))
  step_in (Connect j c cs) i is = ap (λ k. step_given us (around_inst us ar k) (Connect j c cs)) (sym (ap (inst_or i) is))
  step_in (Pass at) i is = absurd (subst IsNothing is tt)

  -- a step in none
  pub step_out : (w : Walked) → inst_of w ≡ None → step_given us ar w ≡ walked_parts us ar w
  step_out (Enter j) is = absurd (subst IsNothing (sym is) tt)
  step_out (Meet j b x) is = absurd (subst IsNothing (sym is) tt)
  step_out (Connect j c cs) is = absurd (subst IsNothing (sym is) tt)
  step_out (Pass at) is = refl

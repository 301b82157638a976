-- Hidden variables of labels.
use Rattle.std.proofs.Common.{◌≡◌, ℕ, ◌+◌, List, [], ◌∷◌, length, refl, ap}
use Rattle.sv_names.specs.Cases.{Placed, hidden_of_labels}
use Rattle.sv_names.specs.Targets.{hidden_of_spots}

-- how many hidden variables they take
pub same_hidden : (ps : List Placed) → hidden_of_spots ps ≡ hidden_of_labels ps
same_hidden [] = refl
same_hidden (p ∷ ps) = ap (λ (n : ℕ). length p.1.code.hidden + n) (same_hidden ps)

-- Samples, one behind the other.
use Rattle.std.proofs.Common.{◌≡◌, ◌∙◌, List, ◌∷◌, ◌++◌, refl, ap, append_assoc}
use Rattle.sv_flat.specs.declared.object.Object.{Object}
use Rattle.sv_names.specs.declared.checked.Checked.{Checked}
use Rattle.sv_names.specs.declared.checked.Checked.TheVariants.{Good, Broken}
use Rattle.sv_names.specs.declared.checked.Fault.{Fault}
use Rattle.sv_names.specs.declared.named.SignalInfo.{SignalInfo}
use Rattle.sv_names.specs.Clockings.{sample_of, sample_objects}
use Rattle.sv_names.specs.Named.{Around}

-- a turn appends the sample of a signal
pub one_more : (ar : Around) (s : SignalInfo) (ss : List (Checked SignalInfo)) (xs ys : List Object)
    → ys ≡ xs ++ sample_of ar s → ys ++ sample_objects ar ss ≡ xs ++ sample_objects ar (Good s ∷ ss)
one_more ar s ss xs ys added = ap (λ l. l ++ sample_objects ar ss) added ∙ append_assoc xs (sample_of ar s) (sample_objects ar ss)

-- a signal that breaks a rule has none
pub one_broken : (ar : Around) (f : Fault) (ss : List (Checked SignalInfo)) → sample_objects ar (Broken f ∷ ss) ≡ sample_objects ar ss
one_broken ar f ss = refl

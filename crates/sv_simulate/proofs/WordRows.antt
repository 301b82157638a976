-- What some command lines ask for.
use Rattle.std.proofs.Common.{◌≡◌, [], ◌∷◌, Some, None, refl}
use Rattle.std.specs.Prelude.{codes}
use Rattle.sv_simulate.specs.Said.{limits, name_of}
use Rattle.sv_words.specs.Words.{asked, choice_list, number_within}

-- `run a.sv b.sv --steps 1099511627776`
two_files : asked limits (codes "run" ∷ codes "a.sv" ∷ codes "b.sv" ∷ codes "--steps" ∷ codes "1099511627776" ∷ [])
    ≡ Some (record { files = codes "a.sv" ∷ codes "b.sv" ∷ []; top = None; active = []; steps = 1099511627776 })
unfolding choice_list number_within
two_files = refl

-- `run a.sv b.sv`
no_number : asked limits (codes "run" ∷ codes "a.sv" ∷ codes "b.sv" ∷ [])
    ≡ Some (record { files = codes "a.sv" ∷ codes "b.sv" ∷ []; top = None; active = []; steps = 10000000 })
unfolding choice_list
no_number = refl

-- `run a.sv --steps 1099511627777`
too_many_steps : asked limits (codes "run" ∷ codes "a.sv" ∷ codes "--steps" ∷ codes "1099511627777" ∷ []) ≡ None
unfolding choice_list number_within
too_many_steps = refl

-- `run --top t`
no_file : asked limits (codes "run" ∷ codes "--top" ∷ codes "t" ∷ []) ≡ None
no_file = refl

-- the file with the number 1 is the second
second : name_of (codes "a.sv" ∷ codes "b.sv" ∷ []) 1 ≡ codes "b.sv"
second = refl

-- What is met on the walk, in the instances where it stands.
use Rattle.std.proofs.Common.{◌≡◌, ◌∙◌, List, [], ◌∷◌, ◌++◌, Option, Some, None, map, refl, sym, ap, subst, append_assoc}
use Rattle.std.specs.Prelude.{Result, Ok, Err, IfOk}
use Rattle.std.proofs.lemmas.List.{map_push}
use Rattle.sv_value.specs.declared.error.NoMemory.{NoMemory}
use Rattle.sv_tree.specs.Descriptions.{Description}
use Rattle.sv_names.specs.Instances.{Inst, Walked, Enter, Meet, Connect, Pass}
use Rattle.sv_names.specs.Named.{Around}
use Rattle.sv_names.specs.Sources as sources
use Rattle.sv_names.specs.Sources.{met}
use Rattle.sv_elab_walk.specs.declared.instance.Walked.{Walked as walk}
use Rattle.sv_elab_walk.specs.Insts.{walked_in}
use Rattle.sv_elab_writers.specs.declared.touch.Met.{Met}
use Rattle.sv_elab_writers.specs.Views.{met_in}
use Rattle.sv_elab_plain.specs.Steps.{inst_of}

-- an instance that is there, or another one
abbrev inst_or : Inst → Option Inst → Inst
inst_or i None = i
inst_or i (Some j) = j

-- whether there is nothing
abbrev IsNothing : Option Inst → Type 0
IsNothing None = Unit {0}
IsNothing (Some i) = ⊥

-- a step in an instance is met as this is seen there
pub step_met : (at_inst : Inst → Around) (w : Walked) (i : Inst) → inst_of w ≡ Some i → met (λ j. at_inst i) w ≡ met at_inst w
step_met at_inst (Enter j) i is = refl
step_met at_inst (Meet j b x) i is = ap (λ k. met (λ l. at_inst k) (Meet j b x)) (sym (ap (inst_or i) is))
step_met at_inst (Connect j c cs) i is = ap (λ k. met (λ l. at_inst k) (Connect j c cs)) (sym (ap (inst_or i) is))
step_met at_inst (Pass at) i is = absurd (subst IsNothing is tt)

-- what is met is also met in other words, over all descriptions
pub met_also : (r : Result Met NoMemory) (a : sources.Met) (b : List Description → sources.Met) → ((us : List Description) → a ≡ b us)
    → IfOk r (λ m. met_in m ≡ a) → IfOk r (λ m. (us : List Description) → met_in m ≡ b us)
met_also (Ok m) a b is this = λ us. this ∙ is us
met_also (Err e) a b is this = this

-- what is met in a turn is what the rest begins with
pub turn_met : (at_inst : Inst → Around) (es fs : List Met) (m : Met) (w : walk) (ws : List walk) → fs ≡ es ++ m ∷ [] → met_in m ≡ met at_inst (walked_in w)
    → map met_in fs ++ map (met at_inst) (map walked_in ws) ≡ map met_in es ++ map (met at_inst) (map walked_in (w ∷ ws))
turn_met at_inst es fs m w ws more is =
    let rest : List sources.Met = map (met at_inst) (map walked_in ws) in
    ap (λ (l : List Met). map met_in l ++ rest) more
    ∙ ap (λ (l : List sources.Met). l ++ rest) (map_push met_in es m)
    ∙ append_assoc (map met_in es) (met_in m ∷ []) rest
    ∙ ap (λ (x : sources.Met). map met_in es ++ x ∷ rest) is

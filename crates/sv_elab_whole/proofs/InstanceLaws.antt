-- The classes of units in the order of the walk.
use Rattle.std.proofs.Common.{◌≡◌, List, [], ◌∷◌, ◌++◌, refl, ap, ◌∙◌, append_assoc}
use Rattle.sv_names.specs.declared.around.ClassInfo.{ClassInfo}
use Rattle.sv_names.specs.Design.{class_infos}
use Rattle.sv_names.specs.Groups.{Group}
use Rattle.sv_names.specs.Instances.{Inst, Walked, Enter}

-- the classes of the units alone
abbrev pub unit_classes : Group → List Walked → List ClassInfo
unit_classes g ws = class_infos (record g { classes = [] }) ws

-- behind those of the files
pub of_files : (g : Group) (ws : List Walked) → g.classes ++ unit_classes g ws ≡ class_infos g ws
of_files g ws = refl

-- a unit
pub turn_unit : (g : Group) (ks ks' : List ClassInfo) (i : Inst) (ws : List Walked) → ks' ≡ ks ++ i.group.classes
    → ks' ++ unit_classes g ws ≡ ks ++ unit_classes g (Enter i ∷ ws)
turn_unit g ks ks' i ws is = ap (λ (l : List ClassInfo). l ++ unit_classes g ws) is ∙ append_assoc ks i.group.classes (unit_classes g ws)

-- Units, one description after another.
use Rattle.std.proofs.Common.{◌≡◌, List, ◌∷◌, Option, Some, None, refl, sym, ap, ◌∙◌}
use Rattle.sv_tree.specs.Descriptions as tree
use Rattle.sv_names.specs.Instances.{Definition, definitions}
use Rattle.sv_elab_unit.specs.Definitions.{definition_of}

-- a unit, where there is one, before others
abbrev pub before : Option Definition → List Definition → List Definition
before None us = us
before (Some u) us = u ∷ us

definitions_is : (d : tree.Description) (us : List tree.Description) → definitions (d ∷ us) ≡ before (definition_of d) (definitions us)
definitions_is (tree.Module e) us = refl
definitions_is (tree.Program e) us = refl
definitions_is (tree.Item i) us = refl

-- what is no unit is passed over
pub without : (d : tree.Description) (us : List tree.Description) → None ≡ definition_of d → definitions (d ∷ us) ≡ definitions us
without d us is = definitions_is d us ∙ ap (λ (o : Option Definition). before o (definitions us)) (sym is)

-- a unit stands first
pub with_first : (d : tree.Description) (u : Definition) (us : List tree.Description) → Some u ≡ definition_of d
    → definitions (d ∷ us) ≡ u ∷ definitions us
with_first d u us is = definitions_is d us ∙ ap (λ (o : Option Definition). before o (definitions us)) (sym is)

-- A method against that of a base, part by part.
use Rattle.std.proofs.Common.{◌≡◌, Bool, true, false, not, ◌&&◌, List, ◌∷◌, refl, ap, ◌∙◌}
use Rattle.sv_tree.specs.declared.word.Name.{Name}
use Rattle.sv_names.specs.declared.checked.Checked.{Checked}
use Rattle.sv_names.specs.declared.checked.Checked.TheVariants.{Good, Broken}
use Rattle.sv_names.specs.declared.named.Callee.{Callee}
use Rattle.sv_names.specs.declared.named.Formal.{Formal}
use Rattle.sv_names.specs.declared.ty.Ty.{Ty}
use Rattle.sv_names.specs.Checked.{both, given, ◌▷◌, rule}
use Rattle.sv_names.specs.Classes.{same_direction, same_formals, overrides}
use Rattle.sv_names.specs.Types.{same_type, same_flag}
use Rattle.sv_elab_class.specs.Rules.{types_agree, all_agree, agreed}

parts-agree : (b : Bool) (x y : Checked Ty) (z : Checked Bool)
    → all_agree b (types_agree x y) z ≡ given (λ p. b && same_type p.0.0 p.0.1 && p.1) (both (both x y) z)
parts-agree b (Good t) (Good u) (Good c) = refl
parts-agree b (Good t) (Good u) (Broken h) = refl
parts-agree b (Good t) (Broken g) (Good c) = refl
parts-agree b (Good t) (Broken g) (Broken h) = refl
parts-agree b (Broken f) (Good u) (Good c) = refl
parts-agree b (Broken f) (Good u) (Broken h) = refl
parts-agree b (Broken f) (Broken g) (Good c) = refl
parts-agree b (Broken f) (Broken g) (Broken h) = refl

-- an argument, and those behind it
pub formals_step : (f g : Formal) (fs gs : List Formal)
    → all_agree (same_direction f.direction g.direction) (types_agree f.ty g.ty) (same_formals fs gs) ≡ same_formals (f ∷ fs) (g ∷ gs)
formals_step f g fs gs = parts-agree (same_direction f.direction g.direction) f.ty g.ty (same_formals fs gs)

grouped : (a b c d : Bool) → ((a && b) && c && d) ≡ (a && b && c && d)
grouped true b c d = refl
grouped false b c d = refl

rule-agrees : (n : Name) (a b : Bool) (x y : Checked Ty) (z : Checked Bool)
    → agreed n.at (all_agree (a && b) (types_agree x y) z)
    ≡ (both (both x y) z ▷ (λ p. rule 34 n.at (not (a && b && same_type p.0.0 p.0.1 && p.1))))
rule-agrees n a b (Good t) (Good u) (Good c) = ap (λ v. rule 34 n.at (not v)) (grouped a b (same_type t u) c)
rule-agrees n a b (Good t) (Good u) (Broken h) = refl
rule-agrees n a b (Good t) (Broken g) (Good c) = refl
rule-agrees n a b (Good t) (Broken g) (Broken h) = refl
rule-agrees n a b (Broken f) (Good u) (Good c) = refl
rule-agrees n a b (Broken f) (Good u) (Broken h) = refl
rule-agrees n a b (Broken f) (Broken g) (Good c) = refl
rule-agrees n a b (Broken f) (Broken g) (Broken h) = refl

-- a method against a virtual one
pub overrides_is : (n : Name) (c d : Callee)
    → agreed n.at (all_agree (same_flag c.is_task d.is_task && same_flag c.is_static d.is_static) (types_agree c.result d.result) (same_formals c.formals d.formals))
    ≡ overrides n c d
overrides_is n c d = rule-agrees n (same_flag c.is_task d.is_task) (same_flag c.is_static d.is_static) c.result d.result (same_formals c.formals d.formals)

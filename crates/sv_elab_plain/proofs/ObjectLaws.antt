-- Objects, one after another.
use Rattle.std.proofs.Common.{◌≡◌, List, ◌++◌, ap, ◌∙◌, append_assoc}
use Rattle.sv_flat.specs.declared.object.Object.{Object}

-- further objects
pub objects_behind : (a b c xs ys : List Object) → b ≡ a ++ xs → c ≡ b ++ ys → c ≡ a ++ (xs ++ ys)
objects_behind a b c xs ys first next = next ∙ ap (λ l. l ++ ys) first ∙ append_assoc a xs ys

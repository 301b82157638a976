-- Classes that are appended one after another.
use Rattle.std.proofs.Common.{◌≡◌, List, [], ◌∷◌, ◌++◌, map, ap, sym, ◌∙◌, append_assoc, append-nil, Bor}
use Rattle.std.proofs.lemmas.List.{map-append}
use Rattle.sv_names.specs.declared.around.ClassInfo.{ClassInfo}

-- a turn appends the first of the rest
pub turn_class : (ks : List (Bor ClassInfo)) (k : Bor ClassInfo) (cs : List ClassInfo)
    → map (λ (b : Bor ClassInfo). b.now) (ks ++ k ∷ []) ++ cs ≡ map (λ (b : Bor ClassInfo). b.now) ks ++ (k.now ∷ cs)
turn_class ks k cs =
    ap (λ (l : List ClassInfo). l ++ cs) (map-append (λ (b : Bor ClassInfo). b.now) ks (k ∷ []))
    ∙ append_assoc (map (λ (b : Bor ClassInfo). b.now) ks) (k.now ∷ []) cs

-- the last turn has appended all
pub all_classes : (xs ys : List ClassInfo) → xs ++ [] ≡ ys → xs ≡ ys
all_classes xs ys is = sym (append-nil xs) ∙ is

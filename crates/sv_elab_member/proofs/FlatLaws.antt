-- The properties and methods of a class, one after another.
use Rattle.std.proofs.Common.{rules, arith, ◌≡◌, ◌∙◌, ℕ, zero, suc, ◌+◌, ◌-◌, ◌^◌, ◌≢◌, min, List, [], ◌∷◌, ◌++◌, length, drop, get_or, ◌<◌, ◌≤◌, Option, Some, None, refl, sym, ap, append_assoc, append-nil, add-one}
use Rattle.std.specs.Prelude.{replicate, flat_map}
use Rattle.std.proofs.lemmas.List.{drop_more, drop_all}
use Rattle.sv_flat.specs.declared.object.Declared.{Declared}
use Rattle.sv_tree.specs.declared.word.Name.{Name}
use Rattle.sv_names.specs.declared.around.ClassInfo.{ClassInfo}
use Rattle.sv_names.specs.declared.checked.Checked.{Checked}
use Rattle.sv_names.specs.declared.checked.Checked.TheVariants.{Good, Broken}
use Rattle.sv_names.specs.declared.named.Callee.{Callee}
use Rattle.sv_names.specs.declared.named.Kind.{Kind}
use Rattle.sv_names.specs.declared.named.Known.{Known}
use Rattle.sv_names.specs.declared.named.Named.{Named}
use Rattle.sv_names.specs.declared.named.Named.TheVariants.{Property}
use Rattle.sv_names.specs.declared.named.Protection.{Protection}
use Rattle.sv_names.specs.declared.ty.Ty.{Ty}
use Rattle.sv_names.specs.Classes.{property_entry, method_number}
use Rattle.sv_names.specs.Named.{Around, line_of, method_in}
use Rattle.sv_names.specs.Types.{Path}
use Rattle.sv_elab_member.specs.Flat.{property_variables, number_of}

-- ---- copies of one variable

-- none
pub copies_none : {A : Type 0} (xs : List A) (x : A) → xs ≡ xs ++ replicate 0 x
copies_none xs x = sym (append-nil xs)

-- one more
replicate_last : {A : Type 0} (n : ℕ) (x : A) → replicate n x ++ x ∷ [] ≡ replicate (suc n) x
replicate_last zero x = refl
replicate_last (suc n) x = ap (λ xs. x ∷ xs) (replicate_last n x)

pub copies_more : {A : Type 0} (xs ys zs : List A) (n : ℕ) (x : A) → ys ≡ xs ++ replicate n x → zs ≡ ys ++ x ∷ [] → zs ≡ xs ++ replicate (n + 1) x
copies_more xs ys zs n x a b =
    b ∙ ap (λ l. l ++ x ∷ []) a ∙ append_assoc xs (replicate n x) (x ∷ [])
    ∙ ap (λ l. xs ++ l) (replicate_last n x ∙ sym (ap (λ k. replicate k x) (add-one n)))

-- a size that is told from others
pub size_told : (n size : ℕ) → n ≡ min size (2 ^ 32 - 1) → n ≢ 2 ^ 32 - 1 → n ≡ size
size_told n size is ne = omega arith

-- ---- properties

-- what is no property has no variables
pub no_variables : (ar : Around) (v : Checked Named) (vs : List Declared)
    → ((k : Path) (g : Protection) (n : Name) (t : Ty) → v ≡ Good (Property k g n t) → ⊥) → vs ≡ vs ++ property_variables ar v
no_variables ar (Good (Property k g n t)) vs other = absurd (other k g n t refl)
no_variables ar (Good m) vs other = sym (append-nil vs)
no_variables ar (Broken f) vs other = sym (append-nil vs)

-- by its value
entry_by : (ar : Around) (n : Name) (k : Kind) (v : Checked Named)
    → property_variables ar v ≡ property_entry ar (record { name = n; kind = k; value = v })
entry_by ar n k (Good (Property c g x t)) = refl
entry_by ar n k (Good m) = refl
entry_by ar n k (Broken f) = refl

-- one declaration further
pub entry_next : (ar : Around) (xs : List Known) (i : ℕ) (x : Known) (vs next whole : List Declared) → i < length xs → get_or xs i x ≡ x
    → next ≡ vs ++ property_variables ar x.value → vs ++ flat_map (property_entry ar) (drop i xs) ≡ whole
    → next ++ flat_map (property_entry ar) (drop (i + 1) xs) ≡ whole
entry_next ar xs i x vs next whole within is made so_far =
    let rest = flat_map (property_entry ar) (drop (i + 1) xs) in
    ap (λ l. l ++ rest) (made ∙ ap (λ l. vs ++ l) (entry_by ar x.name x.kind x.value)) ∙ append_assoc vs (property_entry ar x) rest
    ∙ sym (ap (λ (ys : List Known). vs ++ flat_map (property_entry ar) ys) (drop_more xs i x within ∙ ap (λ y. y ∷ drop (i + 1) xs) is)) ∙ so_far

-- all of them
pub entries_all : (ar : Around) (xs : List Known) (i : ℕ) (vs whole : List Declared) → length xs ≤ i
    → vs ++ flat_map (property_entry ar) (drop i xs) ≡ whole → vs ≡ whole
entries_all ar xs i vs whole past so_far =
    sym (append-nil vs) ∙ sym (ap (λ (ys : List Known). vs ++ flat_map (property_entry ar) ys) (drop_all i xs past)) ∙ so_far

-- ---- methods

-- by the method of a name
number_by : (ar : Around) (k : ClassInfo) (x : List ℕ) (o : Option Callee) → method_in x (line_of ar.classes k.path) ≡ o
    → number_of ar o ≡ method_number ar k x
number_by ar k x None is = search rules
number_by ar k x (Some c) is = search rules

pub number_is : (ar : Around) (k : ClassInfo) (x : List ℕ) → number_of ar (method_in x (line_of ar.classes k.path)) ≡ method_number ar k x
number_is ar k x = number_by ar k x (method_in x (line_of ar.classes k.path)) refl

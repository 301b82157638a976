-- Declarations one after another.
use Rattle.std.proofs.Common.{◌≡◌, ◌∙◌, ℕ, ◌+◌, ◌<◌, ◌≤◌, List, [], ◌∷◌, length, drop, get_or, map, refl, sym, ap}
use Rattle.std.proofs.lemmas.List.{drop_all}
use Rattle.sv_tree.specs.declared.statement.Decl.{Decl}
use Rattle.sv_tree.specs.declared.statement.Declarator.{Declarator}
use Rattle.sv_tree.specs.declared.word.Life.{Life}
use Rattle.sv_tree.specs.StmtView as view
use Rattle.sv_names.specs.declared.checked.Checked.{Checked}
use Rattle.sv_names.specs.declared.checked.Checked.TheVariants.{Good}
use Rattle.sv_names.specs.Blocks.{declarator_code, declarators_code, decls_code, in_sequence}
use Rattle.sv_names.specs.Code.{Code, empty}
use Rattle.sv_names.specs.Named.{Around}
use Rattle.sv_elab_flow.proofs.Grouped.{in_sequence_grouped, none_last}
use Rattle.sv_elab_flow.proofs.Left.{first_left}

-- ---- parts in sequence

-- one part further
part_next : {A : Type 0} (f : A → Checked Code) (go : List A → Checked Code) → ((x : A) (xs : List A) → go (x ∷ xs) ≡ in_sequence (f x) (go xs))
    → (xs : List A) (i : ℕ) (x : A) (c whole : Checked Code) → i < length xs → get_or xs i x ≡ x
    → in_sequence c (go (drop i xs)) ≡ whole → in_sequence (in_sequence c (f x)) (go (drop (i + 1) xs)) ≡ whole
part_next f go step xs i x c whole within is so_far =
    in_sequence_grouped c (f x) (go (drop (i + 1) xs))
    ∙ ap (in_sequence c) (sym (ap go (first_left xs i x within is) ∙ step x (drop (i + 1) xs)))
    ∙ so_far

-- all parts
parts_all : {A : Type 0} (go : List A → Checked Code) → go [] ≡ Good empty → (xs : List A) (i : ℕ) (c whole : Checked Code) → length xs ≤ i
    → in_sequence c (go (drop i xs)) ≡ whole → c ≡ whole
parts_all go none xs i c whole past so_far = sym (none_last c) ∙ ap (in_sequence c) (sym (ap go (drop_all i xs past) ∙ none)) ∙ so_far

-- ---- the variables of a declaration

pub variable_next : (ar : Around) (l : Life) (xs : List Declarator) (i : ℕ) (x : Declarator) (c whole : Checked Code) → i < length xs
    → get_or xs i x ≡ x → in_sequence c (declarators_code ar l (map view.declarator (drop i xs))) ≡ whole
    → in_sequence (in_sequence c (declarator_code ar l (view.declarator x))) (declarators_code ar l (map view.declarator (drop (i + 1) xs))) ≡ whole
variable_next ar l =
    part_next (λ (x : Declarator). declarator_code ar l (view.declarator x))
    (λ (xs : List Declarator). declarators_code ar l (map view.declarator xs)) (λ x xs. refl)

pub variables_all : (ar : Around) (l : Life) (xs : List Declarator) (i : ℕ) (c whole : Checked Code) → length xs ≤ i
    → in_sequence c (declarators_code ar l (map view.declarator (drop i xs))) ≡ whole → c ≡ whole
variables_all ar l = parts_all (λ (xs : List Declarator). declarators_code ar l (map view.declarator xs)) refl

-- ---- declarations

pub decl_next : (ar : Around) (xs : List Decl) (i : ℕ) (x : Decl) (c whole : Checked Code) → i < length xs → get_or xs i x ≡ x
    → in_sequence c (decls_code ar (map view.decl (drop i xs))) ≡ whole
    → in_sequence (in_sequence c (declarators_code ar x.life (map view.declarator x.names.items))) (decls_code ar (map view.decl (drop (i + 1) xs))) ≡ whole
decl_next ar =
    part_next (λ (x : Decl). declarators_code ar x.life (map view.declarator x.names.items))
    (λ (xs : List Decl). decls_code ar (map view.decl xs)) (λ x xs. refl)

pub decls_all : (ar : Around) (xs : List Decl) (i : ℕ) (c whole : Checked Code) → length xs ≤ i
    → in_sequence c (decls_code ar (map view.decl (drop i xs))) ≡ whole → c ≡ whole
decls_all ar = parts_all (λ (xs : List Decl). decls_code ar (map view.decl xs)) refl

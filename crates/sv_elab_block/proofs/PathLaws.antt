-- The paths of the scopes of blocks and loops.
use Rattle.std.proofs.Common.{rules, ◌≡◌, ◌∙◌, ℕ, zero, suc, pred, ◌+◌, ◌-◌, ◌/◌, ◌%◌, Bool, List, [], ◌∷◌, ◌++◌, Option, Some, None, if◌then◌else◌, ◌==◌, refl, sym, ap, append-nil, append_assoc, add-one, sub-one, eq-eqb, ne_eqb}
use Rattle.sv_tree.specs.declared.word.Name.{Name}
use Rattle.sv_names.specs.declared.scope.Scope.{Scope}
use Rattle.sv_names.specs.Blocks.{own_path, inner_path}
use Rattle.sv_names.specs.Code.{digits, decimal}
use Rattle.sv_names.specs.Named.{Around}
use Rattle.sv_names.specs.Types.{Path}
use Rattle.sv_elab_block.specs.Paths.{nearest_path, last_name}

-- ---- digits

-- no digit
pub no_digit : (k n : ℕ) (old : List ℕ) → k ≡ 0 → old ≡ old ++ digits k n
no_digit k n old is = sym (append-nil old) ∙ ap (λ (m : ℕ). old ++ digits m n) (sym is)

-- the digits before the last one
abbrev higher : Bool → ℕ → ℕ → List ℕ
higher b j n = if b then [] else digits j (n / 10)

-- one digit at least
digits_more : (k n : ℕ) → (k ≡ 0 → ⊥) → digits k n ≡ higher (n / 10 == 0) (pred k) n ++ (48 + n % 10) ∷ []
digits_more zero n some = absurd (some refl)
digits_more (suc k) n some = refl

-- one digit alone
pub one_digit : (k n : ℕ) (old new : List ℕ) → (k ≡ 0 → ⊥) → n / 10 ≡ 0 → new ≡ old ++ (48 + n % 10) ∷ [] → new ≡ old ++ digits k n
one_digit k n old new some small pushed =
    pushed
    ∙ ap (λ (b : Bool). old ++ (higher b (pred k) n ++ (48 + n % 10) ∷ [])) (sym (eq-eqb (n / 10) 0 small))
    ∙ ap (λ (ds : List ℕ). old ++ ds) (sym (digits_more k n some))

-- a digit behind others
pub more_digits : (k n : ℕ) (old mid new : List ℕ) → (k ≡ 0 → ⊥) → (n / 10 ≡ 0 → ⊥) → mid ≡ old ++ digits (k - 1) (n / 10)
    → new ≡ mid ++ (48 + n % 10) ∷ [] → new ≡ old ++ digits k n
more_digits k n old mid new some large made pushed =
    pushed
    ∙ ap (λ (ds : List ℕ). ds ++ (48 + n % 10) ∷ []) (made ∙ ap (λ (j : ℕ). old ++ digits j (n / 10)) (sub-one k))
    ∙ append_assoc old (digits (pred k) (n / 10)) ((48 + n % 10) ∷ [])
    ∙ ap (λ (b : Bool). old ++ (higher b (pred k) n ++ (48 + n % 10) ∷ [])) (sym (ne_eqb (n / 10) 0 large))
    ∙ ap (λ (ds : List ℕ). old ++ ds) (sym (digits_more k n some))

-- the number of a scope
pub numbered : (n m : ℕ) (old new : List ℕ) → old ≡ [] → m ≡ n + 1 → new ≡ old ++ digits 8 m → new ≡ decimal (suc n)
numbered n m old new none is made = made ∙ (λ i. none i ++ digits 8 ((is ∙ add-one n) i))

-- ---- paths

-- the path of the nearest scope
own_by : (ar : Around) (ss : List Scope) → ar.scopes ≡ ss → own_path ar ≡ nearest_path ss
own_by ar [] is = search rules
own_by ar (s ∷ ss) is = search rules

-- the path of a scope
inner_by : (ar : Around) (n : Option Name) → own_path ar ++ last_name ar.blocks n ∷ [] ≡ inner_path ar n
inner_by ar None = refl
inner_by ar (Some n) = refl

-- the same behind that of the nearest scope
pub path_is : (ar : Around) (n : Option Name) (outer path : Path) (last : List ℕ) → outer ≡ nearest_path ar.scopes
    → last ≡ last_name ar.blocks n → path ≡ outer ++ last ∷ [] → path ≡ inner_path ar n
path_is ar n outer path last near is pushed =
    pushed ∙ (λ i. (near ∙ sym (own_by ar ar.scopes refl)) i ++ is i ∷ []) ∙ inner_by ar n

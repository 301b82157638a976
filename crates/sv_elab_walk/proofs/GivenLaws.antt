-- The values that connections give, one after another.
use Rattle.std.proofs.Common.{◌≡◌, ℕ, ◌+◌, List, [], ◌∷◌, ◌++◌, Option, Some, None, slice_get, refl, ap, ◌∙◌, append_assoc}
use Rattle.sv_tree.specs.Expr as tree_expr
use Rattle.sv_tree.specs.Units as tree
use Rattle.sv_names.specs.Instances.{Givens, givens_from, value_given}
use Rattle.sv_names.specs.Named.{Around}
use Rattle.sv_elab_declare.specs.declared.params.GivenValue.{GivenValue}
use Rattle.sv_elab_declare.specs.Given.{givens_in}
use Rattle.sv_elab_walk.specs.declared.givens.KeptValue.{KeptValue}
use Rattle.sv_elab_walk.specs.Givens.{kept_in}

-- one more value
pub kept_last : (ks : List KeptValue) (k : KeptValue) → kept_in (ks ++ k ∷ []) ≡ kept_in ks ++ kept_in (k ∷ [])
kept_last [] k = refl
kept_last (x ∷ ks) k = ap (λ (gs : Givens). kept_in (x ∷ []) ++ gs) (kept_last ks k)

-- a value by its place, where there is a parameter
abbrev value_found : Around → tree_expr.Expr → Option (List ℕ) → Givens → Givens
value_found ar e None gs = gs
value_found ar e (Some x) gs = (x, value_given ar e) ∷ gs

found_then : (ar : Around) (e : tree_expr.Expr) (o : Option (List ℕ)) (gs : Givens) → value_found ar e o [] ++ gs ≡ value_found ar e o gs
found_then ar e None gs = refl
found_then ar e (Some x) gs = refl

-- the value of one connection, and those of others behind it
value_first : (ar : Around) (ns : List (List ℕ)) (k : ℕ) (c : tree.Connection) (cs : List tree.Connection)
    → givens_from ar ns k (c ∷ []) ++ givens_from ar ns (k + 1) cs ≡ givens_from ar ns k (c ∷ cs)
value_first ar ns k (tree.Connection.Value e) cs = found_then ar e (slice_get ns k) (givens_from ar ns (k + 1) cs)
value_first ar ns k (tree.Named at n) cs = refl
value_first ar ns k (tree.Given at n None) cs = refl
value_first ar ns k (tree.Given at n (Some e)) cs = refl
value_first ar ns k (tree.All at) cs = refl

-- a turn appends the value of a connection
pub turn_given : (ar : Around) (ns : List (List ℕ)) (k j : ℕ) (c : tree.Connection) (cs : List tree.Connection) (ks ls : List KeptValue) (gs : Givens)
    → kept_in ls ≡ kept_in ks ++ gs → gs ≡ givens_from ar ns k (c ∷ []) → j ≡ k + 1
    → kept_in ls ++ givens_from ar ns j cs ≡ kept_in ks ++ givens_from ar ns k (c ∷ cs)
turn_given ar ns k j c cs ks ls gs pushed given next =
    (λ i. pushed i ++ givens_from ar ns (next i) cs)
    ∙ append_assoc (kept_in ks) gs (givens_from ar ns (k + 1) cs)
    ∙ ap (λ (xs : Givens). kept_in ks ++ (xs ++ givens_from ar ns (k + 1) cs)) given
    ∙ ap (λ (xs : Givens). kept_in ks ++ xs) (value_first ar ns k c cs)

givens_last : (gs : List GivenValue) (g : GivenValue) → givens_in (gs ++ g ∷ []) ≡ givens_in gs ++ givens_in (g ∷ [])
givens_last [] g = refl
givens_last (x ∷ gs) g = ap (λ (ys : Givens). givens_in (x ∷ []) ++ ys) (givens_last gs g)

-- a turn hands on a value that is kept
pub turn_kept : (gs hs : List GivenValue) (g : GivenValue) (k : KeptValue) (ks : List KeptValue) → hs ≡ gs ++ g ∷ []
    → givens_in (g ∷ []) ≡ kept_in (k ∷ []) → givens_in hs ++ kept_in ks ≡ givens_in gs ++ kept_in (k ∷ ks)
turn_kept gs hs g k ks pushed same =
    ap (λ (ys : List GivenValue). givens_in ys ++ kept_in ks) pushed
    ∙ ap (λ (ys : Givens). ys ++ kept_in ks) (givens_last gs g)
    ∙ append_assoc (givens_in gs) (givens_in (g ∷ [])) (kept_in ks)
    ∙ ap (λ (ys : Givens). givens_in gs ++ (ys ++ kept_in ks)) same

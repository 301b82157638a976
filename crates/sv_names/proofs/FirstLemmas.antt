-- Where one of a list stands first, as the list grows.
use Rattle.std.proofs.Common.{◌≡◌, ℕ, suc, Bool, true, false, cond, List, [], ◌∷◌, ◌++◌, length, Option, Some, None, option_map, is_some, refl, sym, ap, subst, ◌∙◌, true≢false}
use Rattle.sv_names.specs.Named.{nearest}
use Rattle.sv_names.specs.Index.{first_at}

-- the nearest of two, where one of them is known
module _ {A : Type 0} where
  pub chosen : (b : Bool) (v : A) (r s o : Option A) → r ≡ nearest s o → cond b (Some v) r ≡ nearest (cond b (Some v) s) o
  chosen true v r s o h = refl
  chosen false v r s o h = h

  pub nearest-none : (r : Option A) → nearest r None ≡ r
  nearest-none None = refl
  nearest-none (Some a) = refl

  pub nearest-some : (r o : Option A) → is_some r ≡ true → nearest r o ≡ r
  nearest-some None o there = absurd (true≢false (sym there))
  nearest-some (Some a) o there = refl

  pub none_of : (r : Option A) → is_some r ≡ false → r ≡ None
  none_of None e = refl
  none_of (Some a) e = absurd (true≢false e)

behind : (r : Option ℕ) (b : Bool) (n : ℕ) → option_map suc (nearest r (cond b (Some n) None)) ≡ nearest (option_map suc r) (cond b (Some (suc n)) None)
behind (Some i) b n = refl
behind None true n = refl
behind None false n = refl

module _ {K : Type 0} (same : K → K → Bool) where
  first_at-append : (x : K) (ns : List K) (n : K) → first_at same x (ns ++ n ∷ []) ≡ nearest (first_at same x ns) (cond (same x n) (Some (length ns)) None)
  first_at-append x [] n = refl
  first_at-append x (m ∷ ns) n =
      chosen (same x m) 0 _ _ _ (ap (option_map suc) (first_at-append x ns n) ∙ behind (first_at same x ns) (same x n) (length ns))

  module _ (exact : (x y : K) → (same x y ≡ true → x ≡ y) × (x ≡ y → same x y ≡ true)) (found : K → Option ℕ) (ns : List K) (n : K)
      (is : (x : K) → found x ≡ first_at same x ns) where
    -- one that is known changes nothing
    pub first-stays : is_some (found n) ≡ true → (x : K) → found x ≡ first_at same x (ns ++ n ∷ [])
    first-stays there x = is x ∙ sym (first_at-append x ns n ∙ by (same x n) refl)
      where
        by : (b : Bool) → same x n ≡ b → nearest (first_at same x ns) (cond b (Some (length ns)) None) ≡ first_at same x ns
        by false e = nearest-none (first_at same x ns)
        by true e = nearest-some (first_at same x ns) _ (subst (λ y. is_some (first_at same y ns) ≡ true) (sym ((exact x n).0 e)) (ap is_some (sym (is n)) ∙ there))

    -- a new one is found at its position
    pub first-added : (new : K → Option ℕ) (i : ℕ) → length ns ≡ i → is_some (found n) ≡ false
        → ((x : K) → new x ≡ cond (same n x) (Some i) (found x)) → (x : K) → new x ≡ first_at same x (ns ++ n ∷ [])
    first-added new i long absent updates x = updates x ∙ ap (cond (same n x) (Some i)) (is x) ∙ by (same n x) refl ∙ sym (first_at-append x ns n)
      where
        other : (b : Bool) → same n x ≡ false → same x n ≡ b → same x n ≡ false
        other false e f = f
        other true e f = absurd (true≢false (sym ((exact n x).1 (sym ((exact x n).0 f))) ∙ e))

        by : (b : Bool) → same n x ≡ b → cond b (Some i) (first_at same x ns) ≡ nearest (first_at same x ns) (cond (same x n) (Some (length ns)) None)
        by false e = sym (ap (λ b. nearest (first_at same x ns) (cond b (Some (length ns)) None)) (other (same x n) e refl) ∙ nearest-none (first_at same x ns))
        by true e =
            let one : n ≡ x = (exact n x).0 e in
            let none : first_at same x ns ≡ None = subst (λ y. first_at same y ns ≡ None) one (sym (is n) ∙ none_of _ absent) in
            ap Some (sym long) ∙ sym (λ j. nearest (none j) (cond ((exact x n).1 (sym one) j) (Some (length ns)) None))

-- An index of names grows with them, and finds what the definition finds; names stay where values change.
use Rattle.std.proofs.Common.{◌≡◌, ℕ, suc, zero, ◌*◌, ◌^◌, ◌<◌, ◌≤◌, Bool, true, false, cond, List, [], ◌∷◌, ◌++◌, length, slice_get, Option, Some, None, option_map, is_some, IfSome, Vec, Global, refl, sym, ap, subst, ◌∙◌, arith}
use Rattle.std.specs.Prelude.{get_or, ◌||◌}
use Rattle.std.proofs.Math.Nat.{mul-le-mul_right}
use Rattle.std.proofs.lemmas.List.{length-map}
use Rattle.std.proofs.lemmas.Option.{slice_get-get_or}
use Rattle.std.specs.Cmp.Lexicographic.{bytes_decides, nat_list_eq_equiv}
use Rattle.std.specs.BTreeMap.{BTreeMap, Updates}
use Rattle.sv_names.specs.declared.named.Named.{Named}
use Rattle.sv_names.specs.declared.named.Known.{Known}
use Rattle.sv_names.specs.declared.checked.Checked.{Checked}
use Rattle.sv_names.specs.declared.name_set.NameSet.{NameSet}
use Rattle.sv_names.specs.Types.{same_bytes}
use Rattle.sv_names.specs.Named.{further, local_size, Found, declared_in}
use Rattle.sv_names.specs.Index.{names_of, first_at, at_name, places_from, IsIndexOf, has_name, more_values, with_values}
use Rattle.sv_names.proofs.ByName.{by_bytes, updated}
use Rattle.sv_names.proofs.FirstLemmas.{first-stays, first-added}

module _ {A : Type 0} (index : BTreeMap (Vec ℕ A) ℕ) (ns : List (List ℕ)) (n : List ℕ) (is : IsIndexOf index ns) where
  -- a name that is known does not change it
  pub stays : is_some (at_name n index) ≡ true → IsIndexOf index (ns ++ n ∷ [])
  stays = first-stays same_bytes bytes_decides (λ x. at_name x index) ns n is

  -- a new one is found at its position
  pub grows : (new : BTreeMap (Vec ℕ A) ℕ) (k : Vec ℕ A) (i : ℕ) → k.items ≡ n → length ns ≡ i → is_some (at_name n index) ≡ false
      → Updates by_bytes index new k (Some i) → IsIndexOf new (ns ++ n ∷ [])
  grows new k i named long absent updates =
      first-added same_bytes bytes_decides (λ x. at_name x index) ns n is (λ x. at_name x new) i long absent (updated index new k n i named updates)

-- ---- sets

module _ (set : NameSet) (n : List ℕ) where
  -- a name that a set has does not change it
  pub set-stays : has_name set n ≡ true → (x : List ℕ) → has_name set x ≡ (same_bytes x n || has_name set x)
  set-stays there x = by (same_bytes x n) refl
    where
      by : (b : Bool) → same_bytes x n ≡ b → has_name set x ≡ (b || has_name set x)
      by false e = refl
      by true e = subst (λ y. has_name set y ≡ true) (sym ((bytes_decides x n).0 e)) there

  -- a new one is found, and each other as before
  pub set-grows : (new : NameSet) (k : Vec ℕ Global) (i : ℕ) → k.items ≡ n
      → Updates by_bytes set.names new.names k (Some i)
      → (x : List ℕ) → has_name new x ≡ (same_bytes x n || has_name set x)
  set-grows new k i named updates x =
      ap is_some (updated set.names new.names k n i named updates x) ∙ there (same_bytes n x) (at_name x set.names)
      ∙ ap (λ b. b || has_name set x) (nat_list_eq_equiv.symm n x)
    where
      there : (b : Bool) (r : Option ℕ) → is_some (cond b (Some i) r) ≡ (b || is_some r)
      there true r = refl
      there false r = refl

-- ---- look-up

-- each declaration has its place
pub length-places_from : (p : ℕ) (ks : List Known) → length (places_from p ks) ≡ length ks
length-places_from p [] = refl
length-places_from p (k ∷ ks) = ap suc (length-places_from (further p (local_size k.value)) ks)

-- the declaration at a position, with its place
abbrev located : ℕ → ℕ → List Known → List ℕ → Option Found
located up i [] ps = None
located up i (k ∷ ks) [] = None
located up zero (k ∷ ks) (p ∷ ps) = Some (record { up = up; place = p; known = k })
located up (suc i) (k ∷ ks) (p ∷ ps) = located up i ks ps

abbrev at : ℕ → List Known → List ℕ → Option ℕ → Option Found
at up ks ps None = None
at up ks ps (Some i) = located up i ks ps

at-suc : (up : ℕ) (k : Known) (ks : List Known) (p : ℕ) (ps : List ℕ) (r : Option ℕ) → at up (k ∷ ks) (p ∷ ps) (option_map suc r) ≡ at up ks ps r
at-suc up k ks p ps None = refl
at-suc up k ks p ps (Some i) = refl

declared-first : (up p : ℕ) (x : List ℕ) (ks : List Known) → declared_in up p x ks ≡ at up ks (places_from p ks) (first_at same_bytes x (names_of ks))
declared-first up p x [] = refl
declared-first up p x (k ∷ ks) = by (same_bytes x k.name.text) _ _ (declared-first up (further p (local_size k.value)) x ks)
  where
    by : (b : Bool) (d : Option Found) (r : Option ℕ) → d ≡ at up ks (places_from (further p (local_size k.value)) ks) r
        → cond b (Some (record { up = up; place = p; known = k })) d ≡ at up (k ∷ ks) (p ∷ places_from (further p (local_size k.value)) ks) (cond b (Some 0) (option_map suc r))
    by true d r h = refl
    by false d r h = h ∙ sym (at-suc up k ks p _ r)

located-get : (up i : ℕ) (ks : List Known) (ps : List ℕ) (k : Known) (p : ℕ) → slice_get ks i ≡ Some k → slice_get ps i ≡ Some p
    → located up i ks ps ≡ Some (record { up = up; place = p; known = k })
located-get up i [] ps k p e f = cc
located-get up i (c ∷ ks) [] k p e f = cc
located-get up zero (c ∷ ks) (q ∷ ps) k p e f = let g : c ≡ k = cc in let h : q ≡ p = cc in λ j. Some (record { up = up; place = h j; known = g j })
located-get up (suc i) (c ∷ ks) (q ∷ ps) k p e f = located-get up i ks ps k p e f

first-within : (x : List ℕ) (ns : List (List ℕ)) → IfSome (first_at same_bytes x ns) (λ i. i < length ns)
first-within x [] = tt
first-within x (n ∷ ns) = by (same_bytes x n) (first_at same_bytes x ns) (first-within x ns)
  where
    by : (b : Bool) (r : Option ℕ) → IfSome r (λ i. i < length ns) → IfSome (cond b (Some 0) (option_map suc r)) (λ i. i < suc (length ns))
    by true r h = omega arith
    by false None h = tt
    by false (Some i) h = omega (arith, h)

module _ {A : Type 0} (index : BTreeMap (Vec ℕ A) ℕ) (ks : List Known) (is : IsIndexOf index (names_of ks)) (x : List ℕ) where
  -- a name that is not known is not declared
  pub declared-none : (up : ℕ) → at_name x index ≡ None → declared_in up 0 x ks ≡ None
  declared-none up none = declared-first up 0 x ks ∙ ap (at up ks (places_from 0 ks)) (sym (is x) ∙ none)

  -- one that is known is declared within the list
  within : (i : ℕ) → at_name x index ≡ Some i → i < length ks
  within i some = subst (λ n. i < n) (length-map ks (λ k. k.name.text)) (subst (λ r. IfSome r (λ i. i < length (names_of ks))) (sym (is x) ∙ some) (first-within x (names_of ks)))

  pub declared-within : (i : ℕ) (items : List Known) → at_name x index ≡ Some i → items ≡ ks → i < length items
  declared-within i items some same = subst (λ l. i < length l) (sym same) (within i some)

  -- and so within the places
  pub placed-within : (i : ℕ) (ps : List ℕ) → at_name x index ≡ Some i → ps ≡ places_from 0 ks → i < length ps
  placed-within i ps some listed = subst (λ n. i < n) (sym (ap length listed ∙ length-places_from 0 ks)) (within i some)

  -- there, and at the place that is listed
  pub declared-some : (up i : ℕ) (k : Known) (ps : List ℕ) → at_name x index ≡ Some i → ps ≡ places_from 0 ks
      → get_or ks i k ≡ k → declared_in up 0 x ks ≡ Some (record { up = up; place = get_or ps i 0; known = k })
  declared-some up i k ps some listed read =
      let place : slice_get ps i ≡ Some (get_or ps i 0) = slice_get-get_or ps i 0 (placed-within i ps some listed) in
      let there : slice_get ks i ≡ Some k = slice_get-get_or ks i k (within i some) ∙ ap Some read in
      declared-first up 0 x ks ∙ ap (at up ks (places_from 0 ks)) (sym (is x) ∙ some)
      ∙ located-get up i ks (places_from 0 ks) k (get_or ps i 0) there (subst (λ l. slice_get l i ≡ Some (get_or ps i 0)) listed place)

-- what begins at an index within memory begins within memory
pub offset_within : (i l n : ℕ) → i < l → l * n < 2 ^ 63 → i * n < 2 ^ 64
offset_within i l n below small = let le : i * n ≤ l * n = mul-le-mul_right n (omega (arith, below)) in omega (arith, le, small)

-- ---- other values

-- the names stay
pub names_of-with_values : (ks : List Known) (vs : List (Option (Checked Named))) → names_of (with_values ks vs) ≡ names_of ks
names_of-with_values [] vs = refl
names_of-with_values (k ∷ ks) vs = ap (λ ns. k.name.text ∷ ns) (names_of-with_values ks (more_values vs))

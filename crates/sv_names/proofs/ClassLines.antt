-- A class and its bases, by going from one to the next.
use Rattle.std.proofs.Common.{◌≡◌, ℕ, suc, zero, ◌+◌, true, false, ◌||◌, List, [], ◌∷◌, ◌++◌, length, Option, Some, None, is_some, refl, sym, ap, ◌∙◌, add-one, append_assoc, true≢false}
use Rattle.sv_names.specs.declared.around.ClassInfo.{ClassInfo}
use Rattle.sv_names.specs.declared.checked.Fault.{Fault}
use Rattle.sv_names.specs.Types.{Path, same_path}
use Rattle.sv_names.specs.Named.{class_in, and_bases, line_from, line_of, how_many, in_line, is_derived, broken_end, nearest}
use Rattle.sv_names.specs.Lines.{at_path, base_in, up_from}

-- the bases of a class that is found
based : (n : ℕ) (ks : List ClassInfo) → ((p : Option Path) → line_from n ks p ≡ up_from n ks (at_path ks p)) → (k : Option ClassInfo)
    → and_bases (λ b. line_from n ks b) k ≡ up_from (suc n) ks k
based n ks is None = refl
based n ks is (Some k) = ap (λ more. k ∷ more) (is k.base)

line_from_is : (n : ℕ) (ks : List ClassInfo) (p : Option Path) → line_from n ks p ≡ up_from n ks (at_path ks p)
line_from_is zero ks p = refl
line_from_is (suc n) ks None = refl
line_from_is (suc n) ks (Some p) = based n ks (λ q. line_from_is n ks q) (class_in ks p)

how_many_is : (ks : List ClassInfo) → how_many ks ≡ length ks
how_many_is [] = refl
how_many_is (k ∷ ks) = ap suc (how_many_is ks)

-- the line of a class begins with it, and goes up as often as there are classes
pub line_is : (ks : List ClassInfo) (p : Path) → line_of ks p ≡ up_from (length ks) ks (class_in ks p)
line_is ks p = line_from_is (how_many ks) ks (Some p) ∙ ap (λ n. up_from n ks (class_in ks p)) (how_many_is ks)

-- behind no class there is none
pub up_none : (n : ℕ) (ks : List ClassInfo) → up_from n ks None ≡ []
up_none zero ks = refl
up_none (suc n) ks = refl

-- a class, and those that stand behind it
pub up_some : (n m : ℕ) (ks : List ClassInfo) (k : ClassInfo) → n ≡ m + 1 → up_from n ks (Some k) ≡ k ∷ up_from m ks (base_in ks k)
up_some n m ks k e = ap (λ i. up_from i ks (Some k)) (e ∙ add-one m)

-- ---- whether a class stands in its line

module _ (ks : List ClassInfo) (p q : Path) where
  pub derived_first : (n : ℕ) (k : Option ClassInfo) → n ≡ length ks → k ≡ class_in ks p → in_line q (up_from n ks k) ≡ is_derived ks p q
  derived_first n k e f =
      ap (λ i. in_line q (up_from i ks k)) e ∙ ap (λ j. in_line q (up_from (length ks) ks j)) f ∙ sym (ap (in_line q) (line_is ks p))

  pub derived_step : (n m : ℕ) (k : ClassInfo) → n ≡ m + 1 → same_path k.path q ≡ false
      → in_line q (up_from n ks (Some k)) ≡ in_line q (up_from m ks (base_in ks k))
  derived_step n m k e other = ap (in_line q) (up_some n m ks k e) ∙ ap (λ b. b || in_line q (up_from m ks (base_in ks k))) other

  pub derived_found : (n m : ℕ) (k : ClassInfo) → n ≡ m + 1 → same_path k.path q ≡ true → in_line q (up_from n ks (Some k)) ≡ true
  derived_found n m k e same = ap (in_line q) (up_some n m ks k e) ∙ ap (λ b. b || in_line q (up_from m ks (base_in ks k))) same

-- ---- the rule that the last base breaks

-- a rule that is broken goes before those behind it
nearest_some : (f : Option Fault) (rest : Option Fault) → is_some f ≡ true → nearest f rest ≡ f
nearest_some None rest there = absurd (true≢false (sym there))
nearest_some (Some f) rest there = refl

nearest_none : (f : Option Fault) (rest : Option Fault) → is_some f ≡ false → nearest f rest ≡ rest
nearest_none None rest there = refl
nearest_none (Some f) rest there = absurd (true≢false there)

module _ (ks : List ClassInfo) (p : Path) where
  pub end_first : (n : ℕ) (k : Option ClassInfo) → n ≡ length ks → k ≡ class_in ks p → broken_end (up_from n ks k) ≡ broken_end (line_of ks p)
  end_first n k e f =
      ap (λ i. broken_end (up_from i ks k)) e ∙ ap (λ j. broken_end (up_from (length ks) ks j)) f ∙ sym (ap broken_end (line_is ks p))

  pub end_step : (n m : ℕ) (k : ClassInfo) → n ≡ m + 1 → is_some k.base_fault ≡ false
      → broken_end (up_from n ks (Some k)) ≡ broken_end (up_from m ks (base_in ks k))
  end_step n m k e fine = ap broken_end (up_some n m ks k e) ∙ nearest_none k.base_fault _ fine

  pub end_found : (n m : ℕ) (k : ClassInfo) → n ≡ m + 1 → is_some k.base_fault ≡ true → broken_end (up_from n ks (Some k)) ≡ k.base_fault
  end_found n m k e broken = ap broken_end (up_some n m ks k e) ∙ nearest_some k.base_fault _ broken

  -- ---- the line itself

  pub line_first : (n : ℕ) (k : Option ClassInfo) → n ≡ length ks → k ≡ class_in ks p → up_from n ks k ≡ line_of ks p
  line_first n k e f = ap (λ i. up_from i ks k) e ∙ ap (λ j. up_from (length ks) ks j) f ∙ sym (line_is ks p)

-- one class more
pub line_step : (ks line : List ClassInfo) (n m : ℕ) (k : ClassInfo) → n ≡ m + 1
    → (line ++ k ∷ []) ++ up_from m ks (base_in ks k) ≡ line ++ up_from n ks (Some k)
line_step ks line n m k e = append_assoc line (k ∷ []) (up_from m ks (base_in ks k)) ∙ sym (ap (λ more. line ++ more) (up_some n m ks k e))

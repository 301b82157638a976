-- What is found along a line of classes, from one class to the next.
use Rattle.std.proofs.Common.{◌≡◌, ℕ, ◌-◌, ◌<◌, List, [], ◌∷◌, length, Option, Some, None, option_map, map, Bor, sym, ap, ◌∙◌, arith}
use Rattle.std.proofs.lemmas.List.{length-map}
use Rattle.sv_names.specs.declared.around.ClassInfo.{ClassInfo}
use Rattle.sv_names.specs.Types.{Path}
use Rattle.sv_names.specs.Named.{Found, class_in, line_of, declared_in, value_found, nearest, member_in}
use Rattle.sv_names.specs.Lines.{base_in, up_from}
use Rattle.sv_names.proofs.ClassLines.{line_is, up_none, up_some}

module _ {A : Type 0} (f : List ClassInfo → A) where
  -- a line begins with its class
  pub begun : (classes : List (Bor ClassInfo)) (p : Path) (k : Option ClassInfo) → k ≡ class_in (map (λ k. k.now) classes) p
      → f (up_from (length classes) (map (λ k. k.now) classes) k) ≡ f (line_of (map (λ k. k.now) classes) p)
  begun classes p k e =
      let ks : List ClassInfo = map (λ k. k.now) classes in
      ap f ((λ i. up_from (sym (length-map classes (λ k. k.now)) i) ks (e i)) ∙ sym (line_is ks p))

  -- it ends where there is no further class
  pub ended : (n : ℕ) (ks : List ClassInfo) (k : Option (Bor ClassInfo)) → k ≡ None → f [] ≡ f (up_from n ks (option_map (λ k. k.now) k))
  ended n ks k e = sym (ap f (ap (λ (b : Option (Bor ClassInfo)). up_from n ks (option_map (λ k. k.now) b)) e ∙ up_none n ks))

  -- or where no more may come
  pub out : (n : ℕ) (ks : List ClassInfo) (k : Option ClassInfo) → n ≡ 0 → f [] ≡ f (up_from n ks k)
  out n ks k e = sym (ap (λ i. f (up_from i ks k)) e)

  -- from a class to the one that it extends
  pub onward : (n : ℕ) (ks : List ClassInfo) (k : Option (Bor ClassInfo)) (c : Bor ClassInfo) (b : Option ClassInfo)
      → k ≡ Some c → 0 < n → b ≡ base_in ks c.now → f (c.now ∷ up_from (n - 1) ks b) ≡ f (up_from n ks (option_map (λ k. k.now) k))
  onward n ks k c b e some is =
      sym (ap f (ap (λ (b : Option (Bor ClassInfo)). up_from n ks (option_map (λ k. k.now) b)) e ∙ up_some n (n - 1) ks c.now (omega (arith, some))
      ∙ ap (λ d. c.now ∷ up_from (n - 1) ks d) (sym is)))

-- a member that the first class of a line has
pub member_here : (x : List ℕ) (k : ClassInfo) (ks : List ClassInfo) (f : Found) → Some f ≡ declared_in 0 0 x k.scope.known
    → Some (value_found f) ≡ member_in x (k ∷ ks)
member_here x k ks f e = ap (λ d. nearest (option_map value_found d) (member_in x ks)) e

-- one that it does not have
pub member_behind : (x : List ℕ) (k : ClassInfo) (ks : List ClassInfo) → None ≡ declared_in 0 0 x k.scope.known
    → member_in x ks ≡ member_in x (k ∷ ks)
member_behind x k ks e = ap (λ d. nearest (option_map value_found d) (member_in x ks)) e

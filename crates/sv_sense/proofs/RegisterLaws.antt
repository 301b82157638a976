-- Lists that grow, and processes that are put among the watchers of objects.
use Rattle.std.proofs.Common.{◌≡◌, ℕ, zero, suc, ◌≤◌, ◌<◌, Bool, true, false, List, [], ◌∷◌, refl, sym, ap, ◌∙◌, subst, arith, length}
use Rattle.std.specs.Prelude.{slice_index_or, slice_set, ◌==◌, ◌||◌}
use Rattle.std.proofs.lemmas.Bool.Decides.{nat_tests}
use Rattle.sv_value.specs.declared.number.ObjId.{ObjId}
use Rattle.sv_value.specs.declared.number.ProcessId.{ProcessId}
use Rattle.sv_flat.specs.Effects.{is_in}
use Rattle.sv_sense.specs.Objects.{is_among}
use Rattle.sv_sense.specs.Watchers.{Grows, Registered, RegisteredBut}

-- ---- lists that grow

pub grows_self : (ls : List (List ProcessId)) → Grows ls ls
grows_self ls = record { count = refl; kept = λ n d p h. h }

pub grows_both : (a b c : List (List ProcessId)) → Grows a b → Grows b c → Grows a c
grows_both a b c g h = record { count = h.count ∙ g.count; kept = λ n d p k. h.kept n d p (g.kept n d p k) }

pub length-set_at : {A : Type 0} (xs : List A) (i : ℕ) (x : A) → length (slice_set xs i x) ≡ length xs
length-set_at [] i x = refl
length-set_at (y ∷ xs) zero x = refl
length-set_at (y ∷ xs) (suc i) x = ap suc (length-set_at xs i x)

kept_set : (ls : List (List ProcessId)) (i : ℕ) (ps qs : List ProcessId) → slice_index_or ls i ps ≡ ps → ((p : ProcessId) → is_in p ps ≡ true → is_in p qs ≡ true)
    → (n : ℕ) (d : List ProcessId) (p : ProcessId) → is_in p (slice_index_or ls n d) ≡ true → is_in p (slice_index_or (slice_set ls i qs) n d) ≡ true
kept_set [] i ps qs e k n d p h = h
kept_set (l ∷ ls) zero ps qs e k zero d p h = k p (ap (is_in p) (sym e) ∙ h)
kept_set (l ∷ ls) zero ps qs e k (suc n) d p h = h
kept_set (l ∷ ls) (suc i) ps qs e k zero d p h = h
kept_set (l ∷ ls) (suc i) ps qs e k (suc n) d p h = kept_set ls i ps qs e k n d p h

-- one list has grown
pub grows_at : (ls us : List (List ProcessId)) (i : ℕ) (ps qs : List ProcessId) → us ≡ slice_set ls i qs → slice_index_or ls i ps ≡ ps
    → ((p : ProcessId) → is_in p ps ≡ true → is_in p qs ≡ true) → Grows ls us
grows_at ls us i ps qs new e k =
    subst (Grows ls) (sym new) (record { count = length-set_at ls i qs; kept = kept_set ls i ps qs e k })

pub index-set : (ls : List (List ProcessId)) (i : ℕ) (qs d : List ProcessId) → i < length ls → slice_index_or (slice_set ls i qs) i d ≡ qs
index-set [] i qs d h = absurd (omega arith)
index-set (l ∷ ls) zero qs d h = refl
index-set (l ∷ ls) (suc i) qs d h = index-set ls i qs d (omega arith)

pub index-beyond : (ls : List (List ProcessId)) (i : ℕ) (d : List ProcessId) → length ls ≤ i → slice_index_or ls i d ≡ d
index-beyond [] i d h = refl
index-beyond (l ∷ ls) zero d h = absurd (omega arith)
index-beyond (l ∷ ls) (suc i) d h = index-beyond ls i d (omega arith)

-- ---- objects one after another

same_object : (o one : ObjId) → (o.0 == one.0) ≡ true → one ≡ o
same_object o one h = (let e : one.0 ≡ o.0 = grind (arith, nat_tests) in λ i. record { 0 = e i })

-- none is left but these
pub registered_none : (p : ProcessId) (os : List ObjId) (ls : List (List ProcessId)) (all : List ProcessId) → RegisteredBut [] p os ls all → Registered p os ls all
registered_none p os ls all h = record { each = λ o m. h.each o m refl }

-- all are left
pub registered_first : (p : ProcessId) (os : List ObjId) (ls : List (List ProcessId)) (all : List ProcessId) → RegisteredBut os p os ls all
registered_first p os ls all = record { each = λ o m n. (let z : true ≡ false = sym m ∙ n in cc) }

-- one fewer is left
pub registered_more : (p : ProcessId) (os : List ObjId) (one : ObjId) (rest : List ObjId) (ls us : List (List ProcessId)) (all : List ProcessId)
    → RegisteredBut (one ∷ rest) p os ls all → Grows ls us → is_in p (slice_index_or us one.0 all) ≡ true → RegisteredBut rest p os us all
registered_more p os one rest ls us all h g now = record { each = λ o m n. by_test o m n (o.0 == one.0) refl }
  where
    by_test : (o : ObjId) → is_among o os ≡ true → is_among o rest ≡ false → (b : Bool) → (o.0 == one.0) ≡ b → is_in p (slice_index_or us o.0 all) ≡ true
    by_test o m n true e = subst (λ (o : ObjId). is_in p (slice_index_or us o.0 all) ≡ true) (same_object o one e) now
    by_test o m n false e = g.kept o.0 all p (h.each o m (ap (λ b. b || is_among o rest) e ∙ n))

-- who is registered stays so
pub registered_on : (p : ProcessId) (os : List ObjId) (ls us : List (List ProcessId)) (all : List ProcessId) → Grows ls us → Registered p os ls all → Registered p os us all
registered_on p os ls us all g h = record { each = λ o m. g.kept o.0 all p (h.each o m) }

-- What a scope of a side shows of the activations depends only on those that the side made.
use Rattle.std.proofs.Common.{ℕ, zero, suc, ◌≡◌, List, [], ◌∷◌, Option, None, Some, Bool, true, false, cond, refl, ap, subst, sym, ◌∙◌, map, filter, slice_get, arith}
use Rattle.std.specs.Prelude.{option_and_then, option_map, ◌==◌, ◌&&◌}
use Rattle.std.specs.List.{AllByRecursion}
use Rattle.std.proofs.lemmas.Bool.Decides.{nat_tests}
use Rattle.std.proofs.lemmas.Option.{slice_get-map}
use Rattle.sv_value.specs.declared.number.ProcessId.{ProcessId}
use Rattle.sv_value.specs.declared.val.Val.{Val}
use Rattle.sv_value.specs.declared.schedule.Range.{Range}
use Rattle.sv_value.specs.declared.schedule.Side.{Side}
use Rattle.sv_value.specs.Regions.{same_side}
use Rattle.sv_flat.specs.declared.design.Parts.{Parts}
use Rattle.sv_flat.specs.State.{Name, Activation, same_name, activation, activation_out}
use Rattle.sv_flat.specs.Process.{ProcessState}
use Rattle.sv_flat.specs.Config.{Config, side_of, side_in}
use Rattle.sv_flat.specs.Effects.Writes.{variable_over, changed_at, value_over}
use Rattle.sv_flat.specs.Laws.{SameReach, of_side}
use Rattle.sv_frame.proofs.Masks.{sides_same, same_self}

-- ---- sides by number

-- the side of each process
abbrev pub sides : List ProcessState → List Side
sides ps = map (λ q. q.side) ps

-- the outermost scope, or an activation that a process of the side made
abbrev pub IsScope : List Side → Side → Option Name → Type 0
IsScope ss s None = Unit {0}
IsScope ss s (Some n) = slice_get ss n.process.0 ≡ Some s

-- an activation of a process that there is stands in a scope of the same side
abbrev pub IsEnclosed : List Side → Activation → Type 0
IsEnclosed ss a = (s : Side) × (slice_get ss a.name.process.0 ≡ Some s) × IsScope ss s a.around

some_same : {A : Type 0} {a b : A} → Some a ≡ Some b → a ≡ b
some_same h = cc

pub side_listed : (ps : List ProcessState) (i : ℕ) (q : ProcessState) → slice_get ps i ≡ Some q → slice_get (sides ps) i ≡ Some q.side
side_listed ps i q h = slice_get-map (λ (q : ProcessState). q.side) ps i ∙ ap (option_map (λ (q : ProcessState). q.side)) h

listed_side : (ps : List ProcessState) (i : ℕ) (s : Side) → slice_get (sides ps) i ≡ Some s → side_in (slice_get ps i) ≡ s
listed_side ps i s h = by_state (slice_get ps i) (sym (slice_get-map (λ (q : ProcessState). q.side) ps i) ∙ h)
  where
    by_state : (o : Option ProcessState) → option_map (λ (q : ProcessState). q.side) o ≡ Some s → side_in o ≡ s
    by_state None k = absurd (cc)
    by_state (Some q) k = some_same k

-- ---- activations by name

pub same_process : (a : Activation) (n : Name) → same_name a.name n ≡ true → a.name.process ≡ n.process
same_process a n h =
    let first : (a.name.process.0 == n.process.0) ≡ true = left_true (a.name.process.0 == n.process.0) (a.name.place == n.place) h in
    let e : a.name.process.0 ≡ n.process.0 = grind (arith, nat_tests) in
    λ i. record { 0 = e i }
  where
    left_true : (x y : Bool) → (x && y) ≡ true → x ≡ true
    left_true true y h = refl
    left_true false y h = absurd (cc)

-- where a test holds of all with this name, the one with this name is found among those for which it holds
found_among : (t : Activation → Bool) (n : Name) → ((a : Activation) → same_name a.name n ≡ true → t a ≡ true) → (xs : List Activation) → activation xs n ≡ activation (filter t xs) n
found_among t n h [] = refl
found_among t n h (a ∷ xs) = by_test (t a) refl (found_among t n h xs)
  where
    among : Bool → List Activation
    among b = cond b (a ∷ filter t xs) (filter t xs)

    by_name : (x : Bool) → same_name a.name n ≡ x → t a ≡ false → activation xs n ≡ activation (filter t xs) n
        → cond (same_name a.name n) (Some a) (activation xs n) ≡ activation (filter t xs) n
    by_name true e f k = absurd (let z : true ≡ false = sym (h a e) ∙ f in cc)
    by_name false e f k = ap (λ b. cond b (Some a) (activation xs n)) e ∙ k

    by_test : (y : Bool) → t a ≡ y → activation xs n ≡ activation (filter t xs) n → activation (a ∷ xs) n ≡ activation (among (t a)) n
    by_test true f k = ap (λ (o : Option Activation). cond (same_name a.name n) (Some a) o) k ∙ sym (ap (λ b. activation (among b) n) f)
    by_test false f k = by_name (same_name a.name n) refl f k ∙ sym (ap (λ b. activation (among b) n) f)

-- a write to a variable, seen among the activations of which a test of their names holds
pub variable_masked : (t : Activation → Bool) (n : Name) (b : Bool) → ((a : Activation) → same_name a.name n ≡ true → t a ≡ b)
    → ((a : Activation) (vs : List Val) → t (record a { values = vs }) ≡ t a)
    → (i : ℕ) (r : Option Range) (x : Val) (xs : List Activation) → filter t (variable_over n i r x xs) ≡ cond b (variable_over n i r x (filter t xs)) (filter t xs)
variable_masked t n true h still i r x [] = refl
variable_masked t n false h still i r x [] = refl
variable_masked t n b h still i r x (a ∷ xs) = by_name (same_name a.name n) refl (variable_masked t n b h still i r x xs)
  where
    new : Activation
    new = record a { values = changed_at a.values i (λ v. value_over v r x) }

    rest : List Activation
    rest = filter t xs

    over : List Activation → List Activation
    over ys = variable_over n i r x ys

    among : Bool → List Activation
    among y = cond y (a ∷ rest) rest

    written : (y : Bool) → same_name a.name n ≡ true → cond y (over (among y)) (among y) ≡ cond y (new ∷ rest) rest
    written true e = ap (λ z. cond z (new ∷ rest) (a ∷ over rest)) e
    written false e = refl

    passed : (y z : Bool) → same_name a.name n ≡ false → (ys : List Activation) → ys ≡ cond z (over rest) rest → cond y (a ∷ ys) ys ≡ cond z (over (among y)) (among y)
    passed true true e ys k = ap (λ (l : List Activation). a ∷ l) k ∙ sym (ap (λ w. cond w (new ∷ rest) (a ∷ over rest)) e)
    passed true false e ys k = ap (λ (l : List Activation). a ∷ l) k
    passed false true e ys k = k
    passed false false e ys k = k

    by_name : (y : Bool) → same_name a.name n ≡ y → filter t (over xs) ≡ cond b (over rest) rest
        → filter t (cond (same_name a.name n) (new ∷ xs) (a ∷ over xs)) ≡ cond b (over (among (t a))) (among (t a))
    by_name true e k =
        ap (λ y. filter t (cond y (new ∷ xs) (a ∷ over xs))) e ∙ ap (λ y. cond y (new ∷ rest) rest) (still a new.values ∙ h a e) ∙ sym (written b e)
        ∙ sym (ap (λ y. cond b (over (among y)) (among y)) (h a e))
    by_name false e k = ap (λ y. filter t (cond y (new ∷ xs) (a ∷ over xs))) e ∙ passed (t a) b e (filter t (over xs)) k

-- what holds of all holds of the one that is found, which has the name
found_one : (P : Activation → Type 0) (xs : List Activation) (n : Name) (a : Activation) → AllByRecursion P xs → activation xs n ≡ Some a → P a × (same_name a.name n ≡ true)
found_one P [] n a h e = absurd (cc)
found_one P (x ∷ xs) n a h e = by_name (same_name x.name n) refl e (λ k. found_one P xs n a h.1 k)
  where
    by_name : (y : Bool) → same_name x.name n ≡ y → cond y (Some x) (activation xs n) ≡ Some a → (activation xs n ≡ Some a → P a × (same_name a.name n ≡ true))
        → P a × (same_name a.name n ≡ true)
    by_name true k f later = (subst P (some_same f) h.0, ap (λ (u : Activation). same_name u.name n) (sym (some_same f)) ∙ k)
    by_name false k f later = later f

-- ---- scopes

module _ (d : Parts) (s : Side) (c e : Config) (r : SameReach d s c e) (ss : List Side) (are : sides c.processes ≡ ss) (around : AllByRecursion (IsEnclosed ss) c.activations) where
  scope_side : (n : Name) → slice_get ss n.process.0 ≡ Some s → side_of c n.process ≡ s
  scope_side n h = listed_side c.processes n.process.0 s (ap (λ (xs : List Side). slice_get xs n.process.0) are ∙ h)

  first_of_side : (n : Name) → slice_get ss n.process.0 ≡ Some s → (a : Activation) → same_name a.name n ≡ true → of_side s c a ≡ true
  first_of_side n h a k = ap (λ p. same_side s (side_of c p)) (same_process a n k) ∙ ap (same_side s) (scope_side n h) ∙ same_self s

  second_of_side : (n : Name) → slice_get ss n.process.0 ≡ Some s → (a : Activation) → same_name a.name n ≡ true → of_side s e a ≡ true
  second_of_side n h a k = ap (same_side s) (sym (sides_same s c.processes e.processes r.processes a.name.process.0)) ∙ first_of_side n h a k

  -- the activation with a name of the side
  found_same : (n : Name) → slice_get ss n.process.0 ≡ Some s → activation c.activations n ≡ activation e.activations n
  found_same n h =
      found_among (of_side s c) n (first_of_side n h) c.activations ∙ ap (λ (xs : List Activation). activation xs n) r.activations
      ∙ sym (found_among (of_side s e) n (second_of_side n h) e.activations)

  -- and those further out
  pub out_same : (up : ℕ) (n : Option Name) → IsScope ss s n → activation_out c.activations up n ≡ activation_out e.activations up n
  out_same zero None h = refl
  out_same (suc up) None h = refl
  out_same zero (Some n) h = found_same n h
  out_same (suc up) (Some n) h =
      by_found (activation c.activations n) refl (λ m k. out_same up m k)
      ∙ ap (option_and_then (λ (a : Activation). activation_out e.activations up a.around)) (found_same n h)
    where
      by_found : (o : Option Activation) → activation c.activations n ≡ o → ((m : Option Name) → IsScope ss s m → activation_out c.activations up m ≡ activation_out e.activations up m)
          → option_and_then (λ a. activation_out c.activations up a.around) o ≡ option_and_then (λ a. activation_out e.activations up a.around) o
      by_found None f k = refl
      by_found (Some a) f k =
          let one = found_one (IsEnclosed ss) c.activations n a around f in
          let same : one.0.0 ≡ s = some_same (sym one.0.1 ∙ ap (λ (p : ProcessId). slice_get ss p.0) (same_process a n one.1) ∙ h) in
          k a.around (subst (λ s. IsScope ss s a.around) same one.0.2)

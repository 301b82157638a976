-- What parts break, one beside the other.
use Rattle.std.proofs.Common.{◌≡◌, ◌∙◌, Bool, true, false, if◌then◌else◌, refl, sym, ap}
use Rattle.sv_names.specs.declared.checked.Checked.{Checked}
use Rattle.sv_names.specs.declared.checked.Checked.TheVariants.{Good, Broken}
use Rattle.sv_names.specs.declared.checked.Fault.{Fault}
use Rattle.sv_names.specs.declared.refusal.Refusal.{Refusal}
use Rattle.sv_names.specs.declared.refusal.Refusal.TheVariants.{Rule, Memory}
use Rattle.sv_names.specs.Checked.{◌▷◌, ◌where_also◌, given, both, only, comes_before}
use Rattle.sv_names.specs.Given.{Fails, first_of}
use Rattle.sv_names.proofs.Earlier.{earlier_assoc}

if_same : {A : Type 0} (b : Bool) (x : A) → (if b then x else x) ≡ x
if_same true x = refl
if_same false x = refl

module _ {A : Type 0} where
  -- a part beside what it breaks itself
  pub also_same : (x : Checked A) (y : Checked (Unit {0})) → y ≡ only x → x where_also y ≡ x
  also_same (Good a) y e = ap (λ (z : Checked (Unit {0})). Good a where_also z) e
  also_same (Broken f) y e =
      let go : Checked (Unit {0}) → Checked A = λ z. Broken f where_also z in
      let broken : Fault → Checked A = λ h. Broken h in
      ap go e ∙ ap broken (if_same (comes_before f f) f)

  -- what a part beside others breaks
  pub only_also : (x : Checked A) (y : Checked (Unit {0})) → only (x where_also y) ≡ only x where_also y
  only_also (Good a) (Good u) = refl
  only_also (Good a) (Broken g) = refl
  only_also (Broken f) (Good u) = refl
  only_also (Broken f) (Broken g) = refl

  -- nothing is broken beside it
  pub also_stands : (x : Checked A) (y : Checked (Unit {0})) (e : Refusal) → y ≡ Good tt → Fails e x → Fails e (x where_also y)
  also_stands x y (Rule n at) is fails =
      let go : Checked A → Checked A = λ z. z where_also Good tt in
      ap (λ (z : Checked (Unit {0})). x where_also z) is ∙ ap go fails
  also_stands x y Memory is fails = tt

  -- a rule is broken beside it too
  pub also_fails : (x : Checked A) (y : Checked (Unit {0})) (e f : Refusal) → Fails e x → Fails f y → Fails (first_of e f) (x where_also y)
  also_fails x y (Rule n at) (Rule m to) fails is =
      let go : Checked (Unit {0}) → Checked A = λ z. Broken (record { at = at; rule = n }) where_also z in
      ap (λ (z : Checked A). z where_also y) fails ∙ ap go is
  also_fails x y Memory f fails is = tt
  also_fails x y (Rule n at) Memory fails is = tt

  -- a rule that a part breaks, alone
  pub only_fails : (x : Checked A) (e : Refusal) → Fails e x → Fails e (only x)
  only_fails x (Rule n at) fails = ap only fails
  only_fails x Memory fails = tt

module _ {A B : Type 0} where
  -- a rule that is broken before
  pub fails_through : (x : Checked A) (go : A → Checked B) (e : Refusal) → Fails e x → Fails e (x ▷ go)
  fails_through x go (Rule n at) fails = ap (λ (z : Checked A). z ▷ go) fails
  fails_through x go Memory fails = tt

  pub fails_given : (f : A → B) (x : Checked A) (e : Refusal) → Fails e x → Fails e (given f x)
  fails_given f x (Rule n at) fails = ap (given f) fails
  fails_given f x Memory fails = tt

  -- a part beside one that breaks a rule
  pub both_good : (v : A) (x : Checked A) (y : Checked B) (e : Refusal) → x ≡ Good v → Fails e y → Fails e (both x y)
  both_good v x y (Rule n at) is fails = ap (λ (z : Checked A). both z y) is ∙ ap (both (Good v)) fails
  both_good v x y Memory is fails = tt

  pub both_fail : (x : Checked A) (y : Checked B) (e f : Refusal) → Fails e x → Fails f y → Fails (first_of e f) (both x y)
  both_fail x y (Rule n at) (Rule m to) fails is =
      let go : Checked B → Checked (A × B) = λ z. both (Broken (record { at = at; rule = n })) z in
      ap (λ (z : Checked A). both z y) fails ∙ ap go is
  both_fail x y Memory f fails is = tt
  both_fail x y (Rule n at) Memory fails is = tt

  pub fail_both : (x : Checked A) (v : B) (y : Checked B) (e : Refusal) → Fails e x → y ≡ Good v → Fails e (both x y)
  fail_both x v y (Rule n at) fails is =
      let go : Checked B → Checked (A × B) = λ z. both (Broken (record { at = at; rule = n })) z in
      ap (λ (z : Checked A). both z y) fails ∙ ap go is
  fail_both x v y Memory fails is = tt

  -- what is broken by a value, over values that break the same
  pub given_same : {X : Type 0} (t : X → A) (u : X → B) (c : Checked X) → only (given t c) ≡ only (given u c)
  given_same t u (Good x) = refl
  given_same t u (Broken f) = refl

module _ {A B : Type 0} (go : A → Checked B) (same : (a b : A) → only (go a) ≡ only (go b)) where
  pub over_same : (c d : Checked A) → only c ≡ only d → (r q : Checked (Unit {0})) → r ≡ q
      → only ((c ▷ go) where_also r) ≡ only ((d ▷ go) where_also q)
  over_same (Good a) (Good b) e r q is =
      only_also (go a) r ∙ ap (λ (z : Checked (Unit {0})). z where_also r) (same a b)
      ∙ ap (λ (z : Checked (Unit {0})). only (go b) where_also z) is ∙ sym (only_also (go b) q)
  over_same (Good a) (Broken g) e r q is = absurd (cc e)
  over_same (Broken f) (Good b) e r q is = absurd (cc e)
  over_same (Broken f) (Broken g) e r q is =
      let x : Checked B = Broken f in
      let y : Checked B = Broken g in
      only_also x r ∙ ap (λ (z : Checked (Unit {0})). z where_also r) e ∙ ap (λ (z : Checked (Unit {0})). Broken g where_also z) is
      ∙ sym (only_also y q)

-- ---- two parts

only_both : {A B C : Type 0} (f : A × B → C) (x : Checked A) (y : Checked B) → only (given f (both x y)) ≡ only (both (only x) (only y))
only_both f (Good a) (Good b) = refl
only_both f (Good a) (Broken g) = refl
only_both f (Broken e) (Good b) = refl
only_both f (Broken e) (Broken g) = refl

-- parts that break the same
pub pair_same : {A B C : Type 0} (f : A × B → C) (x x' : Checked A) (y y' : Checked B) → only x ≡ only x' → only y ≡ only y'
    → only (given f (both x y)) ≡ only (given f (both x' y'))
pair_same f x x' y y' p q =
    only_both f x y ∙ ap (λ (u : Checked (Unit {0})). only (both u (only y))) p
    ∙ ap (λ (u : Checked (Unit {0})). only (both (only x') u)) q ∙ sym (only_both f x' y')

-- rules that stand beside the second part
pub both_and : {A B : Type 0} (x : Checked A) (y : Checked B) (u : Checked (Unit {0})) → both x y where_also u ≡ both x (y where_also u)
both_and (Good a) (Good b) (Good v) = refl
both_and (Good a) (Good b) (Broken h) = refl
both_and (Good a) (Broken g) (Good v) = refl
both_and (Good a) (Broken g) (Broken h) = refl
both_and (Broken e) (Good b) (Good v) = refl
both_and (Broken e) (Good b) (Broken h) = refl
both_and (Broken e) (Broken g) (Good v) = refl
both_and {A = A} {B = B} (Broken e) (Broken g) (Broken h) =
    let broken : Fault → Checked (A × B) = λ f. Broken f in
    ap broken (earlier_assoc e g h)

pub given_and : {A B : Type 0} (f : A → B) (x : Checked A) (u : Checked (Unit {0})) → given f x where_also u ≡ given f (x where_also u)
given_and f (Good a) (Good v) = refl
given_and f (Good a) (Broken h) = refl
given_and f (Broken e) (Good v) = refl
given_and f (Broken e) (Broken h) = refl

-- a second part that breaks no rule
pub with_good : {A B : Type 0} (x : Checked A) (b : B) (u : Checked (Unit {0})) → both x (Good b) where_also u ≡ given (λ a. (a, b)) (x where_also u)
with_good (Good a) b (Good v) = refl
with_good (Good a) b (Broken h) = refl
with_good (Broken e) b (Good v) = refl
with_good (Broken e) b (Broken h) = refl

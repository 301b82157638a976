-- What is known of parts where a whole breaks no rule, and what a whole breaks.
use Rattle.std.proofs.Common.{◌≡◌, ◌∙◌, List, ◌∷◌, refl, sym, ap, subst}
use Rattle.sv_names.specs.declared.checked.Checked.{Checked}
use Rattle.sv_names.specs.declared.checked.Checked.TheVariants.{Good, Broken}
use Rattle.sv_names.specs.declared.checked.Fault.{Fault}
use Rattle.sv_names.specs.declared.refusal.Refusal.{Refusal}
use Rattle.sv_names.specs.declared.refusal.Refusal.TheVariants.{Rule, Memory}
use Rattle.sv_names.specs.Checked.{all, both, given, ◌where_also◌}
use Rattle.sv_names.specs.Given.{Fails, first_of}
use Rattle.sv_names.proofs.Joined.{next_guarded}

-- a value of a whole, where there is one
abbrev value_of : {A : Type 0} → A → Checked A → A
value_of a (Good b) = b
value_of a (Broken f) = a

-- one value is another one
pub good_is : {A : Type 0} (a b : A) → Good a ≡ Good b → a ≡ b
good_is a b is = ap (value_of a) is

-- whether a rule is broken
abbrev Breaks : {A : Type 0} → Checked A → Type 0
Breaks (Good a) = ⊥
Breaks (Broken f) = Unit {0}

never : {A B : Type 0} (a : A) (f : Fault) → Broken f ≡ Good a → B
never {A = A} a f is = absurd (subst (λ (c : Checked A). Breaks c) is tt)

-- a value that is made of another one
pub good_given : {A B : Type 0} (h : A → B) (c : Checked A) (b : B) → given h c ≡ Good b → (a : A) × (c ≡ Good a) × (b ≡ h a)
good_given h (Good a) b is = (a, refl, sym (good_is (h a) b is))
good_given h (Broken f) b is = never b f is

-- a value that a rule guards
pub good_where : {A : Type 0} (c : Checked A) (g : Checked (Unit {0})) (a : A) → (c where_also g) ≡ Good a → c ≡ Good a
good_where (Good a) (Good u) b is = is
good_where (Good a) (Broken f) b is = never b f is
good_where (Broken f) (Good u) b is = never b f is
good_where (Broken f) (Broken g) b is = never b _ is

module _ {A B C : Type 0} (h : A × B → C) where
  -- of two parts one breaks a rule
  pub fails_right : (v : A) (x : Checked A) (y : Checked B) (e : Refusal) → x ≡ Good v → Fails e y → Fails e (given h (both x y))
  fails_right v x y (Rule n at) is fails =
      ap (λ (z : Checked A). given h (both z y)) is ∙ ap (λ (z : Checked B). given h (both (Good v) z)) fails
  fails_right v x y Memory is fails = tt

  pub fails_left : (x : Checked A) (v : B) (y : Checked B) (e : Refusal) → Fails e x → y ≡ Good v → Fails e (given h (both x y))
  fails_left x v y (Rule n at) fails is =
      let go : Checked B → Checked C = λ z. given h (both (Broken (record { at = at; rule = n })) z) in
      ap (λ (z : Checked A). given h (both z y)) fails ∙ ap go is
  fails_left x v y Memory fails is = tt

  pub fails_both : (x : Checked A) (y : Checked B) (e f : Refusal) → Fails e x → Fails f y → Fails (first_of e f) (given h (both x y))
  fails_both x y (Rule n at) (Rule m to) fails is =
      let go : Checked B → Checked C = λ z. given h (both (Broken (record { at = at; rule = n })) z) in
      ap (λ (z : Checked A). given h (both z y)) fails ∙ ap go is
  fails_both x y Memory f fails is = tt
  fails_both x y (Rule n at) Memory fails is = tt

-- what breaks a rule gives nothing
pub fails_given : {A B : Type 0} (h : A → B) (x : Checked A) (e : Refusal) → Fails e x → Fails e (given h x)
fails_given {A = A} h x (Rule n at) fails = ap (given h) fails
fails_given h x Memory fails = tt

-- a turn tells the rule of one
pub turn_guard : {A : Type 0} (f : A → Checked (Unit {0})) (x : A) (xs : List A) (guards r next : Checked (Unit {0}))
    → next ≡ (guards where_also r) → r ≡ f x → (next where_also all f xs) ≡ (guards where_also all f (x ∷ xs))
turn_guard f x xs guards r next made is =
    ap (λ g. g where_also all f xs) made ∙ next_guarded guards r (all f xs) ∙ ap (λ y. guards where_also (y where_also all f xs)) is

-- the rule of what breaks one
abbrev rule_of : {A : Type 0} → Fault → Checked A → Fault
rule_of d (Good a) = d
rule_of d (Broken f) = f

-- what a value that is made of another one breaks, the other one breaks
pub fails_again : {A B C : Type 0} (h : A → B) (k : A → C) (x : Checked A) (e : Refusal) → Fails e (given h x) → Fails e (given k x)
fails_again h k (Good a) (Rule n at) fails = never (h a) _ (sym fails)
fails_again h k (Broken f) (Rule n at) fails = ap (λ z. Broken (rule_of f z)) fails
fails_again h k x Memory fails = tt

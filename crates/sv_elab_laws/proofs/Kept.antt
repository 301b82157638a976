-- What holds of a value that breaks no rule.
use Rattle.std.proofs.Common.{◌≡◌, ℕ, Bool, true, false, Option, Some, None, refl, if◌then◌else◌}
use Rattle.sv_value.specs.declared.place.Place.{Place}
use Rattle.sv_names.specs.declared.checked.Checked.{Checked}
use Rattle.sv_names.specs.declared.checked.Checked.TheVariants.{Good, Broken}
use Rattle.sv_names.specs.declared.checked.Fault.{Fault}
use Rattle.sv_names.specs.Checked.{both, ◌▷◌, given, ◌where_also◌, unless, also_broken}
use Rattle.sv_elab_laws.specs.Fits.{Keeps}

-- ---- parts

-- a value and what is made of it
pub keeps_then : {A B : Type 0} (P : A → Type 0) (Q : B → Type 0) (c : Checked A) (go : A → Checked B)
    → Keeps P c → ((a : A) → P a → Keeps Q (go a)) → Keeps Q (c ▷ go)
keeps_then P Q (Good a) go h k = k a h
keeps_then P Q (Broken f) go h k = tt

pub keeps_given : {A B : Type 0} (P : A → Type 0) (Q : B → Type 0) (f : A → B) (c : Checked A)
    → Keeps P c → ((a : A) → P a → Q (f a)) → Keeps Q (given f c)
keeps_given P Q f (Good a) h k = k a h
keeps_given P Q f (Broken e) h k = tt

-- what follows of it
pub keeps_more : {A : Type 0} (P Q : A → Type 0) (c : Checked A) → Keeps P c → ((a : A) → P a → Q a) → Keeps Q c
keeps_more P Q (Good a) h k = k a h
keeps_more P Q (Broken f) h k = tt

-- whatever the value is
pub each_then : {A B : Type 0} (Q : B → Type 0) (c : Checked A) (go : A → Checked B) → ((a : A) → Keeps Q (go a)) → Keeps Q (c ▷ go)
each_then Q (Good a) go k = k a
each_then Q (Broken f) go k = tt

pub each_given : {A B : Type 0} (Q : B → Type 0) (f : A → B) (c : Checked A) → ((a : A) → Q (f a)) → Keeps Q (given f c)
each_given Q f (Good a) k = k a
each_given Q f (Broken e) k = tt

-- two parts
pub keeps_both : {A B : Type 0} (P : A → Type 0) (Q : B → Type 0) (a : Checked A) (b : Checked B)
    → Keeps P a → Keeps Q b → Keeps (λ (p : A × B). P p.0 × Q p.1) (both a b)
keeps_both P Q (Good a) (Good b) h k = (h, k)
keeps_both P Q (Good a) (Broken g) h k = tt
keeps_both P Q (Broken f) (Good b) h k = tt
keeps_both P Q (Broken f) (Broken g) h k = tt

-- a value that further rules guard
pub keeps_also : {A : Type 0} (P : A → Type 0) (c : Checked A) (r : Checked (Unit {0})) → Keeps P c → Keeps P (c where_also r)
keeps_also P (Good a) (Good u) h = h
keeps_also P (Good a) (Broken g) h = tt
keeps_also P (Broken f) (Good u) h = tt
keeps_also P (Broken f) (Broken g) h = tt

-- what is broken anyway
pub keeps_broken : {A : Type 0} (P : A → Type 0) (f : Fault) (c : Checked (Unit {0})) → Keeps P (also_broken f c)
keeps_broken P f (Good u) = tt
keeps_broken P f (Broken g) = tt

-- a value, if there is one
abbrev pub KeepsSome : {A : Type 0} → (A → Type 0) → Option A → Type 0
KeepsSome P None = Unit {0}
KeepsSome P (Some a) = P a

pub keeps_unless : {A : Type 0} (P : A → Type 0) (n : ℕ) (at : Place) (o : Option A) → KeepsSome P o → Keeps P (unless n at o)
keeps_unless P n at None h = tt
keeps_unless P n at (Some a) h = h

-- ---- tests

-- one of two values, with what the test tells
pub if_told : {A : Type 0} (P : A → Type 0) (b : Bool) (x y : A) → (b ≡ true → P x) → (b ≡ false → P y) → P (if b then x else y)
if_told P true x y f g = f refl
if_told P false x y f g = g refl

-- one of two values
pub if_each : {A : Type 0} (P : A → Type 0) (b : Bool) (x y : A) → P x → P y → P (if b then x else y)
if_each P true x y h k = h
if_each P false x y h k = k

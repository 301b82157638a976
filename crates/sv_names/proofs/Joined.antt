-- Lists of parts, each of which may break a rule, do not depend on how they are grouped.
use Rattle.std.proofs.Common.{◌≡◌, List, [], ◌∷◌, refl, ap, append_assoc, append-nil}
use Rattle.sv_names.specs.declared.checked.Fault.{Fault}
use Rattle.sv_names.specs.declared.checked.Checked.{Checked}
use Rattle.sv_names.specs.declared.checked.Checked.TheVariants.{Good, Broken}
use Rattle.sv_names.specs.Checked.{put_before, ◌where_also◌}
use Rattle.sv_names.specs.Joined.{put_behind, joined, earlier_in}
use Rattle.sv_names.proofs.Earlier.{earlier_assoc}

-- a part that is put behind a list stands before what follows
pub next_joined : {A : Type 0} (xs : Checked (List A)) (x : Checked A) (ys : Checked (List A))
    → joined (put_behind xs x) ys ≡ joined xs (put_before x ys)
next_joined (Good xs) (Good x) (Good ys) = ap Good (append_assoc xs (x ∷ []) ys)
next_joined (Good xs) (Good x) (Broken h) = refl
next_joined (Good xs) (Broken g) (Good ys) = refl
next_joined (Good xs) (Broken g) (Broken h) = refl
next_joined (Broken f) (Good x) (Good ys) = refl
next_joined (Broken f) (Good x) (Broken h) = refl
next_joined (Broken f) (Broken g) (Good ys) = refl
next_joined (Broken f) (Broken g) (Broken h) = ap Broken (earlier_assoc f g h)

-- nothing stands before
pub joined_first : {A : Type 0} (ys : Checked (List A)) → joined (Good []) ys ≡ ys
joined_first (Good ys) = refl
joined_first (Broken f) = refl

-- nothing stands behind
pub joined_last : {A : Type 0} (xs : Checked (List A)) → joined xs (Good []) ≡ xs
joined_last (Good xs) = ap Good (append-nil xs)
joined_last (Broken f) = refl

-- rules that guard a value, one after another
pub next_guarded : {A : Type 0} (a : Checked A) (b c : Checked (Unit {0})) → (a where_also b) where_also c ≡ a where_also (b where_also c)
next_guarded (Good a) (Good b) (Good c) = refl
next_guarded (Good a) (Good b) (Broken h) = refl
next_guarded (Good a) (Broken g) (Good c) = refl
next_guarded (Good a) (Broken g) (Broken h) = refl
next_guarded (Broken f) (Good b) (Good c) = refl
next_guarded (Broken f) (Good b) (Broken h) = refl
next_guarded (Broken f) (Broken g) (Good c) = refl
next_guarded (Broken f) (Broken g) (Broken h) = ap Broken (earlier_assoc f g h)

-- a part behind a list that breaks a rule
pub broken_joined : {A : Type 0} (f : Fault) (x : Checked A) (ys : Checked (List A)) → joined (Broken (earlier_in f x)) ys ≡ joined (Broken f) (put_before x ys)
broken_joined f (Good x) (Good ys) = refl
broken_joined f (Good x) (Broken h) = refl
broken_joined f (Broken g) (Good ys) = refl
broken_joined f (Broken g) (Broken h) = ap Broken (earlier_assoc f g h)

-- three lists
pub joined_grouped : {A : Type 0} (xs ys zs : Checked (List A)) → joined (joined xs ys) zs ≡ joined xs (joined ys zs)
joined_grouped (Good xs) (Good ys) (Good zs) = ap Good (append_assoc xs ys zs)
joined_grouped (Good xs) (Good ys) (Broken h) = refl
joined_grouped (Good xs) (Broken g) (Good zs) = refl
joined_grouped (Good xs) (Broken g) (Broken h) = refl
joined_grouped (Broken f) (Good ys) (Good zs) = refl
joined_grouped (Broken f) (Good ys) (Broken h) = refl
joined_grouped (Broken f) (Broken g) (Good zs) = refl
joined_grouped (Broken f) (Broken g) (Broken h) = ap Broken (earlier_assoc f g h)

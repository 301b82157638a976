-- Rules for each argument, one after the other.
use Rattle.std.proofs.Common.{◌≡◌, List, [], ◌∷◌, Option, Some, None, refl, ap, ◌∙◌}
use Rattle.sv_tree.specs.declared.word.Direction.{Direction}
use Rattle.sv_tree.specs.declared.word.Name.{Name}
use Rattle.sv_names.specs.declared.checked.Checked.{Checked}
use Rattle.sv_names.specs.declared.checked.Checked.TheVariants.{Good, Broken}
use Rattle.sv_names.specs.declared.named.Callee.{Callee}
use Rattle.sv_names.specs.declared.named.Formal.{Formal}
use Rattle.sv_names.specs.declared.ty.Ty.{Ty}
use Rattle.sv_names.specs.declared.typed.Typed.{Typed}
use Rattle.sv_names.specs.Checked.{◌where_also◌, all, only}
use Rattle.sv_names.specs.Scopes.{callee_stands}
use Rattle.sv_names.proofs.Joined.{next_guarded}
use Rattle.sv_elab_head.specs.Standing.{formal_stands}

-- nothing comes behind
pub none_behind : (c : Checked (Unit {0})) → (c where_also Good tt) ≡ c
none_behind (Good u) = refl
none_behind (Broken f) = refl

-- a turn tells the rule of one
pub turn_guard : {A : Type 0} (f : A → Checked (Unit {0})) (x : A) (xs : List A) (guards r next : Checked (Unit {0}))
    → next ≡ (guards where_also r) → r ≡ f x → (next where_also all f xs) ≡ (guards where_also all f (x ∷ xs))
turn_guard f x xs guards r next made is =
    ap (λ g. g where_also all f xs) made ∙ next_guarded guards r (all f xs) ∙ ap (λ y. guards where_also (y where_also all f xs)) is

-- rules that are the same of each are the same of all
all-same : (f g : Formal → Checked (Unit {0})) → ((x : Formal) → f x ≡ g x) → (xs : List Formal) → all f xs ≡ all g xs
all-same f g same [] = refl
all-same f g same (x ∷ xs) = λ i. same x i where_also all-same f g same xs i

-- an argument by its parts
abbrev formal_with : Name → Direction → Checked Ty → Option (Checked Typed) → Formal
formal_with n d t v = record { name = n; direction = d; ty = t; default = v }

-- rules that are the same with a default and without one
by-default : (f g : Formal → Checked (Unit {0}))
    → ((n : Name) (d : Direction) (t : Checked Ty) → f (formal_with n d t None) ≡ g (formal_with n d t None))
    → ((n : Name) (d : Direction) (t : Checked Ty) (v : Checked Typed) → f (formal_with n d t (Some v)) ≡ g (formal_with n d t (Some v)))
    → (n : Name) (d : Direction) (t : Checked Ty) (v : Option (Checked Typed)) → f (formal_with n d t v) ≡ g (formal_with n d t v)
by-default f g left_out written n d t None = left_out n d t
by-default f g left_out written n d t (Some v) = written n d t v

-- the same of all arguments
all-by-default : (g : Formal → Checked (Unit {0}))
    → ((n : Name) (d : Direction) (t : Checked Ty) → formal_stands (formal_with n d t None) ≡ g (formal_with n d t None))
    → ((n : Name) (d : Direction) (t : Checked Ty) (v : Checked Typed) → formal_stands (formal_with n d t (Some v)) ≡ g (formal_with n d t (Some v)))
    → (fs : List Formal) → all formal_stands fs ≡ all g fs
all-by-default g left_out written fs =
    all-same formal_stands g (λ x. by-default formal_stands g left_out written x.name x.direction x.ty x.default) fs

-- the rules on a head, by those on its arguments
pub head_stands : (c : Callee) → (only c.result where_also all formal_stands c.formals) ≡ callee_stands c
head_stands c = ap (λ r. only c.result where_also r) (all-by-default _ (λ n d t. refl) (λ n d t v. refl) c.formals)

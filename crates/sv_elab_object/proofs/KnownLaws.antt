-- The rules that the declarations of a scope break, one after another.
use Rattle.std.proofs.Common.{◌≡◌, ◌∙◌, ℕ, ◌+◌, ◌<◌, ◌≤◌, Bool, true, false, ◌||◌, List, [], map, ◌∷◌, Option, Some, None, length, drop, get_or, refl, sym, ap}
use Rattle.std.specs.Borrow.{Bor}
use Rattle.std.proofs.lemmas.List.{drop_more, drop_all}
use Rattle.sv_tree.specs.declared.word.Name.{Name}
use Rattle.sv_names.specs.declared.checked.Checked.{Checked}
use Rattle.sv_names.specs.declared.checked.Checked.TheVariants.{Good, Broken}
use Rattle.sv_names.specs.declared.named.Callee.{Callee}
use Rattle.sv_names.specs.declared.named.Known.{Known}
use Rattle.sv_names.specs.declared.named.Kind.{Kind}
use Rattle.sv_names.specs.declared.named.Named.{Named}
use Rattle.sv_names.specs.declared.named.Named.TheVariants.{Constant}
use Rattle.sv_names.specs.declared.typed.Typed.{Typed}
use Rattle.sv_names.specs.Checked.{rule, fine, only, all, ◌where_also◌}
use Rattle.sv_names.specs.Scopes.{callee_stands, known_stand, item_in, equal_items, has_equal, items_differ}
use Rattle.sv_names.proofs.Joined.{next_guarded}
use Rattle.sv_elab_object.specs.Known.{formal_stands, known_stands}

-- the head of a subroutine
pub callee_is : (c : Callee) → callee_stands c ≡ (only c.result where_also all formal_stands c.formals)
callee_is c = refl

-- all declarations
pub known_is : (ks : List Known) → known_stand ks ≡ (all known_stands ks where_also items_differ [] ks)
known_is ks = refl

-- ---- rules one after another

-- no rule behind others
guards_end : (g : Checked (Unit {0})) → (g where_also fine) ≡ g
guards_end (Good u) = refl
guards_end (Broken f) = refl

-- no rule before others
pub guards_first : (g : Checked (Unit {0})) → (Good tt where_also g) ≡ g
guards_first (Good u) = refl
guards_first (Broken f) = refl

-- one more of a list
pub all_next : {A : Type 0} (f : A → Checked (Unit {0})) (xs : List A) (i : ℕ) (x : A) (g next h whole : Checked (Unit {0})) → i < length xs
    → get_or xs i x ≡ x → next ≡ (g where_also h) → h ≡ f x → (g where_also all f (drop i xs)) ≡ whole
    → (next where_also all f (drop (i + 1) xs)) ≡ whole
all_next f xs i x g next h whole within is made of so_far =
    let rest : Checked (Unit {0}) = all f (drop (i + 1) xs) in
    ap (λ (n : Checked (Unit {0})). n where_also rest) (made ∙ ap (λ (y : Checked (Unit {0})). g where_also y) of)
    ∙ next_guarded g (f x) rest
    ∙ sym (ap (λ ys. g where_also all f ys) (drop_more xs i x within ∙ ap (λ y. y ∷ drop (i + 1) xs) is)) ∙ so_far

-- all of a list
pub all_done : {A : Type 0} (f : A → Checked (Unit {0})) (xs : List A) (i : ℕ) (g whole : Checked (Unit {0})) → length xs ≤ i
    → (g where_also all f (drop i xs)) ≡ whole → g ≡ whole
all_done f xs i g whole end so_far = sym (guards_end g) ∙ sym (ap (λ ys. g where_also all f ys) (drop_all i xs end)) ∙ so_far

-- ---- items of enums

-- a declaration that is no item
none_differ : (seen : List Typed) (n : Name) (kd : Kind) (v : Checked Named) (ks : List Known)
    → item_in (record { name = n; kind = kd; value = v }) ≡ None
    → items_differ seen (record { name = n; kind = kd; value = v } ∷ ks) ≡ items_differ seen ks
none_differ seen n kd (Good (Constant t true)) ks none = refl
none_differ seen n kd (Good (Constant t false)) ks none = cc
none_differ seen n kd (Good m) ks none = refl
none_differ seen n kd (Broken f) ks none = refl

-- a declaration that is an item
some_differ : (seen : List Typed) (n : Name) (kd : Kind) (v : Checked Named) (t : Typed) (ks : List Known)
    → item_in (record { name = n; kind = kd; value = v }) ≡ Some t
    → items_differ seen (record { name = n; kind = kd; value = v } ∷ ks) ≡ (rule 56 n.at (has_equal t seen) where_also items_differ (t ∷ seen) ks)
some_differ seen n kd (Good (Constant t true)) u ks some = cc
some_differ seen n kd (Good (Constant t false)) u ks some = search (some)
some_differ seen n kd (Good m) u ks some = cc
some_differ seen n kd (Broken f) u ks some = cc

-- ---- items with one value

-- an item that has another value
pub equal_passed : (t : Typed) (us : List (Bor Typed)) (i : ℕ) (u : Bor Typed) → i < length us → get_or us i u ≡ u → equal_items t u.now ≡ false
    → has_equal t (map (λ x. x.now) (drop (i + 1) us)) ≡ has_equal t (map (λ x. x.now) (drop i us))
equal_passed t us i u within is other =
    let all_of : List (Bor Typed) → Bool = λ xs. has_equal t (map (λ x. x.now) xs) in
    sym (ap (λ b. b || all_of (drop (i + 1) us)) other) ∙ sym (ap all_of (drop_more us i u within ∙ ap (λ y. y ∷ drop (i + 1) us) is))

-- an item that has the same value
pub equal_found : (t : Typed) (us : List (Bor Typed)) (i : ℕ) (u : Bor Typed) → i < length us → get_or us i u ≡ u → equal_items t u.now ≡ true
    → true ≡ has_equal t (map (λ x. x.now) (drop i us))
equal_found t us i u within is same =
    let all_of : List (Bor Typed) → Bool = λ xs. has_equal t (map (λ x. x.now) xs) in
    sym (ap (λ b. b || all_of (drop (i + 1) us)) same) ∙ sym (ap all_of (drop_more us i u within ∙ ap (λ y. y ∷ drop (i + 1) us) is))

-- no item behind rules
pub other_step : (g : Checked (Unit {0})) (seen : List Typed) (k : Known) (ks : List Known) → item_in k ≡ None
    → (g where_also items_differ seen ks) ≡ (g where_also items_differ seen (k ∷ ks))
other_step g seen k ks none = ap (λ h. g where_also h) (sym (none_differ seen k.name k.kind k.value ks none))

-- an item behind rules
pub item_step : (g : Checked (Unit {0})) (seen : List Typed) (k : Known) (t : Typed) (ks : List Known) → item_in k ≡ Some t
    → ((g where_also rule 56 k.name.at (has_equal t seen)) where_also items_differ (t ∷ seen) ks) ≡ (g where_also items_differ seen (k ∷ ks))
item_step g seen k t ks some =
    next_guarded g (rule 56 k.name.at (has_equal t seen)) (items_differ (t ∷ seen) ks)
    ∙ ap (λ h. g where_also h) (sym (some_differ seen k.name k.kind k.value t ks some))

-- The values of an opening.
use Rattle.std.proofs.Common.{subst, ℕ, zero, suc, ◌≡◌, ◌+◌, ◌<◌, List, [], ◌∷◌, ◌++◌, refl, ap, sym, ◌∙◌, arith, length, drop, get_or, drop-cons}
use Rattle.std.specs.List.{AllByRecursion}
use Rattle.std.proofs.lemmas.List.{append_assoc}
use Rattle.sv_value.specs.declared.val.Plain.TheVariants as plain
use Rattle.sv_flat.specs.declared.object.Object.{Object}
use Rattle.sv_flat.specs.declared.object.ObjectKind.{ObjectKind}
use Rattle.sv_flat.specs.declared.object.ObjectKind.TheVariants as kind
use Rattle.sv_flat.specs.declared.object.DataType.{DataType}
use Rattle.sv_flat.specs.declared.object.DataType.TheVariants as type
use Rattle.sv_flat.specs.declared.design.Parts.{Parts}
use Rattle.sv_flat.specs.State.{Store, World, first_value}
use Rattle.sv_flat.specs.Effects.Creation.{fresh_value}
use Rattle.sv_flat.specs.Opening.{opening_world, initializers_run, initializer_run, objects_added, with_first, stored}
use Rattle.sv_built.specs.Built.{IsBuilt, IsBuiltObject, IsBuiltType, IsBuiltKind}
use Rattle.sv_store.specs.First.{IsStorable, FitsKind, first_store}
use Rattle.sv_sound.proofs.Opening.{OnlyStore, all_run_only}
use Rattle.sv_assign.specs.Seen.{world_in}
use Rattle.sv_machine.specs.Opening.{store_initialized}

-- the world of a store before any activation is made
abbrev opened : Store → World
opened s = world_in s []

-- ---- what a store can hold

fits : (k : ObjectKind) (t : DataType) → IsBuiltKind k t → IsBuiltType t → FitsKind k t
fits (kind.Net n) (type.Plain (plain.Integral t)) k h = h
fits (kind.Net n) t k h = absurd k
fits kind.Variable (type.Plain (plain.Integral t)) k h = h
fits kind.Variable (type.Plain plain.Text) k h = tt
fits kind.Result (type.Plain (plain.Integral t)) k h = h
fits kind.Result (type.Plain plain.Text) k h = tt
fits kind.Variable t k h = absurd h
fits kind.Result t k h = absurd h
fits k t h x = absurd h

pub storable : (os : List Object) → AllByRecursion IsBuiltObject os → AllByRecursion IsStorable os
storable [] h = tt
storable (o ∷ os) h = (record { few = h.0.few; width = fits o.kind o.ty h.0.kind h.0.ty }, storable os h.1)

-- ---- the first values

first_added : (t : DataType) → IsBuiltType t → (o : Object) (w : World) → with_first o (fresh_value t w.heap) w ≡ record w { store = w.store ++ stored o (first_value t) ∷ [] }
first_added (type.Plain (plain.Integral t)) h o w = refl
first_added (type.Plain plain.Text) h o w = refl
first_added t h o w = absurd h

nothing_more : (s : Store) → s ++ [] ≡ s
nothing_more s = Rattle.std.proofs.lemmas.List.append-nil s

all_added : (os : List Object) → AllByRecursion IsBuiltObject os → (s : Store) → objects_added os (opened s) ≡ opened (s ++ first_store os)
all_added [] h s = ap opened (sym (nothing_more s))
all_added (o ∷ os) h s =
    ap (objects_added os) (first_added o.ty h.0.ty o (opened s))
    ∙ all_added os h.1 (s ++ stored o (first_value o.ty) ∷ [])
    ∙ ap opened (append_assoc s (stored o (first_value o.ty) ∷ []) (first_store os))

pub first_run : (d : Parts) → IsBuilt d → (s : Store) → s ≡ first_store d.objects → initializers_run d 0 d.objects (opened s) ≡ opening_world d
first_run d b s e = ap (λ (s : Store). initializers_run d 0 d.objects (opened s)) e ∙ ap (initializers_run d 0 d.objects) (sym (all_added d.objects b.each_object []))

-- ---- one initializer more

pub initial_at : (os : List Object) (i : ℕ) (o : Object) → i < length os → get_or os i o ≡ o → AllByRecursion IsBuiltObject os → IsBuiltObject o
initial_at [] i o h e all = absurd (omega (arith, h))
initial_at (x ∷ os) zero o h e all = subst IsBuiltObject e all.0
initial_at (x ∷ os) (suc i) o h e all = initial_at os i o (omega (arith, h)) e all.1

pub one_run : (d : Parts) (os : List Object) (i : ℕ) (o : Object) (s t : Store) → i < length os → get_or os i o ≡ o → AllByRecursion IsBuiltObject os
    → t ≡ store_initialized d (record { 0 = i }) o s
    → initializers_run d i (drop i os) (opened s) ≡ initializers_run d (i + 1) (drop (i + 1) os) (opened t)
one_run d os i o s t h e all is =
    let n : suc i ≡ i + 1 = omega arith in
    let only : OnlyStore (opened s) (initializer_run d (record { 0 = i }) o o.initial (opened s)) = all_run_only d i (o ∷ []) (initial_at os i o h e all, tt) (opened s) in
    ap (λ (xs : List Object). initializers_run d i xs (opened s)) (drop-cons os i o h ∙ ap (λ (x : Object). x ∷ drop (suc i) os) e ∙ ap (λ (n : ℕ). o ∷ drop n os) n)
    ∙ ap (initializers_run d (i + 1) (drop (i + 1) os)) (only.is ∙ ap opened (sym is))

-- none is left
all_dropped : {A : Type 0} (xs : List A) → drop (length xs) xs ≡ []
all_dropped [] = refl
all_dropped (x ∷ xs) = all_dropped xs

pub all_run : (d : Parts) (n : ℕ) (s : Store) → n ≡ length d.objects → initializers_run d n (drop n d.objects) (opened s) ≡ opening_world d → s ≡ (opening_world d).store
all_run d n s e h =
    let none : drop n d.objects ≡ [] = ap (λ (n : ℕ). drop n d.objects) e ∙ all_dropped d.objects in
    ap (λ (w : World). w.store) (ap (λ (os : List Object). initializers_run d n os (opened s)) (sym none) ∙ h)

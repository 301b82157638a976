-- The objects of static arguments and results, one after another.
use Rattle.std.proofs.Common.{rules, ◌≡◌, ◌∙◌, ℕ, ◌+◌, ◌<◌, ◌≤◌, List, [], ◌∷◌, ◌++◌, Option, Some, None, length, drop, get_or, map, refl, sym, ap, append-nil, append_assoc}
use Rattle.std.proofs.lemmas.List.{drop_all}
use Rattle.sv_value.specs.declared.place.Place.{Place}
use Rattle.sv_flat.specs.declared.object.Object.{Object}
use Rattle.sv_flat.specs.declared.object.ObjectKind.{ObjectKind}
use Rattle.sv_tree.specs.declared.unit.Argument.{Argument as Written}
use Rattle.sv_tree.specs.declared.word.Direction.{Direction}
use Rattle.sv_tree.specs.declared.word.Direction.TheVariants as direction
use Rattle.sv_tree.specs.declared.word.Name.{Name}
use Rattle.sv_tree.specs.Types as types
use Rattle.sv_tree.specs.Types.{ImpliedType}
use Rattle.sv_tree.specs.Units.{Argument}
use Rattle.sv_tree.specs.UnitView.{argument}
use Rattle.sv_names.specs.declared.checked.Checked.{Checked}
use Rattle.sv_names.specs.declared.checked.Checked.TheVariants.{Good, Broken}
use Rattle.sv_names.specs.declared.named.Kind.{Kind}
use Rattle.sv_names.specs.declared.named.Known.{Known}
use Rattle.sv_names.specs.declared.named.Named.{Named}
use Rattle.sv_names.specs.declared.named.Named.TheVariants.{Variable, Itself}
use Rattle.sv_names.specs.declared.named.ResultVariable.{ResultVariable}
use Rattle.sv_names.specs.declared.named.ResultVariable.TheVariants as result_variables
use Rattle.sv_names.specs.declared.scope.Scope.{Scope}
use Rattle.sv_names.specs.declared.ty.Ty.{Ty}
use Rattle.sv_names.specs.Entries.{Taken, taken_from, type_or, has_direction, direction_or}
use Rattle.sv_names.specs.Named.{Around, at_level, further, in_known, local_size}
use Rattle.sv_names.specs.Statements.{result_variable}
use Rattle.sv_names.specs.Subroutines.{argument_objects, result_objects}
use Rattle.sv_names.specs.Types.{Path}
use Rattle.sv_elab_flow.proofs.Left.{first_left}
use Rattle.sv_elab_before.specs.Objects.{object_named, object_known, object_called, objects_of, result_known, static_result, if_static, result_named}

-- ---- arguments

-- what is no static variable has no object
no_object : (ar : Around) (kind : ObjectKind) (at : Place) (up place : ℕ) (n : Named) → ((p : Path) (t : Ty) → n ≡ Variable p t → ⊥)
    → object_named ar kind at (at_level up place n) ≡ []
no_object ar kind at up place (Variable p t) other = absurd (other p t refl)
no_object ar kind at up place (Itself c (result_variables.Local u p t)) other = refl
no_object ar kind at up place (Itself c (result_variables.Object p t)) other = refl
no_object ar kind at up place n other = refl

-- nothing is appended for it
pub none_named : (ar : Around) (kind : ObjectKind) (at : Place) (up place : ℕ) (n : Named) (os : List Object)
    → ((p : Path) (t : Ty) → n ≡ Variable p t → ⊥) → os ≡ os ++ object_named ar kind at (at_level up place n)
none_named ar kind at up place n os other = sym (append-nil os) ∙ ap (λ l. os ++ l) (sym (no_object ar kind at up place n other))

-- the object of the first argument, by what it stands for
one_by : (ar : Around) (s : Scope) (a : Taken) (as' : List Taken) (o : Option (Checked Named)) → in_known 0 0 a.argument.name.text s.known ≡ o
    → argument_objects ar s (a ∷ as') ≡ object_known ar a.argument.name.at o ++ argument_objects ar s as'
one_by ar s a as' None is = search rules
one_by ar s a as' (Some (Broken f)) is = search rules
one_by ar s a as' (Some (Good (Variable p t))) is = search rules
one_by ar s a as' (Some (Good n)) is = search rules

one_object : (ar : Around) (s : Scope) (a : Taken) (as' : List Taken)
    → argument_objects ar s (a ∷ as') ≡ object_called ar s a.argument.name ++ argument_objects ar s as'
one_object ar s a as' = one_by ar s a as' (in_known 0 0 a.argument.name.text s.known) refl

-- an argument behind others of a direction and a type
abbrev taken_as : Direction → ImpliedType → Argument → Taken
taken_as d t a = record { direction = direction_or d a.direction; type = type_or (has_direction a.direction) t a.of; argument = a }

-- neither direction nor type decides what an argument stands for
any_before : (ar : Around) (s : Scope) (d e : Direction) (t u : ImpliedType) (as' : List Argument)
    → argument_objects ar s (taken_from d t as') ≡ argument_objects ar s (taken_from e u as')
any_before ar s d e t u [] = refl
any_before ar s d e t u (a ∷ as') =
    let first = taken_as d t a in
    let second = taken_as e u a in
    one_object ar s first (taken_from first.direction first.type as')
    ∙ ap (λ l. object_called ar s a.name ++ l) (any_before ar s first.direction second.direction first.type second.type as')
    ∙ sym (one_object ar s second (taken_from second.direction second.type as'))

-- the objects of an argument and of those behind it
objects_next : (ar : Around) (s : Scope) (a : Argument) (as' : List Argument)
    → objects_of ar s (a ∷ as') ≡ object_called ar s a.name ++ objects_of ar s as'
objects_next ar s a as' =
    let first = taken_as direction.Input types.Unwritten a in
    one_object ar s first (taken_from first.direction first.type as')
    ∙ ap (λ l. object_called ar s a.name ++ l) (any_before ar s first.direction direction.Input first.type types.Unwritten as')

-- one argument further
pub argument_next : (ar : Around) (s : Scope) (xs : List Written) (i : ℕ) (x : Written) (os next whole : List Object) → i < length xs
    → get_or xs i x ≡ x → next ≡ os ++ object_called ar s x.name → os ++ objects_of ar s (map argument (drop i xs)) ≡ whole
    → next ++ objects_of ar s (map argument (drop (i + 1) xs)) ≡ whole
argument_next ar s xs i x os next whole within is pushed so_far =
    let rest = objects_of ar s (map argument (drop (i + 1) xs)) in
    let here : objects_of ar s (map argument (drop i xs)) ≡ object_called ar s x.name ++ rest =
    ap (λ (l : List Written). objects_of ar s (map argument l)) (first_left xs i x within is)
    ∙ objects_next ar s (argument x) (map argument (drop (i + 1) xs)) in
    ap (λ l. l ++ rest) pushed ∙ append_assoc os (object_called ar s x.name) rest ∙ ap (λ l. os ++ l) (sym here) ∙ so_far

-- all arguments
pub arguments_all : (ar : Around) (s : Scope) (xs : List Written) (i : ℕ) (os whole : List Object) → length xs ≤ i
    → os ++ objects_of ar s (map argument (drop i xs)) ≡ whole → os ≡ whole
arguments_all ar s xs i os whole past so_far =
    sym (append-nil os) ∙ ap (λ (l : List Written). os ++ objects_of ar s (map argument l)) (sym (drop_all i xs past)) ∙ so_far

-- ---- results

-- a declaration by its value
abbrev known_as : Name → Kind → Checked Named → Known
known_as n k v = record { name = n; kind = k; value = v }

-- where a declaration stands does not decide whether it is a static result
step_any : (up place next : ℕ) (n : Name) (k : Kind) (v : Checked Named) (ks : List Known)
    → if_static (result_variable up (further place (local_size v)) ks) ≡ if_static (result_variable up (further next (local_size v)) ks)
    → if_static (result_variable up place (known_as n k v ∷ ks)) ≡ if_static (result_variable up next (known_as n k v ∷ ks))
step_any up place next n k (Good (Itself c (result_variables.Object p t))) ks same = refl
step_any up place next n k (Good (Itself c (result_variables.Local u p t))) ks same = refl
step_any up place next n k (Good m) ks same = same
step_any up place next n k (Broken f) ks same = same

any_place : (up place next : ℕ) (ks : List Known) → if_static (result_variable up place ks) ≡ if_static (result_variable up next ks)
any_place up place next [] = refl
any_place up place next (k ∷ ks) =
    step_any up place next k.name k.kind k.value ks (any_place up (further place (local_size k.value)) (further next (local_size k.value)) ks)

-- the first result variable
abbrev or_behind : Option ResultVariable → Option Named → Option Named
or_behind None x = x
or_behind (Some v) x = static_result (Some v)

result_by : (n : Name) (k : Kind) (v : Checked Named) (ks : List Known)
    → if_static (result_variable 0 0 (known_as n k v ∷ ks)) ≡ or_behind (result_known v) (if_static (result_variable 0 0 ks))
result_by n k (Good (Itself c (result_variables.Object p t))) ks = refl
result_by n k (Good (Itself c (result_variables.Local u p t))) ks = refl
result_by n k (Good m) ks = any_place 0 (further 0 (local_size (Good m))) 0 ks
result_by n k (Broken f) ks = any_place 0 (further 0 0) 0 ks

-- the function itself is declared here
pub result_here : (k : Known) (ks : List Known) (v : ResultVariable) → Some v ≡ result_known k.value
    → static_result (Some v) ≡ if_static (result_variable 0 0 (k ∷ ks))
result_here k ks v is =
    ap (λ r. or_behind r (if_static (result_variable 0 0 ks))) is ∙ sym (result_by k.name k.kind k.value ks)

-- or behind
pub result_behind : (k : Known) (ks : List Known) (r : Option ResultVariable) → None ≡ result_known k.value
    → static_result r ≡ if_static (result_variable 0 0 ks) → static_result r ≡ if_static (result_variable 0 0 (k ∷ ks))
result_behind k ks r none is =
    is ∙ ap (λ x. or_behind x (if_static (result_variable 0 0 ks))) none ∙ sym (result_by k.name k.kind k.value ks)

-- the object of the result, by what it stands for
objects_by : (ar : Around) (s : Scope) (n : Name) (o : Option Named) → result_variable 0 0 s.known ≡ o
    → result_named ar n.at (if_static o) ≡ result_objects ar s n
objects_by ar s n None is = search rules
objects_by ar s n (Some (Variable p t)) is = search rules
objects_by ar s n (Some m) is = search rules

pub result_objects_are : (ar : Around) (s : Scope) (n : Name) (r : Option ResultVariable)
    → static_result r ≡ if_static (result_variable 0 0 s.known) → result_named ar n.at (static_result r) ≡ result_objects ar s n
result_objects_are ar s n r is = ap (result_named ar n.at) is ∙ objects_by ar s n (result_variable 0 0 s.known) refl

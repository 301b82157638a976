-- What of a scope is kept beside its declarations, so that nothing is compared or summed at a look-up (own), and other values of declarations.
use Rattle.std.specs.Prelude.{◌≡◌, ℕ, suc, Bool, true, false, ◌||◌, List, [], ◌∷◌, map, Option, Some, None, option_map, is_some, if◌then◌else◌, Vec}
use Rattle.std.specs.Ordering.{nat_cmp}
use Rattle.std.specs.Cmp.Lexicographic.{slice_cmp}
use Rattle.std.specs.BTreeMap.{BTreeMap, get_by}
use Rattle.sv_names.specs.declared.named.Named.{Named}
use Rattle.sv_names.specs.declared.named.Named.TheVariants.{ClockingBlock}
use Rattle.sv_names.specs.declared.name_set.NameSet.{NameSet}
use Rattle.sv_names.specs.declared.named.Known.{Known}
use Rattle.sv_names.specs.declared.checked.Checked.{Checked}
use Rattle.sv_names.specs.declared.checked.Checked.TheVariants.{Good}
use Rattle.sv_names.specs.Types.{same_bytes}
use Rattle.sv_names.specs.Named.{further, local_size}

-- the names that are declared
abbrev pub names_of : List Known → List (List ℕ)
names_of ks = map (λ k. k.name.text) ks

-- the position at which one of a list stands first
abbrev pub first_at : {K : Type 0} → (K → K → Bool) → K → List K → Option ℕ
first_at same x [] = None
first_at same x (n ∷ ns) = if same x n then Some 0 else option_map suc (first_at same x ns)

-- what a map has at a name
abbrev pub at_name : {A X : Type 0} → List ℕ → BTreeMap (Vec ℕ A) X → Option X
at_name x m = get_by (λ k. slice_cmp nat_cmp x k.items) m

-- an index finds each name at its first position
abbrev pub IsIndexOf : {A : Type 0} → BTreeMap (Vec ℕ A) ℕ → List (List ℕ) → Type 0
IsIndexOf index ns = (x : List ℕ) → at_name x index ≡ first_at same_bytes x ns

-- whether a set has a name
abbrev pub has_name : NameSet → List ℕ → Bool
has_name s x = is_some (at_name x s.names)

-- whether it is a clocking block
abbrev pub is_block : Checked Named → Bool
is_block (Good (ClockingBlock p ss)) = true
is_block k = false

-- whether one of them is
abbrev pub some_block : List Known → Bool
some_block [] = false
some_block (k ∷ ks) = is_block k.value || some_block ks

-- where the variables of each declaration stand
abbrev pub places_from : ℕ → List Known → List ℕ
places_from place [] = []
places_from place (k ∷ ks) = place ∷ places_from (further place (local_size k.value)) ks

-- ---- other values

-- the new value, where there is one
abbrev pub or_old : {A : Type 0} → A → Option A → A
or_old a None = a
or_old a (Some b) = b

-- with another value
abbrev pub with_value : Known → Option (Checked Named) → Known
with_value k v = record k { value = or_old k.value v }

-- the first of values, where there is one
abbrev pub first_value : {A : Type 0} → List (Option A) → Option A
first_value [] = None
first_value (v ∷ vs) = v

-- those behind it
abbrev pub more_values : {A : Type 0} → List (Option A) → List (Option A)
more_values [] = []
more_values (v ∷ vs) = vs

-- declarations with other values, where there are such
abbrev pub with_values : List Known → List (Option (Checked Named)) → List Known
with_values [] vs = []
with_values (k ∷ ks) vs = with_value k (first_value vs) ∷ with_values ks (more_values vs)

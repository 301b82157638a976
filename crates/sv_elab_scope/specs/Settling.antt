-- Rounds over the declarations of a group where they stand.
use Rattle.std.specs.Prelude.{ℕ, zero, suc, ◌+◌, Bool, true, false, ◌&&◌, List, [], ◌∷◌, length, Option, Some, None, if◌then◌else◌, nat_lt}
use Rattle.sv_names.specs.declared.around.ClassInfo.{ClassInfo}
use Rattle.sv_names.specs.declared.checked.Checked.{Checked}
use Rattle.sv_names.specs.declared.named.Known.{Known}
use Rattle.sv_names.specs.declared.named.Named.{Named}
use Rattle.sv_names.specs.declared.scope.Scope.{Scope}
use Rattle.sv_names.specs.Types.{Path}
use Rattle.sv_names.specs.Named.{Around}
use Rattle.sv_names.specs.Index.{with_values}
use Rattle.sv_names.specs.Entries as entries
use Rattle.sv_names.specs.Rounds.{Row, does_wait, or_waits}
use Rattle.sv_names.specs.Groups.{Group, with_around, in_class, in_group, home_of}
use Rattle.sv_elab_scope.specs.declared.declared.Entry.{Entry}
use Rattle.sv_elab_scope.specs.Views.{entry_in}
use Rattle.sv_elab_scope.specs.Rows.{all_known, group_over}

-- ---- what declarations stand for

-- at the end or before, where they stand, in the scope with this path
abbrev pub Meant : Type 0
Meant = Bool → Around → Path → entries.Entry → Checked Named

-- what is seen of a group over rows
abbrev pub prepare_over : Around → Group → List Row → Group × Around
prepare_over ar g rs = with_around ar (group_over g rs)

-- a declaration over what is seen, in its scope
abbrev pub evaluated_by : Meant → Bool → Path → Group × Around → Row → Checked Named
evaluated_by meant l p g r = by (home_of r.home g.0.classes g.1 (g.1, p))
  where
    by : Around × Path → Checked Named
    by h = meant l h.0 h.1 r.entry

-- ---- evaluation in place

-- what a declaration stands for in a round, where the round evaluates it
abbrev pub renewal : Bool → Checked Named → Option (Checked Named)
renewal true c = Some (or_waits c)
renewal false c = None

-- the same of the declarations of a scope
abbrev pub renewals : (entries.Entry → Checked Named) → List Entry → List Bool → List (Option (Checked Named))
renewals f [] ms = []
renewals f (e ∷ es) [] = []
renewals f (e ∷ es) (m ∷ ms) = renewal m (f (entry_in e)) ∷ renewals f es ms

-- what a member of a class stands for
abbrev pub in_its_class : Meant → Bool → Around → Path → entries.Entry → Checked Named
in_its_class meant l ar k e = meant l (in_class k ar) k e

-- the members of a class, where they are evaluated
abbrev pub class_renewals : Meant → Bool → Around → Path → List Entry → List Bool → List (Option (Checked Named))
class_renewals meant l ar k es ms = renewals (in_its_class meant l ar k) es ms

-- those of each class
abbrev pub member_renewals :
    Meant → Bool → Around → List (List Entry) → List (List Bool) → List ClassInfo → List (List (Option (Checked Named)))
member_renewals meant l ar [] mss cs = []
member_renewals meant l ar (es ∷ more) [] cs = []
member_renewals meant l ar (es ∷ more) (ms ∷ mss) [] = []
member_renewals meant l ar (es ∷ more) (ms ∷ mss) (c ∷ cs) =
    class_renewals meant l ar c.path es ms ∷ member_renewals meant l ar more mss cs

-- all declarations of a group, where they are evaluated
abbrev pub evaluated :
    Meant → Bool → Around → Path → List (List Entry) → List (List Bool) → Group → List (List (Option (Checked Named)))
evaluated meant l ar p [] mss g = []
evaluated meant l ar p (es ∷ more) [] g = []
evaluated meant l ar p (es ∷ more) (ms ∷ mss) g =
    renewals (meant l (in_group g ar) p) es ms ∷ member_renewals meant l (in_group g ar) more mss g.classes

-- ---- other values

-- the first of lists, where there is one
abbrev pub first_row : {A : Type 0} → List (List A) → List A
first_row [] = []
first_row (vs ∷ vss) = vs

-- those behind it
abbrev pub more_rows : {A : Type 0} → List (List A) → List (List A)
more_rows [] = []
more_rows (vs ∷ vss) = vss

-- a scope with other values
abbrev pub scope_with : Scope → List (Option (Checked Named)) → Scope
scope_with s vs = record s { known = with_values s.known vs }

-- a class whose members have other values
abbrev pub class_with : ClassInfo → List (Option (Checked Named)) → ClassInfo
class_with c vs = record c { scope = scope_with c.scope vs }

-- classes whose members have other values
abbrev pub classes_with : List ClassInfo → List (List (Option (Checked Named))) → List ClassInfo
classes_with [] vss = []
classes_with (c ∷ cs) vss = class_with c (first_row vss) ∷ classes_with cs (more_rows vss)

-- a group with other values
abbrev pub group_with : Group → List (List (Option (Checked Named))) → Group
group_with g vss =
    record { scope = scope_with g.scope (first_row vss); classes = classes_with g.classes (more_rows vss) }

-- ---- who waits

-- in a scope
abbrev pub waits_in : List Known → List Bool
waits_in [] = []
waits_in (k ∷ ks) = does_wait k.value ∷ waits_in ks

-- in each of several scopes
abbrev pub marks_in : List (List Known) → List (List Bool)
marks_in [] = []
marks_in (ks ∷ kss) = waits_in ks ∷ marks_in kss

-- how many in a scope
abbrev pub waiting_in : List Known → ℕ
waiting_in [] = 0
waiting_in (k ∷ ks) = (if does_wait k.value then 1 else 0) + waiting_in ks

-- how many in several scopes
abbrev pub waiting_lists : List (List Known) → ℕ
waiting_lists [] = 0
waiting_lists (ks ∷ kss) = waiting_in ks + waiting_lists kss

-- how many in a group
abbrev pub waiting_group : Group → ℕ
waiting_group g = waiting_lists (all_known g)

-- ---- rounds

-- one round
abbrev pub group_round : Meant → Bool → Around → Path → List (List Entry) → Group → Group
group_round meant l ar p ess g = group_with g (evaluated meant l ar p ess (marks_in (all_known g)) g)

-- a further round, or none
abbrev pub next_group : Bool → (Group → Group) → Group → Group
next_group true go g = go g
next_group false go g = g

-- so many rounds at most; it ends with the round in which none ceases to wait
abbrev pub group_rounds : Meant → Bool → Around → Path → List (List Entry) → ℕ → Group → Group
group_rounds meant l ar p ess zero g = g
group_rounds meant l ar p ess (suc n) g =
    after (λ x. group_rounds meant l ar p ess n x) (waiting_group g) (group_round meant l ar p ess g)
  where
    after : (Group → Group) → ℕ → Group → Group
    after go before new = next_group (nat_lt (waiting_group new) before && nat_lt 0 (waiting_group new)) go new

-- how many declarations there are
abbrev pub count : List (List Entry) → ℕ
count [] = 0
count (es ∷ more) = length es + count more

-- as many rounds as there are declarations
abbrev pub group_known : Meant → Bool → Around → Path → List (List Entry) → Group → Group
group_known meant l ar p ess g = group_rounds meant l ar p ess (count ess) g

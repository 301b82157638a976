-- The declarations of a group where they stand: each scope has the list of what it knows, beside that of its entries.
use Rattle.std.specs.Prelude.{◌≡◌, ℕ, suc, List, [], ◌∷◌, ◌++◌}
use Rattle.sv_names.specs.declared.around.ClassInfo.{ClassInfo}
use Rattle.sv_names.specs.declared.named.Known.{Known}
use Rattle.sv_names.specs.Entries.{kind_of}
use Rattle.sv_names.specs.Rounds.{Row, known_in}
use Rattle.sv_names.specs.Groups.{Group}
use Rattle.sv_elab_scope.specs.declared.declared.Entry.{Entry}
use Rattle.sv_elab_scope.specs.declared.group.Group as code
use Rattle.sv_elab_scope.specs.Views.{entry_in}

-- a scope with its classes
abbrev pub group_in : code.Group → Group
group_in g = record { scope = g.scope; classes = g.classes }

-- ---- what is known

-- of the members of classes
abbrev pub members_known : List ClassInfo → List (List Known)
members_known [] = []
members_known (c ∷ cs) = c.scope.known ∷ members_known cs

-- of the scope itself, and of the members of each class
abbrev pub all_known : Group → List (List Known)
all_known g = g.scope.known ∷ members_known g.classes

-- ---- rows

-- a declaration with what its name stands for so far
abbrev pub row_of : ℕ → Entry → Known → Row
row_of h e k = record { home = h; entry = entry_in e; value = k.value }

-- the declarations of a scope
abbrev pub rows_at : ℕ → List Entry → List Known → List Row
rows_at h [] ks = []
rows_at h (e ∷ es) [] = []
rows_at h (e ∷ es) (k ∷ ks) = row_of h e k ∷ rows_at h es ks

-- those of several scopes, numbered from here on
abbrev pub rows_from : ℕ → List (List Entry) → List (List Known) → List Row
rows_from h [] kss = []
rows_from h (es ∷ more) [] = []
rows_from h (es ∷ more) (ks ∷ kss) = rows_at h es ks ++ rows_from (suc h) more kss

-- those of a group
abbrev pub all_rows : List (List Entry) → Group → List Row
all_rows ess g = rows_from 0 ess (all_known g)

-- ---- what is known is of the entries

-- in order, in one scope
abbrev pub Agree : List Entry → List Known → Type 0
Agree [] [] = Unit {0}
Agree [] (k ∷ ks) = ⊥
Agree (e ∷ es) [] = ⊥
Agree (e ∷ es) (k ∷ ks) = (k.name ≡ e.name.now) × (k.kind ≡ kind_of (entry_in e).what) × Agree es ks

-- so it is in each
abbrev pub AllAgree : List (List Entry) → List (List Known) → Type 0
AllAgree [] [] = Unit {0}
AllAgree [] (ks ∷ kss) = ⊥
AllAgree (es ∷ more) [] = ⊥
AllAgree (es ∷ more) (ks ∷ kss) = Agree es ks × AllAgree more kss

-- ---- a group over rows

-- the classes over what is known of their members
abbrev pub classes_over : ℕ → List Row → List ClassInfo → List ClassInfo
classes_over h rs [] = []
classes_over h rs (c ∷ cs) = record c { scope = record c.scope { known = known_in h rs } } ∷ classes_over (suc h) rs cs

-- a group over what is known
abbrev pub group_over : Group → List Row → Group
group_over g rs = record { scope = record g.scope { known = known_in 0 rs }; classes = classes_over 1 rs g.classes }

-- The scope of a unit or of the files, settled together with those of its classes (IEEE 1800-2017, 8.13 and 23.9).
use Rattle.std.specs.Prelude.{ℕ, zero, suc, ◌+◌, Bool, true, false, not, ◌&&◌, ◌||◌, List, [], ◌∷◌, ◌++◌, length, Option, Some, None, if◌then◌else◌, map}
use Rattle.sv_tree.specs.declared.word.Name.{Name}
use Rattle.sv_tree.specs.Classes as tree_class
use Rattle.sv_tree.specs.Items as tree_item
use Rattle.sv_tree.specs.Items.{Item}
use Rattle.sv_names.specs.declared.around.ClassInfo.{ClassInfo}
use Rattle.sv_names.specs.declared.checked.Checked.{Checked}
use Rattle.sv_names.specs.declared.scope.Scope.{Scope}
use Rattle.sv_names.specs.declared.named.Named.{Named}
use Rattle.sv_names.specs.Checked.{broken_at, rule, fine, ◌where_also◌, fault_of}
use Rattle.sv_names.specs.Types.{Path, same_path, same_bytes, among}
use Rattle.sv_names.specs.Named.{Around, nearest, line_of}
use Rattle.sv_names.specs.Entries.{Declared, Entry, A_class, An_announcement, class_entries, is_constructor}
use Rattle.sv_names.specs.Rounds.{Row, rows_of, known_in, settled}
use Rattle.sv_names.specs.Scopes.{scope_of, value_of_any}

-- ---- bases

-- a class as it is written, with the base that its name stands for
pub record Head : Type 0 where
  pub path : Path
  pub tree : tree_class.Class
  pub raw : Option Path
  -- what the name of the base breaks
  pub stands : Checked (Unit {0})

-- the class that a declaration of this name is, if it is one of this name
abbrev pub class_of_entry : List ℕ → Entry → Option (Option Path)
class_of_entry x e = if same_bytes x e.name.text then of_what e.what else None
  where
    of_what : Declared → Option (Option Path)
    of_what An_announcement = None
    of_what (A_class p) = Some (Some p)
    of_what d = Some None

-- the first declaration of a name, and the class that it is
abbrev pub class_among : List ℕ → List Entry → Option (Option Path)
class_among x [] = None
class_among x (e ∷ es) = nearest (class_of_entry x e) (class_among x es)

-- the class that the name of a base stands for
abbrev pub raw_base : List Entry → List Entry → Option Name → Option Path
raw_base own outer None = None
raw_base own outer (Some n) = the_class (nearest (class_among n.text own) (class_among n.text outer))
  where
    the_class : Option (Option Path) → Option Path
    the_class None = None
    the_class (Some c) = c

-- E6, E33: a class extends no class
abbrev pub base_stands : List Entry → List Entry → Option Name → Checked (Unit {0})
base_stands own outer None = fine
base_stands own outer (Some n) = told (nearest (class_among n.text own) (class_among n.text outer))
  where
    of_class : Option Path → Checked (Unit {0})
    of_class None = broken_at 33 n.at
    of_class (Some p) = fine

    told : Option (Option Path) → Checked (Unit {0})
    told None = broken_at 6 n.at
    told (Some c) = of_class c

-- the classes that items declare
abbrev pub heads_of : Path → List Entry → List Entry → List Item → List Head
heads_of p own outer [] = []
heads_of p own outer (tree_item.Class c ∷ is) =
    record { path = p ++ c.name.text ∷ []; tree = c; raw = raw_base own outer c.base; stands = base_stands own outer c.base }
    ∷ heads_of p own outer is
heads_of p own outer (i ∷ is) = heads_of p own outer is

-- the base of a class
abbrev pub raw_of : Path → List Head → Option Path
raw_of p [] = None
raw_of p (h ∷ hs) = if same_path p h.path then h.raw else raw_of p hs

-- whether a class is met on the way through the bases
abbrev pub is_met : ℕ → List Head → Path → Option Path → Bool
is_met zero hs p q = false
is_met (suc n) hs p None = false
is_met (suc n) hs p (Some q) = same_path p q || is_met n hs p (raw_of q hs)

-- whether a class extends itself
abbrev pub is_cyclic : List Head → Head → Bool
is_cyclic hs h = is_met (length hs + 1) hs h.path h.raw

-- the base of a class that does not extend itself
abbrev pub base_in : List Head → Head → Option Path
base_in hs h = if is_cyclic hs h then None else h.raw

-- E33: or itself through others
abbrev pub not_cyclic : List Head → Head → Checked (Unit {0})
not_cyclic hs h = at_base h.tree.base
  where
    at_base : Option Name → Checked (Unit {0})
    at_base None = fine
    at_base (Some n) = rule 33 n.at (is_cyclic hs h)

-- E6, E33: what the base of a class breaks
abbrev pub base_rules : List Head → Head → Checked (Unit {0})
base_rules hs h = h.stands where_also not_cyclic hs h

-- ---- virtual methods

-- a further virtual method that an item declares
abbrev pub virtual_name : List (List ℕ) → tree_class.ClassItem → List (List ℕ)
virtual_name slots (tree_class.Method m) =
    if m.qualifiers.is_virtual && not (is_constructor m.routine.head) && not (among m.routine.head.name.text slots)
    then m.routine.head.name.text ∷ []
    else []
virtual_name slots (tree_class.Pure m) = if among m.head.name.text slots then [] else m.head.name.text ∷ []
virtual_name slots i = []

-- the slots with those of further items
abbrev pub slots_over : List (List ℕ) → List tree_class.ClassItem → List (List ℕ)
slots_over slots [] = slots
slots_over slots (i ∷ is) = slots_over (slots ++ virtual_name slots i) is

-- the class of a path
abbrev pub head_in : Path → List Head → Option Head
head_in p [] = None
head_in p (h ∷ hs) = if same_path p h.path then Some h else head_in p hs

-- the slots of a class outside
abbrev pub slots_known : List ClassInfo → Path → List (List ℕ)
slots_known [] p = []
slots_known (k ∷ ks) p = if same_path p k.path then k.slots else slots_known ks p

-- the slots of a class of the group, or of one outside
abbrev pub over_base : (Head → List (List ℕ)) → List (List ℕ) → Option Head → List (List ℕ)
over_base go known None = known
over_base go known (Some h) = go h

-- those of the bases first
abbrev pub slots_of : ℕ → List ClassInfo → List Head → Option Path → List (List ℕ)
slots_of zero ks hs p = []
slots_of (suc n) ks hs None = []
slots_of (suc n) ks hs (Some p) =
    over_base (λ h. slots_over (slots_of n ks hs (base_in hs h)) h.tree.items) (slots_known ks p) (head_in p hs)

-- ---- groups

-- a scope with its classes
pub record Group : Type 0 where
  pub scope : Scope
  pub classes : List ClassInfo

-- a class over what is known of its members
abbrev pub info_of : Around → List Head → List Row → ℕ → Head → ClassInfo
info_of ar hs rs home h =
    record {
      path = h.path;
      name = h.tree.name;
      is_virtual = h.tree.is_virtual;
      base = base_in hs h;
      base_fault = fault_of (base_rules hs h);
      scope = scope_of h.path (Some h.path) false (known_in home rs);
      slots = slots_of (length hs + 1) ar.classes hs (Some h.path);
    }

-- the classes of a group
abbrev pub infos_from : Around → List Head → List Row → ℕ → List Head → List ClassInfo
infos_from ar hs rs home [] = []
infos_from ar hs rs home (h ∷ more) = info_of ar hs rs home h ∷ infos_from ar hs rs (suc home) more

-- the members of the classes, as declarations to be settled
abbrev pub class_rows : ℕ → List Head → List Row
class_rows home [] = []
class_rows home (h ∷ hs) = rows_of home (class_entries h.path h.tree) ++ class_rows (suc home) hs

-- a group over what is known
abbrev pub group_of : Around → Path → List Head → List Row → Group
group_of ar p hs rs = record { scope = scope_of p None false (known_in 0 rs); classes = infos_from ar hs rs 1 hs }

-- in the scope of the unit, and in that of a class with its bases
abbrev pub in_group : Group → Around → Around
in_group g ar = record ar { scopes = g.scope ∷ ar.scopes; classes = ar.classes ++ g.classes }

-- in the scope of a class, which has the members of its bases
abbrev pub in_class : Path → Around → Around
in_class k ar =
    record ar { scopes = map (λ c. c.scope) (line_of ar.classes k) ++ ar.scopes; class = Some k; is_automatic = true }

-- the scope that a declaration stands in
abbrev pub home_of : ℕ → List ClassInfo → Around → Around × Path → Around × Path
home_of zero ks ar here = here
home_of (suc n) [] ar here = here
home_of (suc zero) (k ∷ ks) ar here = (in_class k.path ar, k.path)
home_of (suc (suc n)) (k ∷ ks) ar here = home_of (suc n) ks ar here

-- a declaration over what is known
abbrev pub evaluated : (is_last : Bool) → Path → Group × Around → Row → Checked Named
evaluated l p g r = by (home_of r.home g.0.classes g.1 (g.1, p))
  where
    by : Around × Path → Checked Named
    by h = value_of_any l h.0 h.1 r.entry r.entry.what

-- a group, and what is seen in it
abbrev pub with_around : Around → Group → Group × Around
with_around ar g = (g, in_group g ar)

-- a group with all that it declares
abbrev pub settled_group : Around → Path → List Entry → List Head → Group
settled_group ar p es hs =
    group_of ar p hs
    (settled (λ rs. with_around ar (group_of ar p hs rs)) (evaluated false p) (evaluated true p)
    (rows_of 0 es ++ class_rows 1 hs))

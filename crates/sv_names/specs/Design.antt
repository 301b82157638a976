-- The flat design of a list of units, or the first broken rule.
use Rattle.std.specs.Prelude.{ℕ, suc, ◌+◌, Bool, true, false, not, ◌&&◌, ◌||◌, List, [], ◌∷◌, ◌++◌, length, Option, Some, None, if◌then◌else◌, ◌==◌, ◌-◌, ◌^◌, min, drop, replicate, map, flat_map, filter, nat_lt, slice_get}
use Rattle.sv_value.specs.declared.number.ObjId.{ObjId}
use Rattle.sv_value.specs.declared.number.ClassId.{ClassId}
use Rattle.sv_value.specs.declared.number.RoutineId.{RoutineId}
use Rattle.sv_flat.specs.declared.design.Scale.{Scale}
use Rattle.sv_flat.specs.declared.design.Parts.{Parts}
use Rattle.sv_flat.specs.declared.design.Instance.{Instance}
use Rattle.sv_flat.specs.declared.class.Class.{Class}
use Rattle.sv_flat.specs.declared.class.Routine.{Routine}
use Rattle.sv_flat.specs.declared.clocking.Clocking.{Clocking}
use Rattle.sv_flat.specs.declared.object.Object.{Object}
use Rattle.sv_flat.specs.declared.object.ObjectKind.{ObjectKind}
use Rattle.sv_flat.specs.declared.object.ObjectKind.TheVariants as object_kind
use Rattle.sv_flat.specs.declared.process.Process.{Process}
use Rattle.sv_flat.specs.declared.process.ProcessKind.{ProcessKind}
use Rattle.sv_flat.specs.declared.process.ProcessKind.TheVariants as process_kind
use Rattle.sv_flat.specs.declared.process.Watch.{Watch}
use Rattle.sv_flat.specs.declared.stmt.Stmt.{Stmt}
use Rattle.sv_flat.specs.declared.target.Lvalue.{Lvalue}
use Rattle.sv_flat.specs.Expr as flat_expr
use Rattle.sv_flat.specs.Names.{reached}
use Rattle.sv_flat.specs.Process.{routine_of}
use Rattle.sv_tree.specs.declared.token.Timescale.{Timescale}
use Rattle.sv_tree.specs.declared.word.Name.{Name}
use Rattle.sv_tree.specs.Items as tree_item
use Rattle.sv_tree.specs.Items.{Item}
use Rattle.sv_tree.specs.Descriptions.{Description}
use Rattle.sv_names.specs.declared.around.ClassInfo.{ClassInfo}
use Rattle.sv_names.specs.declared.checked.Checked.{Checked}
use Rattle.sv_names.specs.declared.checked.Checked.TheVariants.{Good}
use Rattle.sv_names.specs.declared.checked.Fault.{Fault}
use Rattle.sv_names.specs.Checked.{◌▷◌, given, rule, fine, ◌where_also◌, each, all, fault_of, value_if}
use Rattle.sv_names.specs.Types.{Path, Numbers, same_path, position_of}
use Rattle.sv_names.specs.Named.{Around, is_derived}
use Rattle.sv_names.specs.Groups.{Group}
use Rattle.sv_names.specs.Watched.{operands_of, targets_of, is_written, object_of, on_change}
use Rattle.sv_names.specs.Subroutines.{MadeSubroutine}
use Rattle.sv_names.specs.Clockings.{MadeClocking, times_in}
use Rattle.sv_names.specs.Writers.{writers_stand}
use Rattle.sv_names.specs.Sources
use Rattle.sv_names.specs.Sources.{Met, met, met_outside, limits_stand, initialized}
use Rattle.sv_names.specs.Instances.{Walked, Enter, Meet, roots, some_root, first_place, walked, file_group, file_around, outside}
use Rattle.sv_names.specs.Connections.{Made}
use Rattle.sv_names.specs.Items.{around_inst, walked_parts, file_parts, GivenParts}

-- ---- the time scale (E54)

-- 1ns/1ns
abbrev pub default_scale : Scale
default_scale = record { unit = 6; precision = 6 }

-- the first of the time scales
abbrev pub scale_of : List Timescale → Scale
scale_of [] = default_scale
scale_of (t ∷ ts) = record { unit = t.unit; precision = t.precision }

-- two time scales differ
abbrev pub differs : Timescale → Timescale → Checked (Unit {0})
differs t u = rule 54 u.at (not ((t.unit == u.unit) && (t.precision == u.precision)))

-- a precision is no larger than its unit, and all scales are equal
abbrev pub scales_agree : List Timescale → Checked (Unit {0})
scales_agree [] = fine
scales_agree (t ∷ ts) =
    all (λ u. rule 54 u.at (nat_lt u.unit u.precision)) (t ∷ ts) where_also all (differs t) ts

-- ---- the parts of a design, one after another

-- what stands so far of a design
pub record SoFar : Type 0 where
  pub objects : List Object
  pub samples : List Object
  pub processes : List Process
  pub classes : List Class
  pub subroutines : List Routine
  -- what the statements of subroutines and processes add, behind the places of all subroutines
  pub routines : List Routine
  pub clockings : List Clocking
  -- the nets that are driven, each as often as it has drivers
  pub drives : List Path

-- the place of a subroutine, which comes in its stead at the end
abbrev pub no_routine : Routine
no_routine = record { at = first_place; body = []; subroutine = None }

-- before all items, where so many subroutines are to come
abbrev pub none_so_far : ℕ → SoFar
none_so_far n =
    record {
      objects = [];
      samples = [];
      processes = [];
      classes = [];
      subroutines = [];
      routines = replicate n no_routine;
      clockings = [];
      drives = [];
    }

-- a subroutine
abbrev pub with_subroutine : SoFar → MadeSubroutine → SoFar
with_subroutine s m =
    record s {
      subroutines = s.subroutines ++ (m.routine.make (length s.routines)).0 ∷ [];
      routines = s.routines ++ (m.routine.make (length s.routines)).1;
    }

-- a process, with the drivers behind those before
abbrev pub with_process : SoFar → Made → SoFar
with_process s m =
    record s {
      processes = s.processes ++ ((m.make s.drives).make (length s.routines)).0 ∷ [];
      routines = s.routines ++ ((m.make s.drives).make (length s.routines)).1;
      drives = s.drives ++ m.drives;
    }

-- a clocking block, with the drivers behind those before
abbrev pub with_clocking : SoFar → MadeClocking → SoFar
with_clocking s m =
    record s {
      samples = s.samples ++ m.samples;
      clockings = s.clockings ++ m.clocking s.drives ∷ [];
      drives = s.drives ++ m.drives;
    }

-- one after another
abbrev pub with_each : {A : Type 0} → (SoFar → A → SoFar) → SoFar → List A → SoFar
with_each f s [] = s
with_each f s (x ∷ xs) = with_each f (f s x) xs

-- what an item gives
abbrev pub with_given : SoFar → GivenParts → SoFar
with_given s g =
    with_each with_clocking
    (with_each with_process
    (with_each with_subroutine
    (record s { objects = s.objects ++ g.objects; classes = s.classes ++ g.classes })
    g.subroutines)
    g.processes)
    g.clockings

-- each net with the number of its drivers
abbrev pub with_drivers : List Path → Object → Object
with_drivers ds o = record o { kind = of_kind o.kind }
  where
    of_kind : ObjectKind → ObjectKind
    of_kind (object_kind.Net n) = object_kind.Net (times_in o.path ds)
    of_kind other = other

-- the instances in the order of the walk
abbrev pub instance_of : Walked → List Instance
instance_of (Enter i) = record { path = i.path; is_program = i.unit.is_program } ∷ []
instance_of _ = []

-- the subroutines come first, so many, then what their statements and those of processes add
abbrev pub parts_from : Scale → List Instance → ℕ → SoFar → Parts
parts_from s is n x =
    record {
      objects = map (with_drivers x.drives) (x.objects ++ x.samples);
      processes = x.processes;
      classes = x.classes;
      routines = x.subroutines ++ drop n x.routines;
      clockings = x.clockings;
      instances = is;
      scale = s;
    }

-- what all items give
abbrev pub all_parts : List GivenParts → GivenParts
all_parts gs =
    record {
      objects = flat_map (λ g. g.objects) gs;
      processes = flat_map (λ g. g.processes) gs;
      subroutines = flat_map (λ g. g.subroutines) gs;
      classes = flat_map (λ g. g.classes) gs;
      class_paths = flat_map (λ g. g.class_paths) gs;
      clockings = flat_map (λ g. g.clockings) gs;
    }

-- ---- what an `always_comb` watches: what it and its functions read, but for what it writes

-- whether a path is that of an instance
abbrev pub is_path_of : Path → List Instance → Bool
is_path_of p [] = false
is_path_of p (i ∷ is) = same_path p i.path || is_path_of p is

-- the path of what stands around
abbrev pub without_last : Path → Path
without_last [] = []
without_last (x ∷ []) = []
without_last (x ∷ y ∷ p) = x ∷ without_last (y ∷ p)

-- whether an object is declared by a unit or a class, and not in a procedure or subroutine
abbrev pub is_outer : Parts → Option ObjId → Bool
is_outer d None = false
is_outer d (Some o) = told (slice_get d.objects o.0)
  where
    told : Option Object → Bool
    told None = false
    told (Some x) = x.is_property || is_path_of (without_last x.path) d.instances

-- what one `always_comb` watches
abbrev pub comb_watches : Parts → Process → List Watch
comb_watches d p =
    let body : RoutineId → List Stmt = λ r. (routine_of d r).body in
    let rs : List RoutineId = reached d p.body in
    let es : List flat_expr.Expr = flat_map (λ r. operands_of body (length d.routines + 1) 0 (body r)) rs in
    let ts : List Lvalue = flat_map (λ r. targets_of body (length d.routines + 1) (body r)) rs in
    map on_change (filter (λ e. is_outer d (object_of e) && not (is_written ts e)) es)

-- a process with what it watches
abbrev pub with_watches : Parts → Process → Process
with_watches d p = by p.kind
  where
    by : ProcessKind → Process
    by process_kind.AlwaysComb = record p { watched = comb_watches d p }
    by k = p

-- the design with what its `always_comb` watch
abbrev pub watching : Parts → Parts
watching d = record d { processes = map (with_watches d) d.processes }

-- ---- numbers

-- the instances that are programs
abbrev pub program_paths : List Instance → List Path
program_paths [] = []
program_paths (i ∷ is) = if i.is_program then i.path ∷ program_paths is else program_paths is

-- the numbers of the classes that are derived from one
abbrev pub derived_ids : ℕ → List ClassInfo → Path → List Path → List ClassId
derived_ids n ks p [] = []
derived_ids n ks p (q ∷ qs) =
    if is_derived ks q p then record { 0 = n } ∷ derived_ids (suc n) ks p qs else derived_ids (suc n) ks p qs

-- the paths of parts, in the order in which they stand in the design
pub record Paths : Type 0 where
  pub objects : List Path
  -- the objects that hold samples, which stand behind all others
  pub samples : List Path
  pub classes : List Path
  pub subroutines : List Path
  pub clockings : List Path

-- those of what is given
abbrev pub paths_of : GivenParts → Paths
paths_of g =
    record {
      objects = map (λ o. o.path) g.objects;
      samples = map (λ o. o.path) (flat_map (λ m. m.samples) g.clockings);
      classes = g.class_paths;
      subroutines = map (λ m. m.path) g.subroutines;
      clockings = map (λ m. m.path) g.clockings;
    }

-- the number of a part is the position of its path
abbrev pub numbers_of : List Instance → List ClassInfo → Paths → Numbers
numbers_of is ks ps =
    record {
      object = λ p. record { 0 = position_of 0 p (ps.objects ++ ps.samples) };
      class = λ p. record { 0 = position_of 0 p ps.classes };
      derived = λ p. derived_ids 0 ks p ps.classes;
      subroutine = λ p. record { 0 = position_of 0 p ps.subroutines };
      clocking = λ p. record { 0 = position_of 0 p ps.clockings };
      program = λ p. min (position_of 0 p (program_paths is)) (2 ^ 32 - 1);
    }

-- names in a scope
abbrev pub within : Path → List Name → List Path
within p ns = map (λ n. p ++ n.text ∷ []) ns

-- the objects that a unit declares: its ports, its variables and its nets
abbrev pub declared_objects : Walked → List Path
declared_objects (Enter i) = within i.path (map (λ p. p.name) i.unit.element.ports)
declared_objects (Meet i b (tree_item.Decl d)) = within i.path (map (λ x. x.name) d.names)
declared_objects (Meet i b (tree_item.Net n)) = within i.path (map (λ x. x.name) n.names)
declared_objects w = []

-- the subroutine that an item of a scope is
abbrev pub declared_subroutines : Path → Item → List Path
declared_subroutines p (tree_item.Routine r) = within p (r.head.name ∷ [])
declared_subroutines p i = []

-- those of what is met on the walk
abbrev pub walked_subroutines : Walked → List Path
walked_subroutines (Meet i b item) = declared_subroutines i.path item
walked_subroutines w = []

-- the paths that parts have where no class, no clocking block and no static variable of a procedure or subroutine is declared
abbrev pub foreseen : List Description → List Walked → Paths
foreseen us ws =
    record {
      objects = flat_map declared_objects ws;
      samples = [];
      classes = [];
      subroutines = flat_map (declared_subroutines []) (outside us) ++ flat_map walked_subroutines ws;
      clockings = [];
    }

-- two lists have the same paths
abbrev pub same_list : List Path → List Path → Bool
same_list [] [] = true
same_list (p ∷ ps) (q ∷ qs) = same_path p q && same_list ps qs
same_list ps qs = false

-- parts have the same paths, and so the same numbers
abbrev pub same_paths : Paths → Paths → Bool
same_paths ps qs =
    same_list ps.objects qs.objects && same_list ps.samples qs.samples && same_list ps.classes qs.classes
    && same_list ps.subroutines qs.subroutines && same_list ps.clockings qs.clockings

-- before there are numbers; no rule looks at them
abbrev pub no_numbers : Numbers
no_numbers =
    record {
      object = λ p. record { 0 = 0 };
      class = λ p. record { 0 = 0 };
      derived = λ p. [];
      subroutine = λ p. record { 0 = 0 };
      clocking = λ p. record { 0 = 0 };
      program = λ p. 0;
    }

-- ---- the definition of elaboration

-- what the items on the walk and outside units give
abbrev pub given_parts : List Description → Around → Group → List Walked → Checked (List GivenParts)
given_parts us files g ws = each (λ c. c) (file_parts us files g ++ map (walked_parts us files) ws)

-- all classes of the design
abbrev pub class_infos : Group → List Walked → List ClassInfo
class_infos g ws = g.classes ++ flat_map of_walked ws
  where
    of_walked : Walked → List ClassInfo
    of_walked (Enter i) = i.group.classes
    of_walked w = []

-- what all items give with these numbers
abbrev pub given_by : Scale → List Description → Group → List Walked → Paths → Checked (List GivenParts)
given_by s us g ws ps = given_parts us (file_around (numbers_of (flat_map instance_of ws) (class_infos g ws) ps) s g) g ws

-- the design of what is given, behind so many places of subroutines
abbrev pub finished : Scale → List Walked → ℕ → List GivenParts → Parts
finished s ws n gs =
    watching (parts_from s (flat_map instance_of ws) n (with_each with_given (none_so_far n) gs))

-- with the numbers that the parts have which were given first
abbrev pub numbered : Scale → List Description → Group → List Walked → Paths → Checked Parts
numbered s us g ws ps = given (finished s ws (length ps.subroutines)) (given_by s us g ws ps)

-- what is given by the numbers that are foreseen stands where the parts have these paths; else all is given once more
abbrev pub numbered_well : Scale → List Description → Group → List Walked → Paths → List GivenParts → Checked Parts
numbered_well s us g ws ps gs =
    if same_paths ps (paths_of (all_parts gs)) then Good (finished s ws (length ps.subroutines) gs)
    else numbered s us g ws (paths_of (all_parts gs))

-- what is met on the walk, and outside units
abbrev pub all_met : List Description → Around → Group → List Walked → List Met
all_met us files g ws = map (met_outside files g) (outside us) ++ map (met (around_inst us files)) ws

-- E20, E22, E23, E44: the rules on writers and limits, over what is met
abbrev pub met_stand : Group → List Walked → List Met → Checked (Unit {0})
met_stand g ws ms =
    writers_stand (class_infos g ws) (flat_map (λ m. m.table) ms) (Sources.numbered 0 (flat_map (λ m. m.processes) ms))
    (flat_map initialized ws)
    where_also limits_stand ms

-- the flat design of what is walked
abbrev pub design_over : Scale → List Description → Group → List Walked → Checked Parts
design_over s us g ws =
    (given_by s us g ws (foreseen us ws) where_also met_stand g ws (all_met us (file_around no_numbers s g) g ws))
    ▷ numbered_well s us g ws (foreseen us ws)

-- the flat design over the scope of the files
abbrev pub with_files : Scale → List Description → Option (List ℕ) → Group → Checked Parts
with_files s us top g = design_over s us g (walked us (file_around no_numbers s g) top)

-- the flat design, or the first broken rule
abbrev pub elaborated : List Description → List Timescale → Option (List ℕ) → Checked Parts
elaborated us scales top =
    with_files (scale_of scales) us top (file_group no_numbers (scale_of scales) us)
    where_also scales_agree scales
    where_also some_root (roots us top)

-- the first broken rule
abbrev pub broken : List Description → List Timescale → Option (List ℕ) → Option Fault
broken us scales top = fault_of (elaborated us scales top)

-- the flat design where no rule is broken
abbrev pub flat : List Description → List Timescale → Option (List ℕ) → Option Parts
flat us scales top = value_if (elaborated us scales top)

-- Who writes what: the rules on writers, over targets and calls alone, so that they hold beside other broken rules
-- (IEEE 1800-2017, 6.5, 9.2.2 and 10.3).
use Rattle.std.specs.Prelude.{ℕ, zero, suc, Bool, true, false, not, ◌&&◌, ◌||◌, List, [], ◌∷◌, ◌++◌, length, Option, Some, None, if◌then◌else◌, ◌==◌, nat_lt, flat_map, filter}
use Rattle.sv_value.specs.declared.place.Place.{Place}
use Rattle.sv_tree.specs.declared.word.Name.{Name}
use Rattle.sv_tree.specs.declared.word.ProcedureWord.{ProcedureWord}
use Rattle.sv_tree.specs.declared.word.ProcedureWord.TheVariants as procedure
use Rattle.sv_tree.specs.declared.expr.Root.{Root}
use Rattle.sv_tree.specs.Expr as tree
use Rattle.sv_tree.specs.Expr.{place_of_root}
use Rattle.sv_tree.specs.Stmt as tree_stmt
use Rattle.sv_names.specs.declared.typed.How.{How}
use Rattle.sv_names.specs.declared.typed.How.TheVariants.{Statement as By_statement, Nonblocking}
use Rattle.sv_names.specs.declared.around.ClassInfo.{ClassInfo}
use Rattle.sv_names.specs.declared.checked.Checked.{Checked}
use Rattle.sv_names.specs.declared.checked.Checked.TheVariants.{Good, Broken}
use Rattle.sv_names.specs.declared.ty.Ty.{Ty}
use Rattle.sv_names.specs.declared.ty.Ty.TheVariants.{Class, Nothing}
use Rattle.sv_names.specs.declared.typed.Typed.{Typed}
use Rattle.sv_names.specs.declared.scope.Scope.{Scope}
use Rattle.sv_names.specs.declared.named.Named.{Named}
use Rattle.sv_names.specs.declared.named.Named.TheVariants.{Variable, Local, Net, Input, Property, StaticProperty, Itself}
use Rattle.sv_names.specs.declared.named.Callee.{Callee}
use Rattle.sv_names.specs.declared.named.Formal.{Formal}
use Rattle.sv_names.specs.declared.typed.Begin.{Begin}
use Rattle.sv_names.specs.declared.typed.Begin.TheVariants.{Variable as A_variable, StaticProperty as A_static_property}
use Rattle.sv_names.specs.Checked.{given, rule, ◌where_also◌, all, place_before, same_place}
use Rattle.sv_names.specs.Types.{Path, same_path, has_path, is_fixed, size_of_type}
use Rattle.sv_names.specs.Named.{Around, meaning, is_derived, result_named}
use Rattle.sv_names.specs.Targets.{Spot, type_of_target}
use Rattle.sv_names.specs.declared.method.Action.{Action}
use Rattle.sv_names.specs.declared.method.Action.TheVariants as action
use Rattle.sv_names.specs.Calls.{is_output}
use Rattle.sv_names.specs.Things.{Thing, A_subroutine, A_method, Its_result, root_thing, dollar_in}
use Rattle.sv_names.specs.declared.system.System.{System}
use Rattle.sv_names.specs.declared.system.System.TheVariants as system
use Rattle.sv_names.specs.Expressions.{things, target, target_in, before_select, as_expr, with_dollar, system_of}
use Rattle.sv_names.specs.Blocks.{inner_scope, inside, first_name, after_scopes, scopes_made}
use Rattle.sv_names.specs.Statements.{block_entries, for_entries, foreach_entries, walked_array, automatic_loop}
use Rattle.sv_names.specs.Subroutines.{constructor_path}

-- ---- what a statement writes and calls

-- what a statement does to the design
pub data Touch : Type 0 where
  Writes : (at : Place) → (object : Path) → Touch
  Calls : (subroutine : Path) → Touch
  -- a virtual method of a class
  Calls_virtual : (class : Path) → (name : List ℕ) → Touch
  -- so many objects and elements of fixed arrays
  Declares : (at : Place) → (objects : ℕ) → (elements : ℕ) → Touch

-- the object that a target is of
abbrev pub written_by : Place → Begin → List Touch
written_by at (A_variable p) = Writes at p ∷ []
written_by at (A_static_property p) = Writes at p ∷ []
written_by at b = []

-- the objects of a target
abbrev pub spot_touches : List Spot → List Touch
spot_touches ss = flat_map (λ s. written_by s.0 s.1.target.begins) ss

-- the object before a broken select
abbrev pub selected_touches : Place → Option Typed → List Touch
selected_touches at None = []
selected_touches at (Some t) = written_by at t.target.begins

-- a target that is no concatenation, also where one of its selects breaks a rule
abbrev pub part_touches : How → Around → Root → tree.Suffixes → List Touch
part_touches h ar r s = by (target_in h ar (tree.Post r s))
  where
    by : Option (Checked (List Spot)) → List Touch
    by None = []
    by (Some (Good ss)) = spot_touches ss
    by (Some (Broken f)) = selected_touches (place_of_root r) (before_select ar (place_of_root r) (root_thing ar r) s)

abbrev mutual
  -- a target
  pub target_touches : How → Around → tree.Expr → List Touch
  target_touches h ar (tree.Post r s) = part_touches h ar r s
  target_touches h ar (tree.Join at es) = targets_touches h ar es
  target_touches h ar e = []

  -- the parts of a concatenation, whichever of them break a rule
  pub targets_touches : How → Around → tree.Exprs → List Touch
  targets_touches h ar tree.NoExpr = []
  targets_touches h ar (tree.AndExpr e es) = target_touches h ar e ++ targets_touches h ar es

-- ---- calls

-- the subroutine that is called; a virtual one, or what overrides it
abbrev pub callee_touches : Callee → Option Typed → Bool → List Touch
callee_touches c None direct = Calls c.path ∷ []
callee_touches c (Some o) direct = by o.ty
  where
    by : Ty → List Touch
    by (Class p) =
        Calls c.path ∷ (if c.is_virtual && not direct && not c.is_static then Calls_virtual p c.name.text ∷ [] else [])
    by t = Calls c.path ∷ []

-- the targets among the arguments
abbrev pub output_touches : Around → List Formal → tree.Exprs → List Touch
output_touches ar [] es = []
output_touches ar (f ∷ fs) tree.NoExpr = []
output_touches ar (f ∷ fs) (tree.AndExpr e es) =
    (if is_output f.direction then target_touches By_statement ar e else []) ++ output_touches ar fs es

-- the first argument as a target
abbrev pub first_target : Around → tree.Exprs → List Touch
first_target ar tree.NoExpr = []
first_target ar (tree.AndExpr e es) = target_touches By_statement ar e

-- a container that a method changes is written
abbrev pub container_touches : Typed → List Touch
container_touches o = written_by o.at o.target.begins

-- what a method of the language writes
abbrev pub action_touches : Around → Action → Typed → tree.Exprs → List Touch
action_touches ar (action.Push e) o es = container_touches o
action_touches ar (action.Pop e) o es = container_touches o
action_touches ar action.Insert o es = container_touches o
action_touches ar action.Delete o es = container_touches o
action_touches ar (action.Walk w) o es = first_target ar es
action_touches ar (action.Get p w) o es = first_target ar es
action_touches ar m o es = []

-- what a call writes and calls
abbrev pub call_touches : Around → Checked Thing → tree.Exprs → List Touch
call_touches ar (Good (A_subroutine c o direct at)) es = callee_touches c o direct ++ output_touches ar c.formals es
call_touches ar (Good (Its_result c o v at)) es = callee_touches c o false ++ output_touches ar c.formals es
call_touches ar (Good (A_method m o at)) es = action_touches ar m.action o es
call_touches ar th es = []

-- the same without brackets
abbrev pub bare_touches : Around → Checked Thing → List Touch
bare_touches ar (Good (Its_result c o v at)) = []
bare_touches ar th = call_touches ar th tree.NoExpr

-- `$cast` writes its first argument
abbrev pub cast_touches : Around → System → tree.Actuals → List Touch
cast_touches ar system.Cast (tree.Written es) = first_target ar es
cast_touches ar s a = []

abbrev mutual
  -- what an expression writes and calls
  pub expr_touches : Around → tree.Expr → List Touch
  expr_touches ar (tree.Group at e) = expr_touches ar e
  expr_touches ar (tree.Post r s) = suffix_touches ar (place_of_root r) (root_thing ar r) s
  expr_touches ar (tree.System n a) = cast_touches ar (system_of n) a ++ actuals_touches ar a
  expr_touches ar (tree.SuperNew at new a) = actuals_touches ar a
  expr_touches ar (tree.Join at es) = exprs_touches ar es
  expr_touches ar (tree.Repeat at n inner es) = exprs_touches ar es
  expr_touches ar (tree.Cast c e) = expr_touches ar e
  expr_touches ar (tree.Unary at op e) = expr_touches ar e
  expr_touches ar (tree.Binary op at a b) = expr_touches ar a ++ expr_touches ar b
  expr_touches ar (tree.Choose c a b) = expr_touches ar c ++ expr_touches ar a ++ expr_touches ar b
  expr_touches ar e = []

  -- what arguments write and call, where brackets are written
  pub actuals_touches : Around → tree.Actuals → List Touch
  actuals_touches ar tree.Unwritten = []
  actuals_touches ar (tree.Written es) = exprs_touches ar es

  -- what expressions write and call
  pub exprs_touches : Around → tree.Exprs → List Touch
  exprs_touches ar tree.NoExpr = []
  exprs_touches ar (tree.AndExpr e es) = expr_touches ar e ++ exprs_touches ar es

  -- what follows a name writes and calls
  pub suffix_touches : Around → Place → Checked Thing → tree.Suffixes → List Touch
  suffix_touches ar pe th tree.NoSuffix = bare_touches ar th
  suffix_touches ar pe th (tree.Member n rest) =
      bare_touches ar th ++ suffix_touches ar pe (things ar pe th (tree.Member n tree.NoSuffix)) rest
  suffix_touches ar pe th (tree.Call at es rest) =
      call_touches ar th es ++ exprs_touches ar es
      ++ suffix_touches ar pe (things ar pe th (tree.Call at es tree.NoSuffix)) rest
  suffix_touches ar pe th (tree.Select at i rest) =
      bare_touches ar th ++ expr_touches (with_dollar (dollar_in th) ar) i
      ++ suffix_touches ar pe (things ar pe th (tree.Select at i tree.NoSuffix)) rest
  suffix_touches ar pe th (tree.Part at w l r rest) =
      bare_touches ar th ++ expr_touches ar l
      ++ suffix_touches ar pe (things ar pe th (tree.Part at w l r tree.NoSuffix)) rest

-- of what may be left out
abbrev pub optional_touches : Around → Option tree.Expr → List Touch
optional_touches ar None = []
optional_touches ar (Some e) = expr_touches ar e

-- ---- statements

-- the constructor of the class of a target
abbrev pub new_touches : Checked Ty → List Touch
new_touches (Good (Class p)) = Calls (constructor_path p) ∷ []
new_touches t = []

-- of what is given to a variable
abbrev pub init_touches : Around → Checked Ty → tree_stmt.Init → List Touch
init_touches ar t (tree_stmt.Value e) = expr_touches ar e
init_touches ar t (tree_stmt.New at a) = actuals_touches ar a ++ new_touches t
init_touches ar t (tree_stmt.Copy at n) = []
init_touches ar t (tree_stmt.Array at n o) = expr_touches ar n ++ optional_touches ar o

-- the type that a variable has
abbrev pub variable_type : Named → Ty
variable_type (Variable p t) = t
variable_type (Local u p t) = t
variable_type n = Nothing

-- of one declared variable
abbrev pub declarator_touches : Around → tree_stmt.Declarator → List Touch
declarator_touches ar x = of_init x.init
  where
    of_init : Option tree_stmt.Init → List Touch
    of_init None = []
    of_init (Some i) = init_touches ar (given variable_type (meaning ar x.name)) i

-- of the variables of a block
abbrev pub decls_touches : Around → List tree_stmt.Decl → List Touch
decls_touches ar ds = flat_map (λ d. flat_map (declarator_touches ar) d.names) ds

-- a target, and the calls in its selects
abbrev pub lval_touches : How → Around → tree.Lval → List Touch
lval_touches h ar l = target_touches h ar (as_expr l) ++ expr_touches ar (as_expr l)

-- the last part of a `for`
abbrev pub step_touches : Around → tree_stmt.ForStep → List Touch
step_touches ar (tree_stmt.ForStep.Assign l e) = lval_touches By_statement ar l ++ expr_touches ar e
step_touches ar (tree_stmt.ForStep.Operator a) = lval_touches By_statement ar a.target ++ expr_touches ar a.value
step_touches ar (tree_stmt.ForStep.Step at l w) = lval_touches By_statement ar l

-- of a delay
abbrev pub delay_touches : Around → Option tree_stmt.Delay → List Touch
delay_touches ar None = []
delay_touches ar (Some d) = expr_touches ar d.amount

-- of an event control
abbrev pub event_touches : Around → tree_stmt.Event → List Touch
event_touches ar (tree_stmt.Parts ps) = flat_map (λ p. expr_touches ar p.expr ++ optional_touches ar p.condition) ps
event_touches ar e = []

-- ---- what a scope declares: objects, and elements of fixed arrays

-- the elements of a fixed array
abbrev pub elements_of : Ty → ℕ
elements_of t = if is_fixed t then size_of_type t else 0

-- what a name declares
abbrev pub declares : Place → Checked Named → List Touch
declares at (Good (Variable p t)) = Declares at 1 (elements_of t) ∷ []
declares at (Good (Net p t)) = Declares at 1 0 ∷ []
declares at (Good (Input p n t)) = Declares at 1 0 ∷ []
declares at (Good (StaticProperty k g p t)) = Declares at 1 (elements_of t) ∷ []
declares at (Good (Property k g n t)) = Declares at 0 (elements_of t) ∷ []
declares at (Good (Local u p t)) = Declares at 0 (elements_of t) ∷ []
declares at (Good (Itself c n)) = declares_result (result_named n)
  where
    declares_result : Named → List Touch
    declares_result (Variable p t) = Declares at 1 0 ∷ []
    declares_result n = []
declares at c = []

-- what a scope declares
abbrev pub scope_declares : Scope → List Touch
scope_declares s = flat_map (λ k. declares k.name.at k.value) s.known

-- what the nearest scope declares
abbrev pub nearest_declares : List Scope → List Touch
nearest_declares [] = []
nearest_declares (s ∷ ss) = scope_declares s

-- in a scope, with what it declares
abbrev pub in_scope : Around → (Around → List Touch) → List Touch
in_scope i go = nearest_declares i.scopes ++ go i

abbrev mutual
  -- what a statement writes, calls and declares
  pub stmt_touches : Around → tree_stmt.Stmt → List Touch
  stmt_touches ar (tree_stmt.Statement at label b) = body_touches ar label b

  -- the same of statements
  pub stmts_touches : Around → tree_stmt.Stmts → List Touch
  stmts_touches ar tree_stmt.NoStmt = []
  stmts_touches ar (tree_stmt.AndStmt x xs) = stmt_touches ar x ++ stmts_touches (after_scopes (scopes_made x) ar) xs

  -- the same of the items of a `case`
  pub items_touches : Around → tree_stmt.CaseItems → List Touch
  items_touches ar tree_stmt.NoCaseItem = []
  items_touches ar (tree_stmt.Labels es x rest) =
      exprs_touches ar es ++ stmt_touches ar x ++ items_touches (after_scopes (scopes_made x) ar) rest
  items_touches ar (tree_stmt.Default x rest) =
      stmt_touches ar x ++ items_touches (after_scopes (scopes_made x) ar) rest

  -- the same of a statement without its label
  pub body_touches : Around → Option Name → tree_stmt.Body → List Touch
  body_touches ar label (tree_stmt.Block n ds xs end) =
      in_scope (inside (inner_scope ar (first_name n label) (block_entries ar ds xs)) ar)
      (λ i. decls_touches i ds ++ stmts_touches i xs)
  body_touches ar label (tree_stmt.Fork n ds xs j end) =
      in_scope (inside (inner_scope ar (first_name n label) (block_entries ar ds xs)) ar)
      (λ i. decls_touches i ds ++ stmts_touches i xs)
  body_touches ar label (tree_stmt.Blocking a) =
      lval_touches By_statement ar a.target ++ delay_touches ar a.delay
      ++ init_touches ar (given type_of_target (target By_statement ar a.target)) a.value
  body_touches ar label (tree_stmt.Nonblocking a) =
      lval_touches Nonblocking ar a.target ++ delay_touches ar a.delay ++ expr_touches ar a.value
  body_touches ar label (tree_stmt.Body.Operator a) = lval_touches By_statement ar a.target ++ expr_touches ar a.value
  body_touches ar label (tree_stmt.Body.Step l w) = lval_touches By_statement ar l
  body_touches ar label (tree_stmt.Call e) = expr_touches ar e
  body_touches ar label (tree_stmt.Ignore p e) = expr_touches ar e
  body_touches ar label (tree_stmt.If e x) = expr_touches ar e ++ stmt_touches ar x
  body_touches ar label (tree_stmt.IfElse e x y) =
      expr_touches ar e ++ stmt_touches ar x ++ stmt_touches (after_scopes (scopes_made x) ar) y
  body_touches ar label (tree_stmt.Case w e is) = expr_touches ar e ++ items_touches ar is
  body_touches ar label (tree_stmt.For (tree_stmt.Declare w n v) e l x) =
      in_scope (inside (inner_scope (automatic_loop ar) None (for_entries w n x)) ar)
      (λ i. expr_touches i v ++ expr_touches i e ++ step_touches i l ++ stmt_touches i x)
  body_touches ar label (tree_stmt.For (tree_stmt.ForInit.Assign t v) e l x) =
      lval_touches By_statement ar t ++ expr_touches ar v ++ expr_touches ar e ++ step_touches ar l ++ stmt_touches ar x
  body_touches ar label (tree_stmt.While e x) = expr_touches ar e ++ stmt_touches ar x
  body_touches ar label (tree_stmt.Do x e) = stmt_touches ar x ++ expr_touches ar e
  body_touches ar label (tree_stmt.Repeat e x) = expr_touches ar e ++ stmt_touches ar x
  body_touches ar label (tree_stmt.Forever x) = stmt_touches ar x
  body_touches ar label (tree_stmt.Foreach a i x) =
      in_scope (inside (inner_scope ar None (foreach_entries (walked_array ar a) i x)) ar) (λ j. stmt_touches j x)
  body_touches ar label (tree_stmt.After d x) = expr_touches ar d.amount ++ stmt_touches ar x
  body_touches ar label (tree_stmt.On e x) = event_touches ar e ++ stmt_touches ar x
  body_touches ar label (tree_stmt.Cycles p e x) = expr_touches ar e ++ stmt_touches ar x
  body_touches ar label (tree_stmt.Wait p e x) = expr_touches ar e ++ stmt_touches ar x
  body_touches ar label (tree_stmt.Trigger l) = expr_touches ar (as_expr l)
  body_touches ar label (tree_stmt.Return e) = optional_touches ar e
  body_touches ar label b = []

-- ---- who writes

-- how a process writes
pub data Writer : Type 0 where
  -- an `assign`, a net with a value or a port connection
  Continuously : Writer
  -- an `always_comb` or `always_ff`, which lets no other process write
  Alone : Writer
  Shared : Writer
  -- a subroutine, or the output of a clocking block
  No_process : Writer

-- the touches of a process, each process with a number of its own
pub record Source : Type 0 where
  pub process : ℕ
  pub writer : Writer
  pub touches : List Touch

-- the touches of the subroutines, by their paths
abbrev pub Table : Type 0
Table = List (Path × List Touch)

-- how a procedure writes
abbrev pub writer_of : ProcedureWord → Writer
writer_of procedure.AlwaysComb = Alone
writer_of procedure.AlwaysFf = Alone
writer_of k = Shared

-- an object that a process writes
pub record Write : Type 0 where
  pub at : Place
  pub object : Path
  pub process : ℕ
  pub writer : Writer

-- a write among touches
abbrev pub write_in : ℕ → Writer → Touch → List Write
write_in k w (Writes at p) = record { at = at; object = p; process = k; writer = w } ∷ []
write_in k w t = []

-- the writes of a process itself
abbrev pub writes_of : Source → List Write
writes_of s = flat_map (write_in s.process s.writer) s.touches

-- ---- what is reached through calls

-- the touches of a subroutine
abbrev pub touches_at : Path → Table → List Touch
touches_at p [] = []
touches_at p (e ∷ es) = if same_path p e.0 then e.1 else touches_at p es

-- a virtual method can be that of each class derived
abbrev pub overriding : List ClassInfo → List ClassInfo → Path → List ℕ → List Path
overriding all' [] p x = []
overriding all' (k ∷ ks) p x =
    (if is_derived all' k.path p then (k.path ++ x ∷ []) ∷ [] else []) ++ overriding all' ks p x

-- the subroutines that a touch calls
abbrev pub called_by : List ClassInfo → Touch → List Path
called_by ks (Writes at p) = []
called_by ks (Calls p) = p ∷ []
called_by ks (Calls_virtual p x) = overriding ks ks p x
called_by ks (Declares at o n) = []

-- with further paths, each once
abbrev pub with_new : List Path → List Path → List Path
with_new ps [] = ps
with_new ps (q ∷ qs) = if has_path q ps then with_new ps qs else with_new (ps ++ q ∷ []) qs

-- the subroutines that are reached in so many calls
abbrev pub reached_within : ℕ → List ClassInfo → Table → List Path → List Path
reached_within zero ks t ps = ps
reached_within (suc n) ks t ps =
    reached_within n ks t (with_new ps (flat_map (λ p. flat_map (called_by ks) (touches_at p t)) ps))

-- the writes of a process, those of the subroutines that it can call among them
abbrev pub all_writes : List ClassInfo → Table → Source → List Write
all_writes ks t s =
    writes_of s ++ flat_map (λ p. flat_map (write_in s.process s.writer) (touches_at p t))
    (reached_within (length t) ks t (with_new [] (flat_map (called_by ks) s.touches)))

-- ---- the rules

-- whether it writes again and again
abbrev pub is_continuous : Writer → Bool
is_continuous Continuously = true
is_continuous w = false

-- whether no other process may write
abbrev pub is_alone : Writer → Bool
is_alone Alone = true
is_alone w = false

-- whether one of the writes is such
abbrev pub some : (Write → Bool) → List Write → Bool
some p [] = false
some p (w ∷ ws) = p w || some p ws

-- whether two writes are of one continuous writer
abbrev pub same_continuous : Write → Write → Bool
same_continuous v w = is_continuous v.writer && is_continuous w.writer && (v.process == w.process)

-- E20: a variable has a continuous and a further writer
abbrev pub one_continuous : List Write → Write → Checked (Unit {0})
one_continuous ws w =
    rule 20 w.at (some (λ v.
    (is_continuous v.writer || is_continuous w.writer) && place_before v.at w.at && same_path v.object w.object
    && not (same_continuous v w)) ws)

-- by place, then by number of process
abbrev pub comes_first : Write → Write → Bool
comes_first v w = place_before v.at w.at || (same_place v.at w.at && nat_lt v.process w.process)

-- E22: a second process writes what an `always_comb` or `always_ff` writes
abbrev pub written_alone : List Write → Write → Checked (Unit {0})
written_alone ws w =
    rule 22 w.at (some (λ v.
    (is_alone v.writer || is_alone w.writer) && not (v.process == w.process) && comes_first v w
    && same_path v.object w.object) ws)

-- a variable with an initializer, at its place
abbrev pub Initialized : Type 0
Initialized = Path × Place

-- E23: a continuously written variable has an initializer
abbrev pub not_initialized : List Write → Initialized → Checked (Unit {0})
not_initialized ws i = rule 23 i.1 (some (λ v. is_continuous v.writer && same_path v.object i.0) ws)

-- whether it is a procedure
abbrev pub is_in_process : Source → Bool
is_in_process s = by s.writer
  where
    by : Writer → Bool
    by Alone = true
    by Shared = true
    by w = false

-- the three rules
abbrev pub writers_agree : List Write → List Write → List Initialized → Checked (Unit {0})
writers_agree ws ps is = all (one_continuous ws) ws where_also all (written_alone ps) ps where_also all (not_initialized ws) is

-- the writes of all subroutines, called or not
abbrev pub table_writes : Table → List Write
table_writes t = flat_map (λ e. flat_map (write_in 0 No_process) e.1) t

-- whether there is an `always_comb` or `always_ff`
abbrev pub has_alone : List Source → Bool
has_alone [] = false
has_alone (s ∷ ss) = is_alone s.writer || has_alone ss

-- the writes of all procedures
abbrev pub of_processes : Bool → List ClassInfo → Table → List Source → List Write
of_processes true ks t ss = flat_map (all_writes ks t) (filter is_in_process ss)
of_processes false ks t ss = []

-- the rules on the writers of a design
abbrev pub writers_stand : List ClassInfo → Table → List Source → List Initialized → Checked (Unit {0})
writers_stand ks t ss is =
    writers_agree (flat_map writes_of ss ++ table_writes t) (of_processes (has_alone ss) ks t ss) is

-- Statements with their names resolved (IEEE 1800-2017, 9 to 12): the table of all forms.
use Rattle.std.specs.Prelude.{ℕ, Bool, true, false, not, ◌&&◌, List, [], ◌∷◌, ◌++◌, Option, Some, None, if◌then◌else◌, flat_map}
use Rattle.sv_value.specs.declared.place.Place.{Place}
use Rattle.sv_value.specs.declared.number.RoutineId.{RoutineId}
use Rattle.sv_flat.specs.declared.class.Routine.{Routine}
use Rattle.sv_flat.specs.declared.object.Declared.{Declared}
use Rattle.sv_flat.specs.declared.stmt.Stmt.{Stmt}
use Rattle.sv_flat.specs.declared.stmt.Form.{Form}
use Rattle.sv_flat.specs.declared.stmt.Form.TheVariants as form
use Rattle.sv_flat.specs.declared.stmt.JoinKind.{JoinKind}
use Rattle.sv_flat.specs.declared.stmt.JoinKind.TheVariants as join_kind
use Rattle.sv_flat.specs.declared.target.Lvalue.{Lvalue}
use Rattle.sv_flat.specs.Expr as flat
use Rattle.sv_tree.specs.declared.word.Name.{Name}
use Rattle.sv_tree.specs.declared.word.CaseWord.{CaseWord}
use Rattle.sv_tree.specs.declared.word.JoinWord.{JoinWord}
use Rattle.sv_tree.specs.declared.word.JoinWord.TheVariants as join_word
use Rattle.sv_tree.specs.declared.expr.Root.TheVariants as root
use Rattle.sv_tree.specs.Expr as tree
use Rattle.sv_tree.specs.Expr.{place_of, place_of_root}
use Rattle.sv_tree.specs.Types.{WrittenType}
use Rattle.sv_tree.specs.Stmt as tree_stmt
use Rattle.sv_tree.specs.Stmt.{Decl, CaseItems, ForStep, Event}
use Rattle.sv_names.specs.declared.typed.How.TheVariants.{Statement as By_statement}
use Rattle.sv_names.specs.declared.around.Returns.{Returns}
use Rattle.sv_names.specs.declared.around.Returns.TheVariants.{Outside, NoValue, SomeValue}
use Rattle.sv_names.specs.declared.checked.Checked.{Checked}
use Rattle.sv_names.specs.declared.checked.Checked.TheVariants.{Good, Broken}
use Rattle.sv_names.specs.declared.ty.Ty.{Ty}
use Rattle.sv_names.specs.declared.ty.Ty.TheVariants.{Fixed}
use Rattle.sv_names.specs.declared.hoisted.Hoisted.{Hoisted}
use Rattle.sv_names.specs.declared.typed.Typed.{Typed}
use Rattle.sv_names.specs.declared.scope.Scope.{Scope}
use Rattle.sv_names.specs.declared.named.Known.{Known}
use Rattle.sv_names.specs.declared.named.Named.{Named}
use Rattle.sv_names.specs.declared.named.Named.TheVariants.{Itself}
use Rattle.sv_names.specs.Checked.{both, ◌▷◌, given, broken_at, rule, ◌where_also◌, only}
use Rattle.sv_names.specs.Types.{Path, is_array, is_event, data_of, same_path, key_of}
use Rattle.sv_names.specs.Hoisted.{pure, mapped, paired}
use Rattle.sv_names.specs.Named.{Around, nearest, placed_at, local_size, raised, result_named, further}
use Rattle.sv_names.specs.Values.{alone, one_item, assigned}
use Rattle.sv_names.specs.Selects.{container_of}
use Rattle.sv_names.specs.Targets.{lvalue}
use Rattle.sv_names.specs.Arguments.{values_stand}
use Rattle.sv_names.specs.Calls.{wait_stands}
use Rattle.sv_names.specs.Things.{root_thing, variable_typed}
use Rattle.sv_names.specs.Expressions.{expr, actual_args, target, number_in, called_in, system_of}
use Rattle.sv_names.specs.Entries.{Entry, entry, A_given, A_local, decl_entries, blocks, blocks_of, items_in}
use Rattle.sv_names.specs.Code.{Numbered, Code, followed, changed, just, empty, ◌>>◌, as_routine, statement, single, plain, over, locals_of}
use Rattle.sv_names.specs.Assignments.{Amount, amount_of, timed, timing_stands, assignment, blocking, later, operated, stepped}
use Rattle.sv_names.specs.Events.{control, named_event, in_event, system_task, system_ignored, call_statement}
use Rattle.sv_names.specs.Cases.{Heads, case_heads, case_code}
use Rattle.sv_names.specs.Watched.{star_watches}
use Rattle.sv_names.specs.Blocks.{scopes_made, after_scopes, first_name, inner_scope, inside, scope_stands, end_label, declared_variable, variable_spot, decls_code, in_sequence}

-- the place of a statement: its first token, which can be a label
abbrev pub place_from : Place → Option Name → Place
place_from at None = at
place_from at (Some n) = n.at

-- E15, E42: a condition is one number
abbrev pub condition : Around → tree.Expr → Checked (Hoisted flat.Expr)
condition ar e = raised ar (λ i. given alone (number_in i e))

-- ---- waiting

-- E27, E28: what may wait, where it stands
abbrev pub may_wait_here : Around → Place → Checked (Unit {0})
may_wait_here ar at = wait_stands ar at where_also timing_stands ar

-- `#d` (9.4.1)
abbrev pub delay_form : Amount → Hoisted Form
delay_form d = mapped (λ x. form.Delay x d.in_ticks) d.amount

-- E48: `##` without a default clocking (14.11)
abbrev pub cycles_form : Around → Place → Checked Amount → Checked (Hoisted Form)
cycles_form ar at d = by ar.default_clocking
  where
    by : Option Path → Checked (Hoisted Form)
    by None = broken_at 48 at where_also only d
    by (Some p) = given (λ a. mapped (form.Cycles (ar.numbers.clocking p)) a.amount) d

-- `@*` watches what the statement after it reads (9.4.2.2)
abbrev pub after_star : Place → Code → Code
after_star at c = record c { make = λ n. watching (c.make n) n }
  where
    watching : List Stmt × List Routine → ℕ → List Stmt × List Routine
    watching p n = (record { at = at; hidden = []; calls = []; form = form.At (star_watches n p) } ∷ p.0, p.1)

-- `->` of one event
abbrev pub trigger_form : Place → Typed → Checked (Hoisted Form)
trigger_form at t = one_item t ▷ (λ x. if is_event x.ty then Good (mapped form.Trigger x.code) else broken_at 15 at)

-- E15: what `->` triggers is one event (15.5.1)
abbrev pub triggered : Around → tree.Lval → Checked (Hoisted Form)
triggered ar (tree.Lval.Post r s) = expr ar (tree.Post r s) ▷ trigger_form (place_of_root r)
triggered ar (tree.Lval.Join at ls) = broken_at 15 at

-- ---- calls

-- a call as a statement
abbrev pub call_of : Around → Place → tree.Expr → Checked Code
call_of ar at (tree.Post r s) =
    given (single at) (raised ar (λ i. given call_statement (called_in i (place_of_root r) false (root_thing i r) s)))
call_of ar at (tree.System n a) = given (single at) (raised ar (λ i. system_task i n.at a (system_of n)))
call_of ar at (tree.SuperNew p new a) = broken_at 38 p where_also values_stand (actual_args ar [] a)
call_of ar at e = broken_at 7 (place_of e)

-- `void'(..)`, which drops the value of a call (13.4.1)
abbrev pub ignored : Around → Place → tree.Expr → Checked Code
ignored ar at (tree.Post r s) =
    given (single at) (raised ar (λ i. given call_statement (called_in i (place_of_root r) true (root_thing i r) s)))
ignored ar at (tree.System n a) = given (single at) (raised ar (λ i. system_ignored i n.at a (system_of n)))
ignored ar at (tree.SuperNew p new a) = broken_at 38 p where_also values_stand (actual_args ar [] a)
ignored ar at e = broken_at 7 (place_of e)

-- ---- `return`

-- the result in the scope of a function
abbrev pub result_variable : ℕ → ℕ → List Known → Option Named
result_variable up place [] = None
result_variable up place (k ∷ ks) = or_next k.value (result_variable up (further place (local_size k.value)) ks)
  where
    as_named : Checked Named → Option Named
    as_named (Good (Itself c n)) = Some (result_named n)
    as_named v = None

    or_next : Checked Named → Option Named → Option Named
    or_next (Good (Itself c n)) next = as_named (placed_at up place (Good (Itself c n)))
    or_next v next = next

-- the result variable of the function around
abbrev pub result_from : ℕ → Path → List Scope → Option Named
result_from up p [] = None
result_from up p (s ∷ ss) =
    nearest (if same_path p s.path then result_variable up 0 s.known else None)
    (result_from (if s.enters then further up 1 else up) p ss)

-- the result variable as a target
abbrev pub result_targets : Around → Place → Path → Hoisted (List Lvalue)
result_targets ar at p = of_named (result_from 0 p ar.scopes)
  where
    of_typed : Option Typed → Hoisted (List Lvalue)
    of_typed None = pure []
    of_typed (Some t) = mapped (λ l. l ∷ []) (lvalue ar t)

    of_named : Option Named → Hoisted (List Lvalue)
    of_named None = pure []
    of_named (Some n) = of_typed (variable_typed ar at n)

-- E29, E30, E16: `return`, with the result of a function or without one (12.8)
abbrev pub return_of : Around → Place → Place → Option tree.Expr → Returns → Checked (Hoisted Form)
return_of ar at word None Outside = broken_at 29 word
return_of ar at word (Some e) Outside = broken_at 29 word where_also only (expr ar e)
return_of ar at word None NoValue = Good (pure (form.Return [] None))
return_of ar at word (Some e) NoValue = broken_at 30 word where_also only (expr ar e)
return_of ar at word None (SomeValue p t) = broken_at 30 word
return_of ar at word (Some e) (SomeValue p t) =
    both t (expr ar e) ▷ (λ q. given (λ v. paired (λ ls x. form.Return ls (Some x)) (result_targets ar at p) v)
    (assigned ar q.0 (place_of e) q.1))

-- ---- forks

-- the kind of a join
abbrev pub join_of : JoinWord → JoinKind
join_of join_word.All = join_kind.All
join_of join_word.Any = join_kind.Any
join_of join_word.None = join_kind.None

-- all but `join_none` wait
abbrev pub waits_for_children : JoinWord → Bool
waits_for_children join_word.None = false
waits_for_children j = true

-- in a fork a function may wait, and nothing is left through it
abbrev pub in_fork : Around → Around
in_fork ar = record ar { may_not_wait = ar.is_comb; is_loop = false; returns = Outside }

-- the initializers have a routine of their own where there are some
abbrev pub some_code : List Stmt → Bool
some_code [] = false
some_code (s ∷ ss) = true

-- a routine for initializers, if there are some
abbrev pub first_routine : Place → Code → Numbered (Option RoutineId)
first_routine at c = by (some_code (c.make 0).0)
  where
    by : Bool → Numbered (Option RoutineId)
    by true = changed Some (as_routine at c)
    by false = record { objects = c.objects; make = λ n. (None, []) }

-- a fork with its children
abbrev pub fork_code : Place → List Declared → JoinWord → Code → Numbered (List RoutineId) → Code
fork_code at ls j inits children =
    followed (λ i cs. statement at (pure (form.Fork ls i cs (join_of j))) ∷ []) (first_routine at inits) children

-- ---- loops

-- in the body of a loop
abbrev pub in_loop : Around → Around
in_loop ar = record ar { is_loop = true }

-- its routines are the body, the step, and the first assignment with the loop
abbrev pub for_code : Place → List Declared → Code → Hoisted flat.Expr → Code → Code → Code
for_code at ls first test body step =
    changed (λ r. statement at (pure (form.Block ls r)) ∷ [])
    (as_routine at (first >> over {R = RoutineId × RoutineId} at (mapped (λ c p. form.While c p.0 (Some p.1)) test)
    (followed (λ b s. (b, s)) (as_routine at body) (as_routine at step))))

-- E7: what is walked is an array
abbrev pub walked : Place → Typed → Checked Typed
walked at t = if is_array t.ty then Good t else broken_at 7 at

-- a walk through an array
abbrev pub foreach_code : Around → Place → Scope → Typed → Code → Code
foreach_code ar at s t body = by t.ty
  where
    by : Ty → Code
    by (Fixed b u) = over at (pure (form.ForeachElement b)) (as_routine at body)
    by u = over at (mapped (λ q. form.Foreach (container_of q) (data_of ar.numbers (key_of u))) t.code) (as_routine at body)

-- a loop's variable, declared and given its first value
abbrev pub for_entries : WrittenType → Name → tree_stmt.Stmt → List Entry
for_entries w n x = items_in w ++ entry n (A_local w None) ∷ blocks x

-- the type of the variable of a `foreach`
abbrev pub foreach_type : Checked Typed → Checked Ty
foreach_type (Good t) = Good (key_of t.ty)
foreach_type (Broken f) = Broken f

-- the last part of a `for`
abbrev pub step_code : Around → Place → ForStep → Checked Code
step_code ar at (tree_stmt.ForStep.Assign l e) =
    given (single at) (raised ar (λ i. assignment i (target By_statement i l) None (tree_stmt.Value e)))
step_code ar at (tree_stmt.ForStep.Operator a) = given (single at) (raised ar (λ i. operated i a))
step_code ar at (tree_stmt.ForStep.Step p l w) = given (single at) (raised ar (λ i. stepped i l w))

-- ---- the table

-- the variable of a loop is automatic
abbrev pub automatic_loop : Around → Around
automatic_loop ar = record ar { is_automatic = true }

-- a conditional statement, with its branches
abbrev pub if_code : Place → Hoisted flat.Expr → Code → Code
if_code at c x = over at (mapped (λ e r. form.If e r None) c) (as_routine at x)

-- with both branches
abbrev pub if_else_code : Place → Hoisted flat.Expr → Code → Code → Code
if_else_code at c x y =
    over {R = RoutineId × RoutineId} at (mapped (λ e p. form.If e p.0 (Some p.1)) c)
    (followed (λ a b. (a, b)) (as_routine at x) (as_routine at y))

-- `if` without an `else`
abbrev pub if_given : Place → Checked (Hoisted flat.Expr) → Checked Code → Checked Code
if_given at c x = given (λ p. if_code at p.0 p.1) (both c x)

-- `if` with an `else`
abbrev pub if_else_given : Place → Checked (Hoisted flat.Expr) → Checked (Code × Code) → Checked Code
if_else_given at c xs = given (λ p. if_else_code at p.0 p.1.0 p.1.1) (both c xs)

-- `while`
abbrev pub while_given : Place → Checked (Hoisted flat.Expr) → Checked Code → Checked Code
while_given at c x = given (λ p. over at (mapped (λ c r. form.While c r None) p.0) (as_routine at p.1)) (both c x)

-- a turn of a `do`: that of a `while` whose test comes after its body
abbrev pub do_turn : Place → Code × Hoisted flat.Expr → Code
do_turn at p = over at (mapped (λ c r. form.While c r None) p.1) (as_routine at p.0)

-- `do`
abbrev pub do_given : Place → Checked (Code × Hoisted flat.Expr) → Checked Code
do_given at x = given (λ p. over at (pure form.Do) (as_routine at (do_turn at p))) x

-- `repeat`
abbrev pub repeat_given : Place → Checked (Hoisted flat.Expr) → Checked Code → Checked Code
repeat_given at c x = given (λ p. over at (mapped (λ c r. form.Repeat c r) p.0) (as_routine at p.1)) (both c x)

-- `forever`
abbrev pub forever_given : Place → Checked Code → Checked Code
forever_given at x = given (λ c. over at (pure form.Forever) (as_routine at c)) x

-- `case`
abbrev pub case_given : Place → CaseWord → CaseItems → Checked (Hoisted Heads) → Checked (List Code) → Checked Code
case_given at w is h cs = given (λ p. case_code at w is p.0 p.1) (both h cs)

-- an item of a `case` before others
abbrev pub code_before : Checked Code → Checked (List Code) → Checked (List Code)
code_before x xs = given (λ p. p.0 ∷ p.1) (both x xs)

-- a child of a fork before others
abbrev pub child_before : Place → Checked Code → Checked (Numbered (List RoutineId)) → Checked (Numbered (List RoutineId))
child_before at x xs = given (λ p. followed (λ r rs. r ∷ rs) (as_routine at p.0) p.1) (both x xs)

-- a block with the variables that it declares
abbrev pub block_given : Place → List Declared → Checked Code → Checked Code
block_given at ls x = given (λ c. changed (λ r. statement at (pure (form.Block ls r)) ∷ []) (as_routine at c)) x

-- a statement before others
abbrev pub then_code : Place → Checked (Hoisted Form) → Checked Code → Checked Code
then_code at f c = given (λ p. single at p.0 >> p.1) (both f c)

-- an event control before a statement
abbrev pub at_event : Around → Place → Event → Checked Code → Checked Code
at_event ar at (tree_stmt.Event.Named n) x = then_code at (control ar (named_event n ∷ [])) x
at_event ar at tree_stmt.Star x = given (after_star at) x
at_event ar at (tree_stmt.Parts ps) x = then_code at (control ar ps) x

-- a block in its scope
abbrev pub block_in : Around → Place → Scope → List Entry → List Decl → (Around → Checked Code) → Checked Code
block_in ar at s es ds go =
    block_given at (locals_of ar.numbers s) (in_sequence (decls_code (inside s ar) ds) (go (inside s ar)))
    where_also scope_stands s es

-- a fork in its scope
abbrev pub fork_in :
    Around → Place → Scope → List Entry → List Decl → JoinWord → (Around → Checked (Numbered (List RoutineId))) → Checked Code
fork_in ar at s es ds j go =
    given (λ p. fork_code at (locals_of ar.numbers s) j p.0 p.1)
    (both (decls_code (inside s ar) ds) (go (in_fork (inside s ar))))
    where_also scope_stands s es

-- a `for` that declares its variable
abbrev pub for_in :
    Around → Place → Scope → List Entry → Name → tree.Expr → tree.Expr → ForStep → (Around → Checked Code) → Checked Code
for_in ar at s es n v e l go =
    given (λ p. for_code at (locals_of ar.numbers s) p.0.0 p.0.1 p.1.0 p.1.1)
    (both (both (first_of_loop (inside s ar)) (condition (inside s ar) e))
    (both (go (in_loop (inside s ar))) (step_code (inside s ar) at l)))
    where_also scope_stands s es
  where
    first_of_loop : Around → Checked Code
    first_of_loop i =
        given (single at) (raised i (λ s. assignment s (declared_variable s n ▷ variable_spot s at) None (tree_stmt.Value v)))

-- a `foreach` in its scope
abbrev pub foreach_in : Around → Place → Scope → List Entry → Checked Typed → (Around → Checked Code) → Checked Code
foreach_in ar at s es t go =
    given (λ p. foreach_code ar at s p.0 p.1) (both t (go (in_loop (inside s ar)))) where_also scope_stands s es

-- the variable of a `foreach`, and the blocks in it
abbrev pub foreach_entries : Checked Typed → Name → tree_stmt.Stmt → List Entry
foreach_entries t i x = entry i (A_given (foreach_type t)) ∷ blocks x

-- what a block declares
abbrev pub block_entries : Around → List Decl → tree_stmt.Stmts → List Entry
block_entries ar ds xs = flat_map (decl_entries ar.is_automatic) ds ++ blocks_of xs

-- the array that a `foreach` walks
abbrev pub walked_array : Around → Name → Checked Typed
walked_array ar a = expr ar (tree.Post (root.Plain a) tree.NoSuffix) ▷ walked a.at

abbrev mutual
  -- a statement
  pub stmt : Around → tree_stmt.Stmt → Checked Code
  stmt ar (tree_stmt.Statement at label b) = body ar at label b

  -- statements one after another
  pub stmts : Around → tree_stmt.Stmts → Checked Code
  stmts ar tree_stmt.NoStmt = Good empty
  stmts ar (tree_stmt.AndStmt x xs) = in_sequence (stmt ar x) (stmts (after_scopes (scopes_made x) ar) xs)

  -- the children of a fork, each a routine
  pub children : Around → Place → tree_stmt.Stmts → Checked (Numbered (List RoutineId))
  children ar at tree_stmt.NoStmt = Good (just [])
  children ar at (tree_stmt.AndStmt x xs) =
      child_before at (stmt ar x) (children (after_scopes (scopes_made x) ar) at xs)

  -- the statements of the items of a `case`
  pub items : Around → CaseItems → Checked (List Code)
  items ar tree_stmt.NoCaseItem = Good []
  items ar (tree_stmt.Labels es x rest) = code_before (stmt ar x) (items (after_scopes (scopes_made x) ar) rest)
  items ar (tree_stmt.Default x rest) = code_before (stmt ar x) (items (after_scopes (scopes_made x) ar) rest)

  -- a statement without its label, at its first token
  pub body : Around → Place → Option Name → tree_stmt.Body → Checked Code
  body ar at label tree_stmt.Null = Good (plain (place_from at label) form.Null)
  body ar at label (tree_stmt.Block n ds xs end) =
      block_in ar (place_from at label) (inner_scope ar (first_name n label) (block_entries ar ds xs))
      (block_entries ar ds xs) ds (λ i. stmts i xs)
      where_also end_label (first_name n label) end
  body ar at label (tree_stmt.Fork n ds xs j end) =
      fork_in ar (place_from at label) (inner_scope ar (first_name n label) (block_entries ar ds xs))
      (block_entries ar ds xs) ds j (λ i. children i (place_from at label) xs)
      where_also end_label (first_name n label) end
      where_also rule 27 at (waits_for_children j && ar.may_not_wait)
  body ar at label (tree_stmt.Blocking a) =
      given (single (place_from at label)) (raised ar (λ i. blocking i a)) where_also timed ar a.delay
  body ar at label (tree_stmt.Nonblocking a) = given (single (place_from at label)) (raised ar (λ i. later i a))
  body ar at label (tree_stmt.Body.Operator a) = given (single (place_from at label)) (raised ar (λ i. operated i a))
  body ar at label (tree_stmt.Body.Step l w) = given (single (place_from at label)) (raised ar (λ i. stepped i l w))
  body ar at label (tree_stmt.Call e) = call_of ar (place_from at label) e
  body ar at label (tree_stmt.Ignore p e) = ignored ar (place_from at label) e
  body ar at label (tree_stmt.If e x) = if_given (place_from at label) (condition ar e) (stmt ar x)
  body ar at label (tree_stmt.IfElse e x y) =
      if_else_given (place_from at label) (condition ar e) (both (stmt ar x) (stmt (after_scopes (scopes_made x) ar) y))
  body ar at label (tree_stmt.Case w e is) =
      case_given (place_from at label) w is (raised ar (λ i. case_heads i e is)) (items ar is)
  body ar at label (tree_stmt.For (tree_stmt.Declare w n v) e l x) =
      for_in ar (place_from at label) (inner_scope (automatic_loop ar) None (for_entries w n x)) (for_entries w n x) n v e l
      (λ i. stmt i x)
  body ar at label (tree_stmt.For (tree_stmt.ForInit.Assign t v) e l x) =
      given (λ p. for_code (place_from at label) [] (single (place_from at label) p.0.0) p.0.1 p.1.0 p.1.1)
      (both (both (raised ar (λ i. assignment i (target By_statement i t) None (tree_stmt.Value v))) (condition ar e))
      (both (stmt (in_loop ar) x) (step_code ar (place_from at label) l)))
  body ar at label (tree_stmt.While e x) = while_given (place_from at label) (condition ar e) (stmt (in_loop ar) x)
  body ar at label (tree_stmt.Do x e) = do_given (place_from at label) (both (stmt (in_loop ar) x) (condition ar e))
  body ar at label (tree_stmt.Repeat e x) = repeat_given (place_from at label) (condition ar e) (stmt (in_loop ar) x)
  body ar at label (tree_stmt.Forever x) = forever_given (place_from at label) (stmt (in_loop ar) x)
  body ar at label (tree_stmt.Foreach a i x) =
      foreach_in ar (place_from at label) (inner_scope ar None (foreach_entries (walked_array ar a) i x))
      (foreach_entries (walked_array ar a) i x) (walked_array ar a) (λ j. stmt j x)
  body ar at label (tree_stmt.After d x) =
      then_code (place_from at label) (raised ar (λ i. given delay_form (amount_of i d.amount))) (stmt ar x)
      where_also may_wait_here ar d.at
  body ar at label (tree_stmt.On e x) = at_event ar (place_from at label) e (stmt ar x) where_also may_wait_here ar at
  body ar at label (tree_stmt.Cycles p e x) =
      then_code (place_from at label) (raised ar (λ i. cycles_form i p (amount_of i e))) (stmt ar x)
      where_also may_wait_here ar p
  body ar at label (tree_stmt.Wait p e x) =
      then_code (place_from at label) (given (mapped form.Wait) (condition (in_event ar) e)) (stmt ar x)
      where_also may_wait_here ar p
  body ar at label tree_stmt.WaitFork = Good (plain (place_from at label) form.WaitFork) where_also may_wait_here ar at
  body ar at label tree_stmt.DisableFork = Good (plain (place_from at label) form.DisableFork)
  body ar at label (tree_stmt.Trigger l) = given (single (place_from at label)) (raised ar (λ i. triggered i l))
  body ar at label tree_stmt.Break = Good (plain (place_from at label) form.Break) where_also rule 29 at (not ar.is_loop)
  body ar at label tree_stmt.Continue =
      Good (plain (place_from at label) form.Continue) where_also rule 29 at (not ar.is_loop)
  body ar at label (tree_stmt.Return e) =
      given (single (place_from at label)) (raised ar (λ i. return_of i (place_from at label) at e i.returns))

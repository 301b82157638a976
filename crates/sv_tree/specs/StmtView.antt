-- What the statements of the program stand for: the same statements without pointers.
use Rattle.std.specs.Prelude.{◌≡◌, List, [], ◌∷◌, map, option_map, refl}
use Rattle.std.proofs.Common.{ap}
use Rattle.sv_tree.specs.declared.types.WrittenType.{WrittenType, Vector, Atom, Text, Event as Event_type, Semaphore, Mailbox, MailboxOf', Named, Enum, EnumOf'}
use Rattle.sv_tree.specs.declared.types.ImpliedType.{ImpliedType}
use Rattle.sv_tree.specs.declared.types.ImpliedType.TheVariants as implied_types
use Rattle.sv_tree.specs.declared.types.Range.{Range}
use Rattle.sv_tree.specs.declared.types.EnumItem.{EnumItem}
use Rattle.sv_tree.specs.declared.expr.Lval.{Lval, Post, Join', Row_of-Lval, end_of-Lval, more_of-Lval, items-the_row-Lval}
use Rattle.sv_tree.specs.declared.statement.Decl.{Decl}
use Rattle.sv_tree.specs.declared.statement.Declarator.{Declarator}
use Rattle.sv_tree.specs.declared.statement.Delay.{Delay}
use Rattle.sv_tree.specs.declared.statement.Dimension.{Dimension}
use Rattle.sv_tree.specs.declared.statement.Dimension.TheVariants as dimensions
use Rattle.sv_tree.specs.declared.statement.Init.{Init}
use Rattle.sv_tree.specs.declared.statement.Init.TheVariants as inits
use Rattle.sv_tree.specs.declared.statement.Event.{Event}
use Rattle.sv_tree.specs.declared.statement.Event.TheVariants as events
use Rattle.sv_tree.specs.declared.statement.EventPart.{EventPart}
use Rattle.sv_tree.specs.declared.statement.BlockingAssignment.{BlockingAssignment}
use Rattle.sv_tree.specs.declared.statement.NonblockingAssignment.{NonblockingAssignment}
use Rattle.sv_tree.specs.declared.statement.OperatorAssignment.{OperatorAssignment}
use Rattle.sv_tree.specs.declared.statement.ForInit.{ForInit}
use Rattle.sv_tree.specs.declared.statement.ForInit.TheVariants as for_inits
use Rattle.sv_tree.specs.declared.statement.ForStep.{ForStep}
use Rattle.sv_tree.specs.declared.statement.ForStep.TheVariants as for_steps
use Rattle.sv_tree.specs.declared.statement.Stmt.{Stmt}
use Rattle.sv_tree.specs.declared.statement.CaseItem.{CaseItem, Labels', Default'}
use Rattle.sv_tree.specs.declared.statement.Body.{Body, Null, Block', Fork', Blocking, Nonblocking, Operator, Step, Call, Ignore, If', IfElse', Case', For', While', Do', Repeat', Forever', Foreach', After', On', Cycles', Wait', WaitFork, DisableFork, Trigger, Break, Continue, Return, Row_of-Stmt, end_of-Stmt, more_of-Stmt, items-the_row-Stmt, Row_of-CaseItem, end_of-CaseItem, more_of-CaseItem, items-the_row-CaseItem}
use Rattle.sv_tree.specs.Expr as tree
use Rattle.sv_tree.specs.Types as types
use Rattle.sv_tree.specs.Stmt as stmts
use Rattle.sv_tree.specs.View.{expr, actuals, expr_list, suffix_list}

abbrev mutual
  pub lval : Lval → tree.Lval
  lval (Post root suffixes) = tree.Lval.Post root (suffix_list suffixes.items)
  lval (Join' at shape row) = tree.Lval.Join at (lvals row)

  pub lvals : {m : _} → Row_of-Lval m → tree.Lvals
  lvals end_of-Lval = tree.NoLval
  lvals (more_of-Lval l rest) = tree.AndLval (lval l) (lvals rest)

abbrev pub range : Range → types.Range
range r = record { at = r.at; left = expr r.left; right = expr r.right }

abbrev pub enum_item : EnumItem → types.EnumItem
enum_item i = record { name = i.name; value = option_map expr i.value }

abbrev pub type : WrittenType → types.WrittenType
type (Vector at w s r) = types.WrittenType.Vector at w s (option_map (λ b. range b.value) r)
type (Atom at w s) = types.Atom at w s
type (Text at) = types.Text at
type (Event_type at) = types.Event at
type (Semaphore at) = types.Semaphore at
type (Mailbox at) = types.Mailbox at
type (MailboxOf' at p t) = types.MailboxOf at (type t)
type (Named n) = types.Named n
type (Enum at is) = types.Enum at (map enum_item is.items)
type (EnumOf' at p t is) = types.EnumOf at (type t) (map enum_item is.items)

abbrev pub implied : ImpliedType → types.ImpliedType
implied implied_types.Unwritten = types.Unwritten
implied (implied_types.Vector at s r) = types.ImpliedType.Vector at s (option_map (λ b. range b.value) r)
implied (implied_types.Written t) = types.Written (type t)

abbrev pub dimension : Dimension → stmts.Dimension
dimension (dimensions.Empty at) = stmts.Empty at
dimension (dimensions.Size at e) = stmts.Size at (expr e)
dimension (dimensions.Bounds r) = stmts.Bounds (range r)
dimension (dimensions.Queue at) = stmts.Queue at
dimension (dimensions.Key at t) = stmts.Key at (type t)
dimension (dimensions.Named at n) = stmts.Dimension.Named at n

abbrev pub init : Init → stmts.Init
init (inits.Value e) = stmts.Value (expr e)
init (inits.New at a) = stmts.New at (actuals a)
init (inits.Copy at n) = stmts.Copy at n
init (inits.Array at e o) = stmts.Array at (expr e) (option_map expr o)

abbrev pub declarator : Declarator → stmts.Declarator
declarator d = record { name = d.name; dimension = option_map dimension d.dimension; init = option_map init d.init }

abbrev pub decl : Decl → stmts.Decl
decl d = record { life = d.life; of = type d.of; names = map declarator d.names.items }

abbrev pub delay : Delay → stmts.Delay
delay d = record { at = d.at; amount = expr d.amount }

abbrev pub event_part : EventPart → stmts.EventPart
event_part p = record { edge = p.edge; expr = expr p.expr; condition = option_map expr p.condition }

abbrev pub event : Event → stmts.Event
event (events.Named n) = stmts.Event.Named n
event events.Star = stmts.Star
event (events.Parts ps) = stmts.Parts (map event_part ps.items)

abbrev pub blocking : BlockingAssignment → stmts.BlockingAssignment
blocking a = record { target = lval a.target; delay = option_map delay a.delay; value = init a.value }

abbrev pub nonblocking : NonblockingAssignment → stmts.NonblockingAssignment
nonblocking a = record { target = lval a.target; delay = option_map delay a.delay; value = expr a.value }

abbrev pub operator : OperatorAssignment → stmts.OperatorAssignment
operator a = record { target = lval a.target; word = a.word; value = expr a.value }

abbrev pub for_init : ForInit → stmts.ForInit
for_init (for_inits.Declare t n e) = stmts.Declare (type t) n (expr e)
for_init (for_inits.Assign l e) = stmts.ForInit.Assign (lval l) (expr e)

abbrev pub for_step : ForStep → stmts.ForStep
for_step (for_steps.Assign l e) = stmts.ForStep.Assign (lval l) (expr e)
for_step (for_steps.Operator a) = stmts.ForStep.Operator (operator a)
for_step (for_steps.Step at l w) = stmts.ForStep.Step at (lval l) w

abbrev mutual
  pub body : Body → stmts.Body
  body Null = stmts.Null
  body (Block' n ds shape row e) = stmts.Block n (map decl ds.items) (list row) e
  body (Fork' n ds shape row j e) = stmts.Fork n (map decl ds.items) (list row) j e
  body (Blocking a) = stmts.Blocking (blocking a.value)
  body (Nonblocking a) = stmts.Nonblocking (nonblocking a.value)
  body (Operator a) = stmts.Body.Operator (operator a.value)
  body (Step l w) = stmts.Body.Step (lval l) w
  body (Call e) = stmts.Call (expr e)
  body (Ignore at e) = stmts.Ignore at (expr e)
  body (If' e p at1 l1 b1) = stmts.If (expr e) (stmts.Statement at1 l1 (body b1))
  body (IfElse' e p at1 l1 b1 q at2 l2 b2) = stmts.IfElse (expr e) (stmts.Statement at1 l1 (body b1)) (stmts.Statement at2 l2 (body b2))
  body (Case' w e shape row) = stmts.Case w (expr e) (case_items row)
  body (For' f e l p at1 l1 b1) = stmts.For (for_init f.value) (expr e) (for_step l.value) (stmts.Statement at1 l1 (body b1))
  body (While' e p at1 l1 b1) = stmts.While (expr e) (stmts.Statement at1 l1 (body b1))
  body (Do' p at1 l1 b1 e) = stmts.Do (stmts.Statement at1 l1 (body b1)) (expr e)
  body (Repeat' e p at1 l1 b1) = stmts.Repeat (expr e) (stmts.Statement at1 l1 (body b1))
  body (Forever' p at1 l1 b1) = stmts.Forever (stmts.Statement at1 l1 (body b1))
  body (Foreach' a i p at1 l1 b1) = stmts.Foreach a i (stmts.Statement at1 l1 (body b1))
  body (After' d p at1 l1 b1) = stmts.After (delay d) (stmts.Statement at1 l1 (body b1))
  body (On' e p at1 l1 b1) = stmts.On (event e) (stmts.Statement at1 l1 (body b1))
  body (Cycles' at e p at1 l1 b1) = stmts.Cycles at (expr e) (stmts.Statement at1 l1 (body b1))
  body (Wait' at e p at1 l1 b1) = stmts.Wait at (expr e) (stmts.Statement at1 l1 (body b1))
  body WaitFork = stmts.WaitFork
  body DisableFork = stmts.DisableFork
  body (Trigger l) = stmts.Trigger (lval l)
  body Break = stmts.Break
  body Continue = stmts.Continue
  body (Return e) = stmts.Return (option_map expr e)

  pub list : {m : _} → Row_of-Stmt m → stmts.Stmts
  list end_of-Stmt = stmts.NoStmt
  list (more_of-Stmt at1 l1 b1 rest) = stmts.AndStmt (stmts.Statement at1 l1 (body b1)) (list rest)

  pub case_items : {m : _} → Row_of-CaseItem m → stmts.CaseItems
  case_items end_of-CaseItem = stmts.NoCaseItem
  case_items (more_of-CaseItem i rest) = case_item i (case_items rest)

  pub case_item : CaseItem → stmts.CaseItems → stmts.CaseItems
  case_item (Labels' es p at1 l1 b1) rest = stmts.Labels (expr_list es.items) (stmts.Statement at1 l1 (body b1)) rest
  case_item (Default' p at1 l1 b1) rest = stmts.Default (stmts.Statement at1 l1 (body b1)) rest

abbrev pub stmt : Stmt → stmts.Stmt
stmt s = stmts.Statement s.at s.label (body s.body)

-- the lists that the vectors in a tree stand for
abbrev pub stmt_list : List Stmt → stmts.Stmts
stmt_list [] = stmts.NoStmt
stmt_list (s ∷ ss) = stmts.AndStmt (stmt s) (stmt_list ss)

abbrev pub lval_list : List Lval → tree.Lvals
lval_list [] = tree.NoLval
lval_list (l ∷ ls) = tree.AndLval (lval l) (lval_list ls)

abbrev pub case_item_list : List CaseItem → stmts.CaseItems
case_item_list [] = stmts.NoCaseItem
case_item_list (i ∷ is) = case_item i (case_item_list is)

pub lvals_are : (m : _) (row : Row_of-Lval m) → lvals row ≡ lval_list (items-the_row-Lval m row)
lvals_are m end_of-Lval = refl
lvals_are m (more_of-Lval {n = n} l rest) = ap (λ ls. tree.AndLval (lval l) ls) (lvals_are n rest)

pub stmts_are : (m : _) (row : Row_of-Stmt m) → list row ≡ stmt_list (items-the_row-Stmt m row)
stmts_are m end_of-Stmt = refl
stmts_are m (more_of-Stmt {n = n} at1 l1 b1 rest) = ap (λ ss. stmts.AndStmt (stmts.Statement at1 l1 (body b1)) ss) (stmts_are n rest)

pub case_items_are : (m : _) (row : Row_of-CaseItem m) → case_items row ≡ case_item_list (items-the_row-CaseItem m row)
case_items_are m end_of-CaseItem = refl
case_items_are m (more_of-CaseItem {n = n} i rest) = ap (λ is. case_item i is) (case_items_are n rest)

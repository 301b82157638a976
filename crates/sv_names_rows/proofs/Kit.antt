-- Words for the trees of texts, and for what a run of a flat design shows.
use Rattle.std.proofs.Common.{ℕ, zero, suc, ◌+◌, Bool, true, false, List, [], ◌∷◌, ◌++◌}
use Rattle.std.specs.Prelude.{Option, Some, None, codes}
use Prim.Native.String.{String}
use Rattle.sv_value.specs.declared.place.Place.{Place}
use Rattle.sv_flat.specs.declared.choices.Choices.{Choices}
use Rattle.sv_flat.specs.declared.design.Parts.{Parts}
use Rattle.sv_flat.specs.Directed.{directed, log_text, outcome, Outcome}
use Rattle.sv_flat.specs.Config.{Config}
use Rattle.sv_flat.specs.Texts.{wave_text}
use Rattle.sv_flat.specs.Race.{first_broken}
use Rattle.sv_flat.specs.Race.Writers.{Broken as Broken_race}
use Rattle.sv_tree.specs.declared.token.Timescale.{Timescale}
use Rattle.sv_tree.specs.declared.word.Name.{Name}
use Rattle.sv_tree.specs.declared.word.Sign.{Sign}
use Rattle.sv_tree.specs.declared.word.Life.{Life}
use Rattle.sv_tree.specs.declared.word.BinaryWord.{BinaryWord}
use Rattle.sv_tree.specs.declared.word.EdgeWord.{EdgeWord}
use Rattle.sv_tree.specs.declared.word.ProcedureWord.{ProcedureWord}
use Rattle.sv_tree.specs.declared.word.Direction.{Direction}
use Rattle.sv_tree.specs.declared.word.PortDirection.{PortDirection}
use Rattle.sv_tree.specs.declared.word.ParamWord.{ParamWord}
use Rattle.sv_tree.specs.declared.expr.Root.TheVariants as root
use Rattle.sv_tree.specs.declared.class.Qualifiers.{Qualifiers}
use Rattle.sv_tree.specs.Expr as tree
use Rattle.sv_tree.specs.Types.{WrittenType, ImpliedType, Range, EnumItem}
use Rattle.sv_tree.specs.Stmt as stmts
use Rattle.sv_tree.specs.Units as units
use Rattle.sv_tree.specs.Classes as classes
use Rattle.sv_tree.specs.Items as items
use Rattle.sv_tree.specs.Descriptions as descriptions
use Rattle.sv_names.specs.declared.checked.Fault.{Fault}
use Rattle.sv_names.specs.declared.checked.Checked.{Checked}
use Rattle.sv_names.specs.declared.checked.Checked.TheVariants.{Good, Broken}

-- ---- places and names

abbrev pub at : (file line col : ℕ) → Place
at f l c = record { file = f; line = l; col = c }

abbrev pub name : Place → String → Name
name p s = record { at = p; text = codes s }

-- `timescale A/B, where both are powers of ten of a femtosecond
abbrev pub scale : (unit precision : ℕ) → Place → Timescale
scale u p at = record { unit = u; precision = p; at = at }

-- ---- expressions

-- a number as written
abbrev pub number : Place → String → tree.Expr
number p s = tree.Number p (codes s)

-- a string literal with this between its quotes
abbrev pub text : Place → String → tree.Expr
text p s = tree.Text p (34 ∷ codes s ++ 34 ∷ [])

-- a name alone
abbrev pub plain : Place → String → tree.Expr
plain p s = tree.Expr.Post (root.Plain (name p s)) tree.NoSuffix

-- a name alone, as a target
abbrev pub target : Place → String → tree.Lval
target p s = tree.Lval.Post (root.Plain (name p s)) tree.NoSuffix

abbrev pub expressions : List tree.Expr → tree.Exprs
expressions [] = tree.NoExpr
expressions (e ∷ es) = tree.AndExpr e (expressions es)

abbrev pub targets : List tree.Lval → tree.Lvals
targets [] = tree.NoLval
targets (l ∷ ls) = tree.AndLval l (targets ls)

-- a call of a system task or function, with these arguments in brackets
abbrev pub system : Place → String → List tree.Expr → tree.Expr
system p s es = tree.System (name p s) (tree.Written (expressions es))

-- ---- types and declarations

abbrev pub range : Place → (left right : tree.Expr) → Range
range p l r = record { at = p; left = l; right = r }

abbrev pub enum_item : Name → Option tree.Expr → EnumItem
enum_item n e = record { name = n; value = e }

abbrev pub declarator : Name → Option stmts.Dimension → Option stmts.Init → stmts.Declarator
declarator n d i = record { name = n; dimension = d; init = i }

abbrev pub decl : Life → WrittenType → List stmts.Declarator → stmts.Decl
decl l t ns = record { life = l; of = t; names = ns }

abbrev pub typedef : WrittenType → Name → units.Typedef
typedef t n = record { of = t; name = n }

-- ---- statements

abbrev pub delay : Place → tree.Expr → stmts.Delay
delay p e = record { at = p; amount = e }

abbrev pub event_part : EdgeWord → tree.Expr → (condition : Option tree.Expr) → stmts.EventPart
event_part w e c = record { edge = w; expr = e; condition = c }

abbrev pub blocking : tree.Lval → Option stmts.Delay → stmts.Init → stmts.Body
blocking l d i = stmts.Blocking (record { target = l; delay = d; value = i })

abbrev pub nonblocking : tree.Lval → Option stmts.Delay → tree.Expr → stmts.Body
nonblocking l d e = stmts.Nonblocking (record { target = l; delay = d; value = e })

abbrev pub operated : tree.Lval → BinaryWord → tree.Expr → stmts.OperatorAssignment
operated l w e = record { target = l; word = w; value = e }

abbrev pub statements : List stmts.Stmt → stmts.Stmts
statements [] = stmts.NoStmt
statements (s ∷ ss) = stmts.AndStmt s (statements ss)

-- so many blocks in one another, from a column of the first line on, and an empty statement in the innermost
abbrev pub nested : (blocks col : ℕ) → stmts.Stmt
nested zero c = stmts.Statement (at 0 1 c) None stmts.Null
nested (suc n) c = stmts.Statement (at 0 1 c) None (stmts.Block None [] (statements (nested n (c + 6) ∷ [])) None)

-- ---- parameters, ports and instances

abbrev pub value : Name → tree.Expr → units.ParamItem
value n e = record { name = n; value = e }

abbrev pub param : ParamWord → ImpliedType → List units.ParamItem → units.Param
param w t ns = record { word = w; of = t; names = ns }

abbrev pub port : Option PortDirection → (is_net : Bool) → ImpliedType → Name → units.Port
port d w t n = record { direction = d; is_net = w; of = t; name = n }

abbrev pub instance : Name → List units.Connection → units.Instance
instance n cs = record { name = n; connections = cs }

abbrev pub instances : Name → (params : List units.Connection) → List units.Instance → items.Item
instances n ps is = items.Instances (record { of = n; params = ps; list = is })

-- ---- subroutines and classes

abbrev pub argument : Option Direction → ImpliedType → Name → (default : Option tree.Expr) → units.Argument
argument d t n e = record { direction = d; of = t; name = n; default = e }

abbrev pub head : Place → Life → units.Returns → Name → List units.Argument → units.Head
head p l r n as_ = record { at = p; life = l; returns = r; name = n; arguments = as_ }

abbrev pub routine : units.Head → List stmts.Decl → List stmts.Stmt → (label : Option Name) → units.Routine
routine h ds ss e = record { head = h; decls = ds; stmts = statements ss; label = e }

abbrev pub qualifiers : (is_local is_protected is_static is_virtual : Bool) → Qualifiers
qualifiers l p s v = record { is_local = l; is_protected = p; is_static = s; is_virtual = v }

abbrev pub unqualified : Qualifiers
unqualified = qualifiers false false false false

abbrev pub property : Qualifiers → stmts.Decl → classes.ClassItem
property q d = classes.Property (record { qualifiers = q; decl = d })

abbrev pub method : Qualifiers → units.Routine → classes.ClassItem
method q r = classes.Method (record { qualifiers = q; routine = r })

abbrev pub pure_method : Place → units.Head → classes.ClassItem
pure_method p h = classes.Pure (record { at = p; head = h })

abbrev pub class_ : Place → (is_virtual : Bool) → Name → (base : Option Name) → List classes.ClassItem → (label : Option Name) → classes.Class
class_ p v n b is e = record { at = p; is_virtual = v; name = n; base = b; items = is; label = e }

-- ---- items

abbrev pub sided : Direction → Option units.Skew → units.Sided
sided d s = record { direction = d; skew = s }

abbrev pub clocking : (default : Option Place) → Name → EdgeWord → (event : Name) → List units.ClockingItem → (label : Option Name) → items.Item
clocking d n w v is e = items.Clocking (record { default = d; name = n; edge = w; event = v; items = is; label = e })

abbrev pub net_item : Name → Option tree.Expr → units.NetItem
net_item n e = record { name = n; value = e }

abbrev pub net : Place → Sign → Option Range → List units.NetItem → items.Item
net p s r ns = items.Net (record { at = p; sign = s; range = r; names = ns })

abbrev pub assign_item : tree.Lval → tree.Expr → units.AssignItem
assign_item l e = record { target = l; value = e }

abbrev pub procedure : Place → ProcedureWord → stmts.Stmt → items.Item
procedure p w s = items.Procedure (record { at = p; word = w; body = s })

abbrev pub element : Place → Life → Name → Option (List units.Param) → List units.Port → List items.Item → (label : Option Name) → items.DesignElement
element p l n ps qs is e = record { at = p; life = l; name = n; params = ps; ports = qs; items = is; label = e }

abbrev pub module_ : Place → Life → Name → Option (List units.Param) → List units.Port → List items.Item → (label : Option Name) → descriptions.Description
module_ p l n ps qs is e = descriptions.Module (element p l n ps qs is e)

abbrev pub program_ : Place → Life → Name → Option (List units.Param) → List units.Port → List items.Item → (label : Option Name) → descriptions.Description
program_ p l n ps qs is e = descriptions.Program (element p l n ps qs is e)

-- ---- what is seen

abbrev pub fault : (rule file line col : ℕ) → Fault
fault r f l c = record { at = at f l c; rule = r }

-- lines, each with its end
abbrev pub lines : List String → List ℕ
lines [] = []
lines (s ∷ ss) = codes s ++ 10 ∷ lines ss

-- what a run of so many steps shows, and the first rule of the race check that is broken
pub record Shown : Type 0 where
  pub log : List ℕ
  pub wave : List ℕ
  pub outcome : Outcome
  pub time : ℕ
  pub steps : ℕ
  pub race : Option (ℕ × Place)

pub data Seen : Type 0 where
  Ran : Shown → Seen
  Refused : Fault → Seen

abbrev pub race_of : Option Broken_race → Option (ℕ × Place)
race_of None = None
race_of (Some b) = Some (b.rule, b.at)

abbrev pub shown : Parts → Config → Shown
shown d c =
    record {
      log = log_text true c;
      wave = wave_text d c;
      outcome = outcome c;
      time = c.time;
      steps = c.steps;
      race = race_of (first_broken d);
    }

-- the run of a flat design by choices on the active and on the reactive side, in so many steps
abbrev pub seen_in : Choices → Choices → Checked Parts → ℕ → Seen
seen_in a r (Good d) n = Ran (shown d (directed d a r n))
seen_in a r (Broken f) n = Refused f
